use Rattle.std.proofs.Common.{◌<◌, ◌∙◌, ap, map-id, nat_lt, sym}
use Rattle.std.specs.Prelude.{chars}
use Rattle.std.proofs.lemmas.Iterator.{YieldsList-from_chars}
use Rattle.std.proofs.lemmas.Iterator.Consumers.{YieldsList-end, YieldsList-so_far, YieldsList-turn}
use Rattle.mimic_watch.specs.Frames.{columns_of, mark_columns}
use Rattle.mimic_watch.proofs.Plain.{all_short, next_too_wide, one_more, parts_at}
use Rattle.mimic_watch.proofs.frame.is_wider.Goals as goal

pub returns-then-room-wide : goal.returns-then-room-wide
returns-then-room-wide c =
    let road = YieldsList-from_chars c.args.text.now c.utf8.text cc in
    let ys = c.loop-c.yielded in
    let n = c.args.columns in
    let so_far = YieldsList-so_far road ys _ c.loop-c.yielded_by in
    let turn = YieldsList-turn road ys _ c.loop-c.yielded_by _ _ c.in-Some.c c.in-Some.is c.next.ensures.steps in
    let parts = parts_at (chars c.args.text.now) ys c.in-Some.c (sym (map-id ys) ∙ so_far) turn.0 turn.1 in
    let small : c.loop-c.room < mark_columns c.in-Some.c = rw c.mark_columns-wide.ensures at c.if-room-wide.true in
    sym (ap (λ cs. nat_lt n (columns_of cs)) parts ∙ next_too_wide ys _ c.in-Some.c n c.loop-c.room c.loop-c.invariant small)

pub loop-c-preserved : goal.loop-c-preserved
loop-c-preserved c = one_more c.loop-c.yielded c.in-Some.c c.args.columns c.loop-c.room _ c.loop-c.invariant c.mark_columns-wide.ensures c.if-room-wide.false

pub returns : goal.returns
returns c =
    let end = YieldsList-end (YieldsList-from_chars c.args.text.now c.utf8.text cc) c.loop-c.yielded _ c.loop-c.yielded_by _ _ c.in-None.is c.next.ensures.steps in
    let all = sym (map-id c.loop-c.yielded) ∙ end.0 in
    sym (ap (λ cs. nat_lt c.args.columns (columns_of cs)) (sym all) ∙ all_short c.loop-c.yielded c.args.columns c.loop-c.room c.loop-c.invariant)
