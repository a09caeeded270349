use Rattle.std.proofs.Common.{arith, rules, ◌≡◌, true}
use Rattle.std.proofs.lemmas.Bool.Decides.{Decides-eqb}
use Rattle.std.proofs.lemmas.Slice.Eq.{starts_is}
use Rattle.libtest_mimic.specs.Prelude.{kind_part}
use Rattle.libtest_mimic.proofs.FullName.{stands_cut, stands_short}
use Rattle.libtest_mimic.proofs.select.stands_at.Goals as goal

pub returns-then-pattern-front : goal.returns-then-pattern-front
returns-then-pattern-front c =
    let short = stands_short c.args.pattern.now (kind_part c.args.kind.now) c.args.name.now c.args.start (omega arith) in
    let e = c.stands_in_kind_part.ensures in
    ((λ t. short.0 (e.0 t)), (λ h. e.1 (short.1 h)))

pub returns-then-stands_in_kind_part : goal.returns-then-stands_in_kind_part
returns-then-stands_in_kind_part c =
    let name = c.args.name.now in
    let tail = c.split_at.result.1.now in
    let cut = stands_cut c.args.pattern.now c.split_at.result.0.now tail (kind_part c.args.kind.now) name c.args.start _ c.split_at.ensures.front c.split_at.ensures.back c.split_at.ensures.front_len (omega (arith, c.requires)) in
    let starts = starts_is Decides-eqb name tail c.starts_with.result c.starts_with.ensures.value in (
      (λ t. cut.0 (c.stands_in_kind_part-else-pattern-front.ensures.0 (search rules)) _ (starts.0 (search rules))),
      (λ h. let parts = (cut.1 h).1 in let yes : c.starts_with.result ≡ true = starts.1 parts.0 parts.1 in search rules),
    )

pub returns-else-stands_in_kind_part : goal.returns-else-stands_in_kind_part
returns-else-stands_in_kind_part c =
    let cut = stands_cut c.args.pattern.now c.split_at.result.0.now c.split_at.result.1.now (kind_part c.args.kind.now) c.args.name.now c.args.start _ c.split_at.ensures.front c.split_at.ensures.back c.split_at.ensures.front_len (omega (arith, c.requires)) in (
      (λ t. let no = rw c.if-stands_in_kind_part.false at t in cc),
      (λ h. c.stands_in_kind_part-else-pattern-front.ensures.1 (cut.1 h).0),
    )
