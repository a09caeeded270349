use Rattle.std.proofs.Common.{rules, ◌≡◌, ◌++◌, ◌∙◌, Some, None, drop, sym}
use Rattle.mimic_events.proofs.QuotedTexts.{plain_same, plain_stop, plain_then, first_then, first_stop, behind_first, nothing_left}
use Rattle.mimic_events.proofs.quoted_text.after_escaped.Goals as goal

pub returns-in_err-rest : goal.returns-in_err-rest
returns-in_err-rest c =
    rw c.from_residual.ensures (plain_stop c.args.text.now c.plain_at-2.result.0.now c.plain_at-2.result.1.now c.args.line.now c.plain_at-2.ensures.parts c.plain_at-2.ensures.plain c.in_err-rest.ensures)

pub returns-in_err-rest-2 : goal.returns-in_err-rest-2
returns-in_err-rest-2 c =
    let left = c.loop-left.left.now in
    rw c.from_residual-in_err-rest-2.ensures (c.loop-left.invariant None (first_stop left c.loop-left.rest.now c.in-len1-up.len_at_least c.in_err-rest-2.ensures))

pub returns-in_err-rest-3 : goal.returns-in_err-rest-3
returns-in_err-rest-3 c =
    let left = c.loop-left.left.now in
    let parts : drop 1 left ≡ c.plain_at-in-len1-up.result.0.now ++ c.plain_at-in-len1-up.result.1.now = sym (behind_first left) ∙ c.plain_at-in-len1-up.ensures.parts in
    let stop = plain_stop (drop 1 left) c.plain_at-in-len1-up.result.0.now c.plain_at-in-len1-up.result.1.now c.in_ok-rest-2.rest.now parts c.plain_at-in-len1-up.ensures.plain c.in_err-rest-3.ensures in
    rw c.from_residual-in_err-rest-3.ensures
    (c.loop-left.invariant None (first_then left c.loop-left.rest.now c.in_ok-rest-2.rest.now None c.in-len1-up.len_at_least c.in_ok-rest-2.ensures stop))

pub returns : goal.returns
returns c = c.loop-left.invariant (Some c.loop-left.rest) (nothing_left c.loop-left.left.now c.loop-left.rest c.in_default.len_below)

pub returns-then-eq : goal.returns-then-eq
returns-then-eq c =
    let same : c.plain_at.result.0.now ≡ c.args.text.now = search rules in
    plain_same c.args.text.now c.plain_at.result.0.now c.plain_at.result.1.now c.args.line.now c.plain_at.ensures.parts c.plain_at.ensures.plain same

pub loop-left-init : goal.loop-left-init
loop-left-init c = λ o h.
    plain_then c.args.text.now c.plain_at-2.result.0.now c.plain_at-2.result.1.now c.args.line.now c.in_ok-rest.rest.now o c.plain_at-2.ensures.parts c.plain_at-2.ensures.plain c.in_ok-rest.ensures h

pub loop-left-preserved : goal.loop-left-preserved
loop-left-preserved c = λ o h.
    let left = c.loop-left.left.now in
    let parts : drop 1 left ≡ c.plain_at-in-len1-up.result.0.now ++ c.plain_at-in-len1-up.result.1.now = sym (behind_first left) ∙ c.plain_at-in-len1-up.ensures.parts in
    c.loop-left.invariant o (first_then left c.loop-left.rest.now c.in_ok-rest-2.rest.now o c.in-len1-up.len_at_least c.in_ok-rest-2.ensures
    (plain_then (drop 1 left) c.plain_at-in-len1-up.result.0.now c.plain_at-in-len1-up.result.1.now c.in_ok-rest-2.rest.now c.in_ok-rest-3.rest.now o parts c.plain_at-in-len1-up.ensures.plain
    c.in_ok-rest-3.ensures h))
