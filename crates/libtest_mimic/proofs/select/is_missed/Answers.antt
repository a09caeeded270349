use Rattle.std.proofs.Common.{rules, [], ◌≢◌, ◌≡◌, ◌∙◌, sym, ap, length, Bool, true, false, not, IsTrue}
use Rattle.std.specs.Prelude.{vec_len}
use Rattle.libtest_mimic.proofs.select.is_missed.Goals as goal

not_both : (b : Bool) → IsTrue (not b) → IsTrue b → ⊥
not_both true off on = cc
not_both false off on = cc

pub returns-then-not-is_empty : goal.returns-then-not-is_empty
returns-then-not-is_empty g c =
    let found = rw c.deref.ensures.value at c.matches_one.ensures in
    let some : c.args.args.now.filter.items ≢ [] = λ none.
    let zero : vec_len c.args.args.now.filter ≡ 0 = sym c.deref.ensures.len ∙ ap length c.deref.ensures.value ∙ ap length none in
    let empty = rw zero at c.if-not-is_empty.ensures in cc in (
      (λ no. (some, λ m. not_both c.matches_one.result no (found.1 m))),
      (λ missed. search rules),
    )
