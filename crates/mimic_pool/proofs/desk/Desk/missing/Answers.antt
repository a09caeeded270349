use Rattle.std.proofs.Common.{◌≡◌, ◌-◌, ◌∙◌, ◌++◌, ℕ, List, ap, arith, length, subst, sym}
use Rattle.std.specs.List.{range_with_len}
use Rattle.std.specs.List.Sorted.{IsPermutation}
use Rattle.mimic_pool.specs.Prelude.{free_from, missing_of, places_of}
use Rattle.mimic_pool.proofs.FirstArrivals.{order_same}
use Rattle.mimic_pool.proofs.Numbering.{missing_shown, shown_whole}
use Rattle.mimic_pool.proofs.desk.Desk.missing.Goals as goal

pub returns-clause-places : goal.returns-clause-places
returns-clause-places c =
    let P : List ℕ → List ℕ = λ numbers. free_from 0 (length numbers) numbers in
    let all : length c.as_slice.result.now - 0 ≡ length c.as_slice.result.now = omega arith in
    ap (λ n. free_from 0 n c.as_slice.result.now) all ∙ (ap P c.as_slice.ensures.value
    ∙ (missing_shown c.self.inside c.self.invariant ∙ ap missing_of c.self.view_is))

pub returns-clause-order : goal.returns-clause-order
returns-clause-order c = order_same _ _ _ (returns-clause-places c)

pub returns-clause-whole : goal.returns-clause-whole
returns-clause-whole c =
    let P : List ℕ → Type 0 = λ l. IsPermutation (places_of c.args.self.now.rows ++ l) (range_with_len 0 c.args.self.now.places) in
    subst P (sym (returns-clause-places c)) (shown_whole c.self.inside c.args.self.now c.self.invariant c.self.view_is)
