use Rattle.std.proofs.Common.{bit_or, ◌+◌, ◌-◌, ◌≡◌, ℕ, refl, arith, subst, sym, take, drop}
use Rattle.std.proofs.lemmas.Simd.{zip2_splat, zip2_of_maps, length-chunk}
use lib.Lanes.{chunk}
use Rattle.mimic_trial.specs.Escape.{ArePlain}
use Rattle.mimic_events.proofs.PlainLanes.{plain_in}
use Rattle.mimic_events.proofs.quoted_text.plain_lanes.Goals as goal

pub returns-clause-plain : goal.returns-clause-plain
returns-clause-plain c =
    let here = chunk c.args.at 16 c.args.text.now in
    let long = length-chunk c.args.at 16 c.args.text.now c.requires in
    let near : (c.args.at + c.min.result) - c.args.at ≡ c.min.result = omega arith in
    subst (λ n. ArePlain (take n (drop c.args.at c.args.text.now))) (sym near)
    (plain_in c.args.text.now c.args.at c.min.result _ c.requires c.type_inv.text c.min.ensures _
    (zip2_of_maps bit_or _ _ here (zip2_of_maps bit_or _ _ here (zip2_splat {Y = ℕ} _ here 16 32 long) (zip2_splat {Y = ℕ} _ here 16 34 long)) (zip2_splat {Y = ℕ} _ here 16 92 long)) refl)
