use Rattle.std.proofs.Common.{◌≡◌, ◌∙◌, ◌<◌, ◌≤◌, ◌∷◌, arith, ap, length, slice_index_or}
use Rattle.std.proofs.lemmas.Bool.Decides.{nat_tests}
use Rattle.mimic_main.proofs.FullNames.{IsPart, none_at, part_at}
use Rattle.mimic_main.proofs.full_names.FullNames.get.Goals.{After-deref-3, In_ok-end}
use Rattle.mimic_main.proofs.full_names.FullNames.get.Goals as goal

pub returns-in_err-end : goal.returns-in_err-end
returns-in_err-end c =
    let behind : length c.self.inside.ends.items ≤ c.args.place = grind (arith, nat_tests, c.in_err-end.ensures.lookup.0, c.deref.ensures.value) in
    rw (c.from_residual.ensures, ← c.self.view_is) (none_at c.self.inside.names.items 0 c.self.inside.ends.items c.args.place behind)

-- the part at the place
part : (c : In_ok-end) → IsPart c.self.inside.names.items 0 c.self.inside.ends.items c.args.place
part c =
    let low : c.args.place < length c.self.inside.ends.items = omega (arith, c.in_ok-end.ensures.lookup.3.0, ap length c.deref.ensures.value) in
    part_at c.self.inside.names.items 0 c.self.inside.ends.items c.args.place c.self.invariant low

-- where it ends, and where it begins
end_is : (c : In_ok-end) → c.in_ok-end.field-0.now ≡ slice_index_or c.self.inside.ends.items c.args.place 0
end_is c = c.in_ok-end.ensures.lookup.3.1 0 ∙ ap (λ ends. slice_index_or ends c.args.place 0) c.deref.ensures.value

start_is : (c : After-deref-3) → c.end_before-start.result ≡ slice_index_or (0 ∷ c.self.inside.ends.items) c.args.place 0
start_is c = c.end_before-start.ensures ∙ ap (λ ends. slice_index_or (0 ∷ ends) c.args.place 0) c.deref-2.ensures.value

pub part-requires-clause-rising : goal.part-requires-clause-rising
part-requires-clause-rising c =
    let found = (goal.at.part-requires-clause-rising c).In_ok-end in
    omega (arith, (part found).rising, end_is found, start_is c)

pub part-requires-clause-within : goal.part-requires-clause-within
part-requires-clause-within c =
    let found = (goal.at.part-requires-clause-within c).In_ok-end in
    omega (arith, (part found).within, end_is found, ap length c.deref-3.ensures.value)

pub returns : goal.returns
returns c =
    let found = (goal.at.returns c).In_ok-end in
    let end = end_is found in
    let start = start_is (goal.at.returns c).After-deref-3 in
    let at = (part found).part in
    rw (← c.self.view_is) (cc (at, end, start, c.part.ensures, c.deref-3.ensures.value))
