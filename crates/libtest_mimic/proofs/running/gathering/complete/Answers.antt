use Rattle.std.proofs.Common.{◌∙◌, ℕ, ap, map, subst, sym}
use Rattle.std.specs.List.{range_with_len}
use Rattle.std.specs.List.Sorted.{IsPermutation}
use Rattle.libtest_mimic.specs.Prelude.{AgreesAt, IsReturned, placed_at, places_of, rows_in}
use Rattle.libtest_mimic.proofs.Gathering.{completed}
use Rattle.libtest_mimic.proofs.running.gathering.complete.Goals as goal

pub returns-clause-completed : goal.returns-clause-completed
returns-clause-completed c =
    let count = sym c.others_than.result.ok.0 ∙ c.others_than.ensures.len ∙ sym c.requires.places in
    let settled = c.in_default.ensures.rows ∙ ap (placed_at (places_of c.args.desk.now.rows)) c.deref-2.ensures.value in
    let whole = subst (λ (n : ℕ). IsPermutation (places_of c.arrive_missing.new.self.rows) (range_with_len 0 n)) c.arrive_missing.ensures.places c.arrive_missing.ensures.whole in
    let returned : IsReturned c.args.desk.now c.others_than.result.items c.put_joined-outcomes.result.items = record {
      others = c.others_than.ensures.others;
      agrees = λ place. subst (λ l. AgreesAt c.args.desk.now.rows l place) c.deref-2.ensures.value (c.in_default.ensures.settled place);
    } in
    completed c.args.desk.now c.arrive_missing.new.self (map rows_in c.args.joined.items) c.others_than.result.items c.put_joined-outcomes.result.items count c.put_joined-outcomes.ensures.put settled c.arrive_missing.ensures.rows whole returned c.args.whole
