use Rattle.std.proofs.Common.{◌≡◌, ◌∙◌, ◌<◌, ℕ, Some, ap, sym, subst}
use Rattle.libtest_mimic.specs.Prelude.{Adds, arrived_at, is_timed, Outcome, row_text, timed_row}
use Rattle.mimic_pool.proofs.FirstArrivals.{first_arrived}
use Rattle.libtest_mimic.proofs.ArrivedRows.{arrived_more, first_row, label_at-info, shown_time}
use Rattle.libtest_mimic.proofs.running.arrivals.add_arrival.Given.{Over}
use Rattle.libtest_mimic.proofs.running.arrivals.add_arrival.Goals.{In-First}
use Rattle.libtest_mimic.proofs.running.arrivals.add_arrival.Goals as goal

-- the outcome that arrived is at its place
kept : (g : Over) (c : In-First g) → arrived_at c.args.row.0 c.arrive.new.self.rows ≡ Some c.args.row.1
kept g c =
    ap (arrived_at c.args.row.0) c.arrive.ensures.rows
    ∙ first_arrived c.args.desk.now c.args.row.0 c.args.row.1 (sym c.arrive.ensures.answer ∙ c.in-First.is)

pub unreachable-requires : goal.unreachable-requires
unreachable-requires g c =
    let first = (goal.at.unreachable-requires g c).In-First in
    let none = c.in_default.ensures ∙ kept g first in
    cc

pub returns-in-Some-clause-arrived : goal.returns-in-Some-clause-arrived
returns-in-Some-clause-arrived g c base put =
    let at = (goal.at.returns-in-Some-clause-arrived g c).In-First in
    let place = c.args.row.0 in
    let first = first_row c.args.desk.now place c.args.row.1 (sym c.in-First.is ∙ c.arrive.ensures.answer) in
    let same : Some c.in-Some.outcome.now ≡ Some c.args.row.1 = c.in-Some.ensures ∙ kept g at in
    let outcome : c.in-Some.outcome.now ≡ c.args.row.1 = cc in
    let label = label_at-info c.args.infos.now place c.index-infos-place.result (subst (λ (n : ℕ). place < n) c.requires first.0) c.index-infos-place.is in
    let nanos = c.time_shown-nanos.result in
    let P : Outcome → Type 0 = λ o. Adds g.W.Write.contents c.args.sink.now c.add_row.new.sink (row_text c.args.printer.now (timed_row c.index-infos-place.result o nanos)) in
    let fits = shown_time (is_timed c.args.inbox.now) _ _ _ nanos c.time.ensures outcome c.time_shown-nanos.ensures in
    arrived_more (is_timed c.args.inbox.now) c.args.printer.now c.args.infos.now c.args.desk.now c.arrive.new.self place c.args.row.1 c.index-infos-place.result nanos
    (c.arrive.ensures.rows ∙ first.2) label fits put (subst P outcome c.add_row.ensures)
