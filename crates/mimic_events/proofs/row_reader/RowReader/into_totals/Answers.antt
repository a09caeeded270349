use Rattle.std.proofs.Common.{rules, ◌≡◌, [], arith}
use Rattle.std.proofs.lemmas.List.{nil_from_length}
use Rattle.mimic_events.specs.Progress.{state_with}
use Rattle.mimic_events.proofs.Readings.{the_one_report}
use Rattle.mimic_events.proofs.row_reader.RowReader.into_totals.Goals as goal

pub returns : goal.returns
returns c = λ entries sound.
    let none : c.args.self.rest.items ≡ [] = nil_from_length c.args.self.rest.items (search rules) in
    the_one_report (state_with c.args.self.progress entries) c.args.self.rest.items c.args.self.stuck c.into_totals.result sound.known (omega arith) none (c.into_totals.ensures entries sound.counted)
