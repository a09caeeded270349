use Rattle.std.proofs.Common.{refl}
use Rattle.mimic_events.proofs.RowSteps.{no_rows}
use Rattle.mimic_events.proofs.rows.InputRows.new.Goals as goal

pub returns-clause-nothing : goal.returns-clause-nothing
returns-clause-nothing g c = no_rows g.I.Read.remaining _ c.new.ensures refl refl
