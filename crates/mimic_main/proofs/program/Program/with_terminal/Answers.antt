use Rattle.mimic_main.proofs.SomeThread.{by_any_proof}
use Rattle.mimic_main.proofs.program.Program.with_terminal.Goals as goal

pub returns : goal.returns
returns c = by_any_proof _ _
