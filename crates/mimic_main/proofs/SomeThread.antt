-- A program is the same whatever proof it has that some thread runs its trials.
use Rattle.std.proofs.Common.{◌≡◌, ◌≤◌, ap}
use Rattle.std.proofs.Math.Bridge.{le_prop}
use Rattle.mimic_main.specs.declared.program.Program.{Program}

pub by_any_proof : (program : Program) (some : 1 ≤ program.threads) → program ≡ record program { some_thread = some }
by_any_proof program some = ap (λ (k : 1 ≤ program.threads). record program { some_thread = k }) (le_prop program.some_thread some)
