-- What a program does until it says otherwise.
use Rattle.std.specs.Prelude.{◌≡◌, false, true, IsSomeAnd}
use Rattle.std.specs.Duration.{as_nanos}
use Rattle.mimic_pool.specs.declared.waiting_trials.Schedule.TheVariants.{Queue}
use Rattle.mimic_main.specs.declared.program.Program.{Program}

-- it prints faults with their causes, trials that run for over a minute and a warning of equal names, its workers take trials from
-- one queue, and its output is no terminal
pub record HasDefaults (program : Program) : Type 0 where
  pub causes : program.prints_causes ≡ true
  pub schedule : program.schedule ≡ Queue
  pub terminal : program.on_terminal ≡ false
  pub limit : IsSomeAnd program.slow_limit (λ limit. as_nanos limit ≡ 60_000_000_000)
  pub warns : program.warns_of_equal_names ≡ true
