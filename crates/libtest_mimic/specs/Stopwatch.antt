-- What follows from the readings that a watch kept.
use Rattle.std.specs.Prelude.{◌≡◌, ℕ, ◌-◌, Option, None, Some}
use Rattle.libtest_mimic.specs.declared.stopwatch.Readings.{Readings}
use Rattle.libtest_mimic.specs.declared.stopwatch.Readings.TheVariants.{Fresh, Running, Stopped}

-- what a watch has read from its clock: nothing, its start, or its start and its stop
pub data Watched : Type 0 where
  nothing : Watched
  start : ℕ → Watched
  start_and_stop : ℕ → ℕ → Watched

abbrev pub watched : Readings → Watched
watched Fresh = nothing
watched (Running started) = start started
watched (Stopped started stopped) = start_and_stop started stopped

-- the second reading minus the first, and 0 if the clock went back (our own: whole nanoseconds)
abbrev pub elapsed_of : Watched → Option ℕ
elapsed_of nothing = None
elapsed_of (start started) = None
elapsed_of (start_and_stop started stopped) = Some (stopped - started)

-- no reading was made
abbrev pub IsFresh : Watched → Type 0
IsFresh watch = watch ≡ nothing

-- one reading was made
abbrev pub IsRunning : Watched → Type 0
IsRunning watch = (started : ℕ) × (watch ≡ start started)

-- the first reading is kept, and a second one was made
abbrev pub StopsAfter : Watched → Watched → Type 0
StopsAfter old new = (started : ℕ) × (stopped : ℕ) × (old ≡ start started) × (new ≡ start_and_stop started stopped)
