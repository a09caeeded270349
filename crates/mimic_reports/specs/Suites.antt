-- Reports that were read to be written in XML.
use Rattle.std.specs.Prelude.{◌≡◌, ℕ, Bool, nat_lt, if◌then◌else◌, ◌≤◌, List, [], ⊤}
use Rattle.std.specs.List.{list_all, list_any}
use Rattle.mimic_reports.specs.declared.junit_elements.Numbers.{Numbers}
use Rattle.mimic_events.specs.Readings.{is_whole}
use Rattle.mimic_events.specs.declared.ending.Ending.{Ending}
use Rattle.mimic_events.specs.declared.ending.Ending.TheVariants.{Failed}
use Rattle.mimic_reports.specs.declared.suite.Suite.{Suite}
use Rattle.mimic_reports.specs.Junit.{numbers_of}

-- ---- the exit status

-- a trial of the report failed
abbrev pub has_failures : Suite → Bool
has_failures suite = nat_lt 0 (numbers_of suite).failures

-- 1 if one of the reports isn't whole, else 101 if a trial of one failed, else 0 (our own)
abbrev pub status_of : List Suite → ℕ
status_of suites = if list_all (λ suite. is_whole suite.ending) suites then (if list_any has_failures suites then 101 else 0) else 1

-- ---- what is read

-- the cause is empty unless the reader failed
abbrev pub IsCauseOf : Ending → List ℕ → Type 0
IsCauseOf (Failed error) cause = ⊤
IsCauseOf ending cause = cause ≡ []

-- no number of these is above n. No public clause names this word
abbrev pub AreWithin : ℕ → Numbers → Type 0
AreWithin n numbers = (numbers.tests ≤ n) × (numbers.failures ≤ n) × (numbers.errors ≤ n) × (numbers.skipped ≤ n) × (numbers.nanos ≤ n)
