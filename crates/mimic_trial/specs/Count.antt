-- How many outcomes of each sort there are.
use Rattle.std.specs.Prelude.{◌<◌, ℕ, ◌+◌, ◌-◌, ◌^◌, Bool, true, false, List, count_by}
use Rattle.mimic_trial.specs.declared.outcome.Outcome.{Outcome}
use Rattle.mimic_trial.specs.declared.outcome.Outcome.TheVariants.{Passed, Failed, Ignored, Measured}
use Rattle.mimic_trial.specs.declared.outcome.Conclusion.{Conclusion}

abbrev pub is_passed : Outcome → Bool
is_passed Passed = true
is_passed o = false

abbrev pub is_failed : Outcome → Bool
is_failed (Failed f) = true
is_failed o = false

abbrev pub is_ignored_outcome : Outcome → Bool
is_ignored_outcome Ignored = true
is_ignored_outcome o = false

abbrev pub is_measured : Outcome → Bool
is_measured (Measured m) = true
is_measured o = false

-- how many of these outcomes are of each sort, and how many trials were filtered out (the Rust crate's `Conclusion`)
abbrev pub counts_of : List Outcome → ℕ → Conclusion
counts_of outcomes filtered_out = record {
  num_filtered_out = filtered_out;
  num_passed = count_by is_passed outcomes;
  num_failed = count_by is_failed outcomes;
  num_ignored = count_by is_ignored_outcome outcomes;
  num_measured = count_by is_measured outcomes;
}

-- all five counts together
abbrev pub total_of : Conclusion → ℕ
total_of c = c.num_filtered_out + (c.num_passed + (c.num_failed + (c.num_ignored + c.num_measured)))

-- the counts with one more outcome
abbrev pub counted : Conclusion → Outcome → Conclusion
counted c Passed = record c { num_passed = c.num_passed + 1 }
counted c (Failed f) = record c { num_failed = c.num_failed + 1 }
counted c Ignored = record c { num_ignored = c.num_ignored + 1 }
counted c (Measured m) = record c { num_measured = c.num_measured + 1 }

-- how many outcomes of the same sort were counted
abbrev pub count_like : Conclusion → Outcome → ℕ
count_like c Passed = c.num_passed
count_like c (Failed f) = c.num_failed
count_like c Ignored = c.num_ignored
count_like c (Measured m) = c.num_measured

-- one more such outcome can be counted
abbrev pub CanCount : Conclusion → Outcome → Type 0
CanCount c o = count_like c o < 2 ^ 64 - 1
