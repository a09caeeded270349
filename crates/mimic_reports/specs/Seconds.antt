-- Times in seconds, with three decimals, as strict readers of JUnit's XML want them.
use Rattle.std.specs.Prelude.{ℕ, ◌/◌, ◌%◌, List, ◌++◌, codes, decimal}
use Rattle.mimic_trial.specs.Text.{two_digits}
use Rattle.mimic_printer.specs.Report.{nearest_thousandths}

-- the time in seconds, to the nearest thousandth
abbrev pub rounded_seconds : ℕ → List ℕ
rounded_seconds nanos = let all = nearest_thousandths nanos in
    decimal (all / 1000) ++ (codes "." ++ (decimal (all / 100 % 10) ++ two_digits (all % 100)))
