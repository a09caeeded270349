-- The line of an outcome: what was measured, as the pieces that are written, and the parts of the line.
use Rattle.std.proofs.Common.{◌≡◌, [], ◌++◌, Option, append_assoc, ℕ}
use Rattle.std.specs.Prelude.{codes, decimal}
use Rattle.mimic_trial.specs.declared.outcome.Outcome.{Outcome}
use Rattle.mimic_trial.specs.declared.outcome.Outcome.TheVariants.{Measured}
use Rattle.mimic_trial.specs.declared.outcome.Measurement.{Measurement}
use Rattle.mimic_printer.specs.declared.Printer.{Printer}
use Rattle.mimic_printer.specs.Report.{colour_start, colour_end, outcome_line, time_mark, untimed_line}
use Rattle.mimic_trial.specs.Text.{grouped, right_aligned}

pub untimed_line-measured : (p : Printer) (m : Measurement) → untimed_line p (Measured m) ≡
    colour_start p (Measured m) ++ (codes "bench" ++ (colour_end p ++ (codes ": " ++ (right_aligned 11 (grouped (decimal m.avg))
    ++ (codes " ns/iter (+/- " ++ (grouped (decimal m.variance) ++ (codes ")" ++ [])))))))
unfolding untimed_line
untimed_line-measured p m = simp append_assoc

pub outcome_line-parts : (p : Printer) (o : Outcome) (time : Option ℕ) → outcome_line p o time ≡ untimed_line p o ++ (time_mark time ++ codes "\n")
unfolding outcome_line untimed_line
outcome_line-parts p o time = simp append_assoc
