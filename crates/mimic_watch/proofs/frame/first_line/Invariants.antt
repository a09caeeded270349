-- No shape so far fits.
use Rattle.std.proofs.Common.{◌≡◌, drop}
use Rattle.mimic_watch.specs.declared.frame.TheConstants.{SHAPES}
use Rattle.mimic_watch.specs.Frames.{first_fitting, first_line}
use Rattle.mimic_watch.proofs.frame.first_line.Given as goal

abbrev pub invariant-loop-shape : goal.invariant-loop-shape
invariant-loop-shape l = first_line l.columns l.view ≡ first_fitting l.columns l.view (drop l.shape-index SHAPES)
