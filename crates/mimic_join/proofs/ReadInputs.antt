-- Reports of inputs, one after another.
use Rattle.std.proofs.Common.{◌≡◌, ℕ, List, ◌∷◌, ◌++◌, length, length-append, map, Option, arith}
use Rattle.std.proofs.lemmas.List.{length-map, map-append}
use Rattle.std.proofs.Math.Seq.{get_or-append_seam, take-append_seam}
use Rattle.mimic_events.specs.declared.report.Report.{Report}
use Rattle.mimic_events.specs.declared.input.ReadFault.{ReadFault}
use Rattle.mimic_events.specs.Inputs.{GivesNone}
use Rattle.mimic_join.specs.Inputs.{AreReportsIn, FailsAt}

module _ {I : Type 0} (remaining : I → Option (List ℕ)) where
  -- the next input gives none
  pub fails_next : (all seen rest : List I) (input : I) (place : ℕ) (reports : List Report) (fault : ReadFault) → seen ++ input ∷ rest ≡ all → place ≡ length seen
      → AreReportsIn (map remaining seen) reports → GivesNone (remaining input) fault → FailsAt (map remaining all) place fault
  fails_next all seen rest input place reports fault e p h none =
      rw (p, ← e) (record {
        within = simp (length-map, length-append) (omega arith);
        reports = reports;
        before = simp (map-append, ← (length-map seen remaining), take-append_seam) h;
        none = simp (map-append, ← (length-map seen remaining), get_or-append_seam) none;
      })
