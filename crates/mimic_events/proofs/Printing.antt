-- What is left by a text that was put, whole or not.
use Rattle.std.proofs.Common.{◌≡◌, ℕ, List, [], Option, Some, None, Result, Ok, Err, IfSome, refl, sym, subst, ◌∙◌, append-nil}
use Rattle.std.specs.Io.KnownBytes.{Appends}
use Rattle.mimic_printer.specs.Json.{Contents, IsJsonReport}
use Rattle.mimic_events.specs.declared.report.Totals.{Totals}
use Rattle.mimic_events.specs.Contents.{totals_of}
use Rattle.mimic_events.specs.Tally.{SpellsTotals}
use Rattle.mimic_events.specs.declared.readreport.Fault.{Fault}
use Rattle.mimic_events.specs.Outputs.{AfterFault, GetsBeginning, Holds, Leaves, PutsText, report_line}

-- a text that was put, whole or not, left a beginning of it
pub put_begins : {T : Type 0} (a b : Option (List ℕ)) (text line : List ℕ) (put : Result T Fault) → text ≡ line → PutsText a b text put → GetsBeginning a b line
put_begins a b text line (Ok done) e p = record { front = text; rest = []; parts = sym e ∙ sym (append-nil text); appended = p }
put_begins a b text line (Err fault) e p = subst (λ l. GetsBeginning a b l) e p.1

-- a report whose numbers were read from the input is what the input holds
pub read_holds : (input : Option (List ℕ)) (bytes : List ℕ) (c : Contents) → IfSome input (λ all. bytes ≡ all) → IsJsonReport bytes c → Holds input c
read_holds None bytes c e h = tt
read_holds (Some all) bytes c e h = subst (λ (l : List ℕ). IsJsonReport l c) e h

-- and bytes that spell no numbers are no report
pub read_none : (input : Option (List ℕ)) (bytes : List ℕ) → IfSome input (λ all. bytes ≡ all) → ((totals : Totals) → SpellsTotals totals bytes → ⊥) → (c : Contents) → IfSome input (λ all. IsJsonReport all c → ⊥)
read_none None bytes e none c = tt
read_none (Some all) bytes e none c = λ h. none (totals_of c) (record { contents = c; spelled = subst (λ (l : List ℕ). IsJsonReport l c) (sym e) h; numbers = refl })

-- its line that was put, whole or not, is what a report leaves
pub put_leaves : {T : Type 0} (input a b : Option (List ℕ)) (contents : Contents) (text : List ℕ) (put : Result T Fault) → Holds input contents → text ≡ report_line contents → PutsText a b text put → Leaves input a b put
put_leaves input a b contents text (Ok done) held e p = record { contents = contents; held = held; appended = subst (λ l. Appends a b l) e p }
put_leaves input a b contents text (Err fault) held e p =
    subst (λ f. AfterFault f input a b) (sym p.0) (record { contents = contents; held = held; got = subst (λ l. GetsBeginning a b l) e p.1 })
