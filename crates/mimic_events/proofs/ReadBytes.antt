-- What was read of an input, read by read.
use Rattle.std.proofs.Common.{◌≡◌, ℕ, List, ◌++◌, Option, Some, None, IfSome, sym, ap, subst, ◌∙◌, append_assoc, append-nil}
use Rattle.std.specs.Io.KnownBytes.{Consumes}
use Rattle.std.specs.List.{concat}
use Rattle.mimic_printer.specs.Json.{Entry}
use Rattle.mimic_events.specs.Reading.{Decodes}
use Rattle.mimic_events.specs.SoFar.{IsFirstWrong}
use Rattle.mimic_events.specs.Inputs.{IsCut}
use Rattle.mimic_events.specs.Readings.{IsReading}
use Rattle.mimic_events.specs.declared.ending.Ending.TheVariants.{Cut}
use Rattle.mimic_events.specs.declared.ending.Stop.{Stop}

-- a read after others
pub read_more : (a b c : Option (List ℕ)) (first second : List ℕ) → Consumes a b first → Consumes b c second → Consumes a c (first ++ second)
read_more None b c first second h k = tt
read_more (Some xs) None c first second h k = absurd h
read_more (Some xs) (Some ys) None first second h k = absurd k
read_more (Some xs) (Some ys) (Some zs) first second h k = h ∙ ap (λ (t : List ℕ). first ++ t) k ∙ sym (append_assoc first second zs)

-- a line that is wrong stays so, whatever follows
wrong_then : (number : ℕ) (bytes more : List ℕ) → IsFirstWrong number bytes → IsFirstWrong number (bytes ++ more)
wrong_then number bytes more h = record {
  lines = h.lines;
  line = h.line;
  rest = h.rest ++ more;
  parts = ap (λ (t : List ℕ). t ++ more) h.parts ∙ append_assoc (concat h.lines) (h.line ++ h.rest) more
      ∙ ap (λ (t : List ℕ). concat h.lines ++ t) (append_assoc h.line h.rest more);
  each = h.each;
  whole = h.whole;
  place = h.place;
  begun = h.begun;
  wrong = h.wrong;
}

-- a report that stops at a wrong line
pub wrong_in : (input : Option (List ℕ)) (entries : List Entry) (stop : Stop) (number : ℕ)
    → IfSome input (IsReading entries (Cut stop)) → stop.wrong_line ≡ Some number → IfSome input (IsFirstWrong number)
wrong_in None entries stop number h e = tt
wrong_in (Some bytes) entries stop number h e =
    subst (IsFirstWrong number) (sym h.parts) (wrong_then number h.front h.rest (subst (Decodes IsFirstWrong h.front) e h.wrong).0)

-- a report that stops at the end of its bytes
pub cut_in : (input : Option (List ℕ)) (entries : List Entry) (stop : Stop)
    → IfSome input (IsReading entries (Cut stop)) → stop.wrong_line ≡ None → IfSome input IsCut
cut_in None entries stop h e = tt
cut_in (Some bytes) entries stop h e =
    let whole : h.front ≡ bytes = sym (append-nil h.front) ∙ ap (λ (t : List ℕ). h.front ++ t) (sym (h.all e)) ∙ sym h.parts in
    subst IsCut whole (record { none = h.none; right = subst (Decodes IsFirstWrong h.front) e h.wrong })
