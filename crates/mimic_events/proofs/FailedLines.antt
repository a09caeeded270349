-- The lines of failures, by themselves.
use Rattle.std.proofs.Common.{◌≡◌, ℕ, List, [], ◌∷◌, ◌++◌, true, false, Option, Some, None, IsUtf8, refl, sym, ap, ap₂, subst, ◌∙◌, get_or}
use Rattle.std.proofs.lemmas.Bool.{eqb-false}
use Rattle.mimic_trial.specs.declared.outcome.Outcome.{Outcome}
use Rattle.mimic_trial.specs.declared.outcome.Outcome.TheVariants.{Failed}
use Rattle.mimic_trial.specs.Count.{is_failed}
use Rattle.mimic_trial.specs.Escape.{escaped}
use Rattle.mimic_printer.specs.Row.{Label}
use Rattle.mimic_printer.specs.Json.{Entry, json_outcome, kind_field, kind_key, outcome_front}
use Rattle.mimic_events.specs.LineParts.{ReadsNamed, SaysFailed, SaysKind, tail}
use Rattle.mimic_events.specs.Reading.{Decodes, End, IsFailedLine, IsOutcome}
use Rattle.mimic_events.proofs.EndedLines.{outcome_is}
use Rattle.mimic_events.proofs.NamedLines.{quoted_kind}

-- what follows the front of such a line
abbrev followed : Label → Option (List ℕ) → Option ℕ → List ℕ
followed label message time = escaped label.name ++ 34 ∷ (kind_field label.kind ++ tail (Failed message) time)

failed_parts : (line : List ℕ) (label : Label) (o : Outcome) (time : Option ℕ) → is_failed o ≡ true → line ≡ json_outcome label o time
    → (message : Option (List ℕ)) × (line ≡ outcome_front false ++ followed label message time)
failed_parts line label (Failed message) time h e = (message, e ∙ outcome_is label (Failed message) time)
failed_parts line label o time h e = absurd cc

-- the kind of such a line by what follows its name
failed_kind : (line name rest : List ℕ) (entry : Entry) → ReadsNamed (outcome_front false) line (Some (name, rest)) → IsFailedLine entry line
    → (entry.label.name ≡ name) × (message : Option (List ℕ)) × (rest ≡ kind_field entry.label.kind ++ tail (Failed message) entry.nanos)
failed_kind line name rest entry r h =
    let p = failed_parts line entry.label entry.outcome entry.nanos h.0 h.2 in
    let same = r.1 entry.label.name (kind_field entry.label.kind ++ tail (Failed p.0) entry.nanos) p.1 in (same.0, p.0, sym same.1)

pub failed_none : (line : List ℕ) → ReadsNamed (outcome_front false) line None → SaysFailed line None
failed_none line r entry h =
    let p = failed_parts line entry.label entry.outcome entry.nanos h.0 h.2 in r entry.label.name (kind_field entry.label.kind ++ tail (Failed p.0) entry.nanos) p.1

-- ---- the kind

-- no tail begins as a kind does
no_kind : (message : Option (List ℕ)) (time : Option ℕ) (more : List ℕ) → kind_key ++ more ≡ tail (Failed message) time → ⊥
no_kind None time more e = eqb-false 107 101 refl (ap (λ (z : List ℕ). get_or z 3 0) e)
no_kind (Some m) time more e = eqb-false 107 101 refl (ap (λ (z : List ℕ). get_or z 3 0) e)

pub kind_found : (text kind rest : List ℕ) → ReadsNamed kind_key text (Some (kind, rest)) → SaysKind text kind
kind_found text kind rest r [] message time e = absurd (no_kind message time (escaped kind ++ 34 ∷ rest) (sym r.0 ∙ e))
kind_found text kind rest r (b ∷ other) message time e = (r.1 (b ∷ other) (tail (Failed message) time) (e ∙ quoted_kind b other (tail (Failed message) time))).0

pub kind_missing : (text : List ℕ) → ReadsNamed kind_key text None → SaysKind text []
kind_missing text r [] message time e = refl
kind_missing text r (b ∷ other) message time e = absurd (r (b ∷ other) (tail (Failed message) time) (e ∙ quoted_kind b other (tail (Failed message) time)))

-- ---- both

pub no_name : (line name rest : List ℕ) → ReadsNamed (outcome_front false) line (Some (name, rest)) → (IsUtf8 name → ⊥) → SaysFailed line None
no_name line name rest r none entry h = none (subst IsUtf8 (failed_kind line name rest entry r h).0 h.1.label.name)

pub no_kind_text : (line name rest kind : List ℕ) → ReadsNamed (outcome_front false) line (Some (name, rest)) → SaysKind rest kind → (IsUtf8 kind → ⊥) → SaysFailed line None
no_kind_text line name rest kind r k none entry h =
    let f = failed_kind line name rest entry r h in none (subst IsUtf8 (k entry.label.kind f.1 entry.nanos f.2) h.1.label.kind)

pub failed_some : (line name rest kind n m : List ℕ) → ReadsNamed (outcome_front false) line (Some (name, rest)) → SaysKind rest kind
    → (n ≡ name) × IsUtf8 name → (m ≡ kind) × IsUtf8 kind → SaysFailed line (Some (record { kind = m; name = n }))
failed_some line name rest kind n m r k a b = (
  record { name = subst IsUtf8 (sym a.0) a.1; kind = subst IsUtf8 (sym b.0) b.1 },
  λ entry h.
      let f = failed_kind line name rest entry r h in
      ap₂ (λ (x : List ℕ) (y : List ℕ). record { kind = y; name = x }) (f.0 ∙ sym a.0) (k entry.label.kind f.1 entry.nanos f.2 ∙ sym b.0),
)

-- ---- what the line says of the trial whose name and kind were read

module _ (line : List ℕ) (label : Label) (says : SaysFailed line (Some label)) where
  is_end : (entry : Entry) → IsFailedLine entry line → IsOutcome label (entry.outcome, entry.nanos) line
  is_end entry h = (h.1.outcome, h.1.nanos, h.2 ∙ ap (λ (l : Label). json_outcome l entry.outcome entry.nanos) (says.1 entry h))

  pub no_end : Decodes (IsOutcome label) line None → Decodes IsFailedLine line None
  no_end d = λ entry h. d (entry.outcome, entry.nanos) (is_end entry h)

  pub failed_end : (message : Option (List ℕ)) (time : Option ℕ) → Decodes (IsOutcome label) line (Some (Failed message, time))
      → Decodes IsFailedLine line (Some (record { label = label; outcome = Failed message; nanos = time }))
  failed_end message time d = (
    (refl, record { label = says.0; outcome = d.0.0; nanos = d.0.1 }, d.0.2),
    λ entry h.
        ap₂ (λ (l : Label) (end : End). record { label = l; outcome = end.0; nanos = end.1 }) (says.1 entry h) (d.1 (entry.outcome, entry.nanos) (is_end entry h)),
  )

  pub other_end : (end : End) → ((message : Option (List ℕ)) → end.0 ≡ Failed message → ⊥) → Decodes (IsOutcome label) line (Some end) → Decodes IsFailedLine line None
  other_end end other d = λ entry h. at entry.outcome h.0 (ap (λ (e : End). e.0) (d.1 (entry.outcome, entry.nanos) (is_end entry h)))
    where
      at : (o : Outcome) → is_failed o ≡ true → o ≡ end.0 → ⊥
      at (Failed message) h e = other message (sym e)
      at o h e = absurd cc
