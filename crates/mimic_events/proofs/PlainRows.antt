-- The two lines of a row, read at once.
use Rattle.std.proofs.Common.{◌≡◌, ◌≢◌, ℕ, ◌-◌, ◌<◌, List, [], ◌∷◌, ◌++◌, true, false, length, take, take_all, get_or, Bool, Option, Some, None, IfSome, MatchOption, Bor, refl, sym, ap, ap₂, subst, ◌∙◌, append_assoc, arith}
use Rattle.std.proofs.lemmas.Bool.{eqb-false}
use Rattle.std.proofs.lemmas.List.{append_cancel_left, length-append, take-append-le}
use Rattle.std.proofs.lemmas.Str.{IsUtf8-nil}
use Rattle.mimic_trial.specs.declared.outcome.Outcome.{Outcome}
use Rattle.mimic_trial.specs.Count.{is_measured}
use Rattle.mimic_trial.specs.Escape.{escape, escaped}
use Rattle.mimic_trial.proofs.Escapes.{escaped-plain}
use Rattle.mimic_printer.specs.Row.{Label}
use Rattle.mimic_printer.specs.Json.{FitsLabel, FitsTime, IsLine, announcement_front, json_announcement, json_end, json_outcome, kind_field, kind_key, outcome_front, time_field}
use Rattle.mimic_events.specs.LineParts.{BeginsEnd, BeginsEvent, BeginsRow, BeginsTail, IsPlainText, IsWord, SpellsLabel, tail}
use Rattle.mimic_printer.proofs.JsonLines.{announcement_line}
use Rattle.mimic_events.specs.declared.progress.Progress.{Progress}
use Rattle.mimic_events.specs.declared.row_reader.RowReader.{RowReader}
use Rattle.mimic_events.specs.Progress.{CountsRow, State, Takes, state_text, state_with}
use Rattle.mimic_events.specs.Readers.{Known, PassesRows, ReadsOn}
use Rattle.mimic_events.specs.Reading.{Decodes, IsAnnouncement, IsOutcome}
use Rattle.mimic_events.proofs.EndedLines.{ended_some, is_word, named, outcome_is, tail_parts, word_parts}
use Rattle.mimic_events.proofs.Escapes.{one_split}
use Rattle.mimic_events.proofs.NamedLines.{announcement_is, quoted_kind}
use Rattle.mimic_events.proofs.QuotedTexts.{no_quote}
use Rattle.mimic_events.proofs.Readings.{taken}
use Rattle.mimic_events.proofs.RowReaders.{reads_then}
use Rattle.mimic_events.proofs.SoFar.{an_outcome}

-- ---- one text for each escaped form

pub one_text : (a b x y : List ℕ) → escaped a ++ 34 ∷ x ≡ escaped b ++ 34 ∷ y → (a ≡ b) × (x ≡ y)
unfolding escaped
one_text [] [] x y e = (refl, append_cancel_left (34 ∷ []) x y e)
one_text [] (c ∷ b) x y e = absurd (no_quote c (escaped b ++ 34 ∷ y) x (e ∙ append_assoc (escape c) (escaped b) (34 ∷ y)))
one_text (c ∷ a) [] x y e = absurd (no_quote c (escaped a ++ 34 ∷ x) y (sym e ∙ append_assoc (escape c) (escaped a) (34 ∷ x)))
one_text (c ∷ a) (d ∷ b) x y e =
    let first = one_split (escape c ++ (escaped a ++ 34 ∷ x)) c (escaped a ++ 34 ∷ x) refl d (escaped b ++ 34 ∷ y)
    (sym (append_assoc (escape c) (escaped a) (34 ∷ x)) ∙ e ∙ append_assoc (escape d) (escaped b) (34 ∷ y)) in
    let others = one_text a b x y (sym first.1) in
    (ap₂ (λ (k : ℕ) (l : List ℕ). k ∷ l) (sym first.0) others.0, others.1)

one_kind : (a b : List ℕ) → kind_field a ++ json_end ≡ kind_field b ++ json_end → a ≡ b
one_kind [] [] e = refl
one_kind [] (c ∷ b) e = absurd (eqb-false 32 44 refl (ap (λ (z : List ℕ). get_or z 0 0) e))
one_kind (c ∷ a) [] e = absurd (eqb-false 44 32 refl (ap (λ (z : List ℕ). get_or z 0 0) e))
one_kind (c ∷ a) (d ∷ b) e = (one_text (c ∷ a) (d ∷ b) json_end json_end
    (append_cancel_left kind_key _ _ (sym (quoted_kind c a json_end) ∙ e ∙ quoted_kind d b json_end))).0

pub one_announcement : (u v : Label) → json_announcement u ≡ json_announcement v → u ≡ v
one_announcement u v e =
    let named = one_text u.name v.name (kind_field u.kind ++ json_end) (kind_field v.kind ++ json_end)
    (append_cancel_left announcement_front _ _ (sym (announcement_is u) ∙ e ∙ announcement_is v)) in
    ap₂ (λ (n : List ℕ) (k : List ℕ). record { kind = k; name = n }) named.0 (one_kind u.kind v.kind named.1)

-- ---- parts of the lines

front_at : (text front rest : List ℕ) → text ≡ front ++ rest → take (length text - length rest) text ≡ front
front_at text front rest e =
    let long : length text - length rest ≡ length front = omega (arith, ap length e, length-append front rest) in
    ap (λ (n : ℕ). take n text) long ∙ ap (take (length front)) e ∙ take-append-le (length front) front rest (omega arith) ∙ take_all (length front) front (omega arith)

spells_front : (text rest : List ℕ) (label : Label) → FitsLabel label → text ≡ escaped label.name ++ 34 ∷ (kind_field label.kind ++ rest) → SpellsLabel (take (length text - length rest) text)
spells_front text rest label fits e = record {
  label = label;
  fits = fits;
  spelled = front_at text (escaped label.name ++ 34 ∷ kind_field label.kind) rest (e ∙ sym (append_assoc (escaped label.name) (34 ∷ kind_field label.kind) rest));
}

pub plain_label : (text name rest : List ℕ) → IsPlainText name → text ≡ name ++ 34 ∷ rest → SpellsLabel (take (length text - length rest) text)
plain_label text name rest plain e =
    spells_front text rest (record { kind = []; name = name }) (record { name = plain.0; kind = IsUtf8-nil }) (e ∙ ap (λ (x : List ℕ). x ++ 34 ∷ rest) (sym (escaped-plain name plain.1)))

pub plain_kind : (text name middle kind rest : List ℕ) → IsPlainText name → IsPlainText kind → kind ≢ [] → text ≡ name ++ 34 ∷ middle → middle ≡ kind_key ++ (kind ++ 34 ∷ rest)
    → SpellsLabel (take (length text - length rest) text)
plain_kind text name middle [] rest plain also some e f = absurd (some refl)
plain_kind text name middle (b ∷ kind) rest plain also some e f =
    let quoted : middle ≡ kind_field (b ∷ kind) ++ rest = f ∙ ap (λ (x : List ℕ). kind_key ++ (x ++ 34 ∷ rest)) (sym (escaped-plain (b ∷ kind) also.1)) ∙ sym (quoted_kind b kind rest) in
    spells_front text rest (record { kind = b ∷ kind; name = name }) (record { name = plain.0; kind = also.0 })
    (e ∙ ap₂ (λ (x : List ℕ) (y : List ℕ). x ++ 34 ∷ y) (sym (escaped-plain name plain.1)) quoted)

-- the two lines, one after another
row_text : (text bytes a b c d left rest : List ℕ) (label : Label) (outcome : Outcome) (time : Option ℕ)
    → bytes ≡ escaped label.name ++ 34 ∷ kind_field label.kind → IsWord outcome → text ≡ announcement_front ++ a
    → a ≡ bytes ++ b → b ≡ json_end ++ c → c ≡ outcome_front false ++ d → d ≡ bytes ++ left → left ≡ tail outcome time ++ rest
    → text ≡ json_announcement label ++ (json_outcome label outcome time ++ rest)
row_text text bytes a b c d left rest label outcome time spelled word e f g h i j =
    let first : text ≡ json_announcement label ++ c = rw (e, f, g, spelled, announcement_is label) (simp append_assoc) in
    let second : c ≡ json_outcome label outcome time ++ rest = rw (h, i, j, spelled, outcome_is label outcome time, (word_parts outcome word).0) (simp append_assoc) in
    first ∙ ap (λ (x : List ℕ). json_announcement label ++ x) second

pub row_some : (text label a b c d left : List ℕ) (o : Option (Outcome × Bor (List ℕ))) → text ≡ announcement_front ++ a → SpellsLabel label → a ≡ label ++ b → b ≡ json_end ++ c → c ≡ outcome_front false ++ d
    → d ≡ label ++ left → IfSome o (λ x. BeginsTail left x.0 x.1.now) → IfSome o (λ x. BeginsRow text x.0 x.1.now)
row_some text label a b c d left None e s f g h i j = tt
row_some text label a b c d left (Some x) e s f g h i (word, (time, lasts, j)) = record {
  label = s.label;
  fits = s.fits;
  word = word;
  time = time;
  time_fits = lasts;
  parts = row_text text label a b c d left x.1.now s.label x.0 time s.spelled word e f g h i j;
}

-- a time, or none, by what follows it
pub ends_after : (text last : List ℕ) (time : Option ℕ) (o : Option (Bor (List ℕ))) → FitsTime time → text ≡ time_field time ++ last
    → MatchOption o ((rest : List ℕ) → last ≢ json_end ++ rest) (λ rest. last ≡ json_end ++ rest.now) → IfSome o (λ rest. BeginsEnd text rest.now)
ends_after text last time None lasts e f = tt
ends_after text last time (Some rest) lasts e f = (time, lasts, e ∙ ap (λ (x : List ℕ). time_field time ++ x) f)

-- a tail by its word and what follows it
pub word_then : (text behind rest : List ℕ) (w : Outcome) → BeginsEvent text w behind → BeginsEnd behind rest → BeginsTail text w rest
word_then text behind rest w (word, e) (time, lasts, f) =
    let parts = word_parts w word in
    (word, (time, lasts, rw (e, f, tail_parts w time parts.0, parts.2) (simp append_assoc)))

-- ---- each of the two lines is one thing only

pub announces_one : (label : Label) → FitsLabel label → Decodes IsAnnouncement (json_announcement label) (Some label)
announces_one label fits = ((fits, refl), λ v h. sym (one_announcement label v h.1))

at_tail : (label : Label) (outcome : Outcome) (time : Option ℕ) → is_measured outcome ≡ false → json_outcome label outcome time ≡ named false label ++ tail outcome time
at_tail label outcome time e = rw (outcome_is label outcome time, e) (simp append_assoc)

pub ends_one : (label : Label) (w : Outcome) (time : Option ℕ) → IsWord w → FitsTime time → Decodes (IsOutcome label) (json_outcome label w time) (Some (w, time))
ends_one label w time word lasts = ended_some false _ label (tail w time) (Some (w, time)) (at_tail label w time (word_parts w word).0) (is_word (tail w time) w time word lasts refl)

-- ---- rows that were passed

-- both lines lead on
both_lines : (s mid t : State) (a o : List ℕ) → Known s [] false → IsLine a → IsLine o → Takes true s a mid → Takes true mid o t → (state_text t ++ [] ≡ (state_text s ++ []) ++ (a ++ o)) × Known t [] false
both_lines s mid t a o known is also first second =
    let one = taken s mid [] a a [] known is refl first.0 first.1 refl in
    let two = taken mid t [] o o [] one.1 also refl second.0 second.1 refl in
    (two.0 ∙ ap (λ (x : List ℕ). x ++ o) one.0 ∙ append_assoc (state_text s ++ []) a o, two.1)

one_passed : (b c : RowReader) (left after : List ℕ) → b.stuck ≡ false → b.rest.items ≡ [] → c.stuck ≡ false → c.rest.items ≡ [] → (r : CountsRow b.progress left c.progress after)
    → ReadsOn b (json_announcement r.entry.label ++ json_outcome r.entry.label r.entry.outcome r.entry.nanos) c (r.entry ∷ [])
one_passed b c left after free none stays still r entries sound =
    let s = state_with b.progress entries in
    let t = state_with c.progress (entries ++ r.entry ∷ []) in
    let known : Known s [] false = subst (λ (x : List ℕ). Known s x false) none (subst (λ (k : Bool). Known s b.rest.items k) free sound.known) in
    let both = both_lines s _ t _ _ known (announcement_line r.entry.label) (an_outcome r.entry.label (r.entry.outcome, r.entry.nanos) r.fits.label r.fits.outcome r.fits.nanos) (r.announced entries sound.counted) (r.ended entries sound.counted) in (
      record {
        counted = r.counted entries sound.counted;
        known = subst (λ (k : Bool). Known t c.rest.items k) (sym stays) (subst (λ (x : List ℕ). Known t x false) (sym still) both.1);
      },
      ap (λ (x : List ℕ). state_text t ++ x) still ∙ both.0 ∙ ap (λ (x : List ℕ). (state_text s ++ x) ++ (json_announcement r.entry.label ++ json_outcome r.entry.label r.entry.outcome r.entry.nanos)) (sym none),
    )

pub row_passed : (a b c : RowReader) (piece left after : List ℕ) → PassesRows a piece b left → b.stuck ≡ false → b.rest.items ≡ [] → c.stuck ≡ false → c.rest.items ≡ [] → CountsRow b.progress left c.progress after → PassesRows a piece c after
row_passed a b c piece left after p free none stays still r =
    let lines : List ℕ = json_announcement r.entry.label ++ json_outcome r.entry.label r.entry.outcome r.entry.nanos in
    let here : left ≡ lines ++ after = r.parts ∙ sym (append_assoc (json_announcement r.entry.label) (json_outcome r.entry.label r.entry.outcome r.entry.nanos) after) in
    (p.0 ++ r.entry ∷ [], reads_then a b c piece left lines after p.0 (r.entry ∷ []) p.1 here (one_passed b c left after free none stays still r))

pub row_shorter : (old new : Progress) (text rest : List ℕ) → CountsRow old text new rest → length rest < length text
row_shorter old new text rest r =
    let first : List ℕ = json_announcement r.entry.label in
    let second : List ℕ = json_outcome r.entry.label r.entry.outcome r.entry.nanos in
    let is = announcement_line r.entry.label in
    omega (arith, ap length r.parts, length-append first (second ++ rest), length-append second rest, ap length is.parts, length-append is.front (10 ∷ []))
