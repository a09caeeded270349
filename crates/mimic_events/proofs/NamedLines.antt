-- Lines with a name in quotes and a kind, the title, and the message of a failure.
use Rattle.std.proofs.Common.{◌≡◌, ◌≢◌, ℕ, List, [], ◌∷◌, ◌++◌, Option, Some, None, Result, Ok, Err, IsOk, IfOk, MatchOption, Bor, Vec, String, string_bytes, option_map, IsUtf8, codes, decimal, arith, refl, sym, ap, ap₂, subst, ◌∙◌, append_assoc}
use Rattle.std.specs.Result.{result_ok}
use Rattle.std.specs.String.{string_vec}
use Rattle.std.proofs.lemmas.Str.{IsUtf8-string_bytes}
use Rattle.std.proofs.lemmas.List.Concat.{flat_map-append}
use Rattle.std.proofs.lemmas.List.{append_cancel_left, append_cancel_right}
use Rattle.mimic_trial.specs.declared.outcome.Outcome.TheVariants.{Failed}
use Rattle.mimic_trial.specs.Escape.{escape, escaped}
use Rattle.mimic_printer.specs.Row.{Label}
use Rattle.mimic_printer.specs.Json.{announcement_front, json_announcement, json_end, json_title, kind_field, kind_key, stdout_key, title_front}
use Rattle.mimic_events.specs.LineParts.{Follows, ReadsQuoted, ReadsNamed, ReadsNumber, IsKind, IsQuoted, IsSaid, behind_time}
use Rattle.mimic_events.specs.Reading.{Decodes, IsAnnouncement, IsTitle}
use Rattle.mimic_events.proofs.Fronts.{follows_then, follows_stop}

pub named_some : (front line rest : List ℕ) (o : Option (List ℕ × List ℕ)) → line ≡ front ++ rest → ReadsQuoted rest o → ReadsNamed front line o
named_some front line rest None e h = λ text after f. h text after (append_cancel_left front rest (escaped text ++ 34 ∷ after) (sym e ∙ f))
named_some front line rest (Some x) e h =
    (e ∙ ap (λ (t : List ℕ). front ++ t) h.0, λ text after f. h.1 text after (append_cancel_left front rest (escaped text ++ 34 ∷ after) (sym e ∙ f)))

-- ---- the kind

-- a kind that isn't empty is in quotes
pub quoted_kind : (b : ℕ) (kind rest : List ℕ) → kind_field (b ∷ kind) ++ rest ≡ kind_key ++ (escaped (b ∷ kind) ++ 34 ∷ rest)
quoted_kind b kind rest = ap (λ (x : List ℕ). kind_key ++ x) (append_assoc (escaped (b ∷ kind)) (34 ∷ []) rest)

-- if the line doesn't end after the name, the kind is in quotes
pub kind_spelled : (text v : List ℕ) → text ≢ json_end → IsKind v text → (v ≢ []) × IsQuoted kind_key v text
kind_spelled text [] more h = absurd (more h.1)
kind_spelled text (b ∷ v) more h = ((λ e. cc), h.1 ∙ quoted_kind b v json_end)

-- the text in quotes is the kind
pub kind_some : (text kind : List ℕ) (o : Option (List ℕ)) → text ≢ json_end → kind ≢ [] → Decodes (IsQuoted kind_key) text (Some kind)
    → MatchOption o (IsUtf8 kind → ⊥) (λ t. (t ≡ kind) × IsUtf8 kind) → Decodes IsKind text o
kind_some text kind None more some h t = λ v f. t (subst IsUtf8 (h.1 v (kind_spelled text v more f).1) f.0)
kind_some text [] (Some t) more some h u = absurd (some refl)
kind_some text (b ∷ kind) (Some t) more some h u = (
  (subst IsUtf8 (sym u.0) u.1, h.0 ∙ sym (quoted_kind b kind json_end) ∙ ap (λ (k : List ℕ). kind_field k ++ json_end) (sym u.0)),
  λ v f. h.1 v (kind_spelled text v more f).1 ∙ sym u.0,
)

-- ---- the label

label_front : (front name kind : List ℕ) → (front ++ (escaped name ++ 34 ∷ [])) ++ kind_field kind ≡ front ++ (escaped name ++ 34 ∷ kind_field kind)
label_front front name kind = simp append_assoc

-- after the name
pub label_then : (front name kind line rest : List ℕ) (o : Option (Bor (List ℕ))) → line ≡ (front ++ (escaped name ++ 34 ∷ [])) ++ rest → Follows (kind_field kind) rest o
    → Follows (front ++ (escaped name ++ 34 ∷ kind_field kind)) line o
label_then front name kind line rest o e h =
    subst (λ (x : List ℕ). Follows x line o) (label_front front name kind) (follows_then (front ++ (escaped name ++ 34 ∷ [])) (kind_field kind) line rest o e h)

pub label_stop : (front name kind line : List ℕ) → ((rest : List ℕ) → line ≢ (front ++ (escaped name ++ 34 ∷ [])) ++ rest) → Follows (front ++ (escaped name ++ 34 ∷ kind_field kind)) line None
label_stop front name kind line h =
    subst (λ (x : List ℕ). Follows x line None) (label_front front name kind) (follows_stop (front ++ (escaped name ++ 34 ∷ [])) (kind_field kind) line h)

-- after the kind
pub kind_then : (kind rest : List ℕ) (o : Option (Bor (List ℕ))) → kind ≢ [] → Follows (kind_key ++ (escaped kind ++ 34 ∷ [])) rest o → Follows (kind_field kind) rest o
kind_then [] rest o some h = absurd (some refl)
kind_then (b ∷ kind) rest o some h = h

pub announcement_is : (label : Label) → json_announcement label ≡ announcement_front ++ (escaped label.name ++ 34 ∷ (kind_field label.kind ++ json_end))
unfolding json_announcement
announcement_is label = refl

-- the kind of an announcement by what follows its name
pub announced_kind : (line name rest : List ℕ) (v : Label) → ReadsNamed announcement_front line (Some (name, rest)) → IsAnnouncement v line → (v.name ≡ name) × IsKind v.kind rest
announced_kind line name rest v h f =
    let same = h.1 v.name (kind_field v.kind ++ json_end) (f.1 ∙ announcement_is v) in
    (same.0, (f.0.kind, sym same.1))

pub announced_none : (line : List ℕ) → ReadsNamed announcement_front line None → Decodes IsAnnouncement line None
announced_none line h = λ v f. h v.name (kind_field v.kind ++ json_end) (f.1 ∙ announcement_is v)

pub announced_some : (line name rest kind : List ℕ) (o : Option (List ℕ)) → ReadsNamed announcement_front line (Some (name, rest)) → Decodes IsKind rest (Some kind)
    → MatchOption o (IsUtf8 name → ⊥) (λ text. (text ≡ name) × IsUtf8 name) → Decodes IsAnnouncement line (option_map (λ text. record { kind = kind; name = text }) o)
announced_some line name rest kind None h k text = λ v f. text (subst IsUtf8 (announced_kind line name rest v h f).0 f.0.name)
announced_some line name rest kind (Some t) h k text =
    let label : Label = record { kind = kind; name = t } in
    let is : line ≡ announcement_front ++ (escaped t ++ 34 ∷ (kind_field kind ++ json_end)) =
    h.0 ∙ ap₂ (λ (n : List ℕ) (r : List ℕ). announcement_front ++ (escaped n ++ 34 ∷ r)) (sym text.0) k.0.1 in (
      (record { name = subst IsUtf8 (sym text.0) text.1; kind = k.0.0 }, is ∙ sym (announcement_is label)),
      λ v f.
          let a = announced_kind line name rest v h f in
          ap₂ (λ (n : List ℕ) (r : List ℕ). record { kind = r; name = n }) (a.0 ∙ sym text.0) (k.1 v.kind a.1),
    )

-- what a text made of bytes shows
pub mapped : {A : Type 0} (o : Option A) (f : A → List ℕ) (bytes : List ℕ) → MatchOption o (IsUtf8 bytes → ⊥) (λ text. (f text ≡ bytes) × IsUtf8 bytes)
    → MatchOption (option_map f o) (IsUtf8 bytes → ⊥) (λ text. (text ≡ bytes) × IsUtf8 bytes)
mapped None f bytes h = h
mapped (Some x) f bytes h = h

pub text_from : {E Z : Type 0} (bytes : Vec ℕ Z) (r : Result (String Z) E) (o : Option (String Z)) → o ≡ result_ok r → IfOk r (λ t. string_vec t ≡ bytes) → (IsUtf8 bytes.items → IsOk r)
    → MatchOption o (IsUtf8 bytes.items → ⊥) (λ t. (string_bytes t ≡ bytes.items) × IsUtf8 bytes.items)
text_from {E} {Z} bytes (Ok t) o e is succeeds =
    let same : string_bytes t ≡ bytes.items = ap (λ (v : Vec ℕ Z). v.items) is in
    rw e (same, subst IsUtf8 same (IsUtf8-string_bytes t))
text_from bytes (Err f) o e is succeeds = rw e (λ u. absurd (cc (succeeds u)))

-- ---- the title

pub title_is : (n : ℕ) → json_title n ≡ title_front ++ (decimal n ++ json_end)
unfolding json_title
title_is n = refl

pub title_rest : (line rest : List ℕ) (n : ℕ) → line ≡ title_front ++ rest → line ≡ json_title n → rest ≡ decimal n ++ json_end
title_rest line rest n e f = append_cancel_left title_front rest (decimal n ++ json_end) (sym e ∙ f ∙ title_is n)

pub title_some : (line rest end : List ℕ) (n : ℕ) → line ≡ title_front ++ rest → ReadsNumber rest (Some (n, end)) → end ≡ json_end → IsTitle n line × ((v : ℕ) → IsTitle v line → v ≡ n)
title_some line rest end n e h last = (
  (h.0, e ∙ ap (λ (x : List ℕ). title_front ++ x) (h.1 ∙ ap (λ (x : List ℕ). decimal n ++ x) last) ∙ sym (title_is n)),
  λ v f. (h.3 v json_end f.0 (λ a b. omega arith) (title_rest line rest v e f.1)).0,
)

-- ---- the message of a failure

-- the message, and the quote and the line end after it
abbrev pub said : List ℕ → List ℕ
said message = message ++ codes "\"\n"

escaped_said : (message : List ℕ) → escaped (said message) ≡ escaped message ++ codes "\\\"\\n"
unfolding escaped
escaped_said message = flat_map-append escape message (codes "\"\n")

pub message_is : (message : List ℕ) → behind_time (Failed (Some message)) ≡ stdout_key ++ (escaped (said message) ++ 34 ∷ json_end)
message_is message = rw (escaped_said message) (simp append_assoc)

said_one : (a b : List ℕ) → said a ≡ said b → a ≡ b
said_one a b e = append_cancel_right a b (codes "\"\n") e

pub message_some : (text said_text : List ℕ) (o : Option (List ℕ)) (message : List ℕ) → Decodes (IsQuoted stdout_key) text (Some said_text) → said_text ≡ said message
    → MatchOption o (IsUtf8 message → ⊥) (λ t. (t ≡ message) × IsUtf8 message) → Decodes IsSaid text o
message_some text st None message h e t = λ v f.
    let same = h.1 (said v) (f.1 ∙ message_is v) ∙ e in t (subst IsUtf8 (said_one v message same) f.0)
message_some text st (Some m) message h e t = (
  (subst IsUtf8 (sym t.0) t.1, h.0 ∙ ap (λ (x : List ℕ). stdout_key ++ (escaped x ++ 34 ∷ json_end)) (e ∙ ap said (sym t.0)) ∙ sym (message_is m)),
  λ v f. said_one v message (h.1 (said v) (f.1 ∙ message_is v) ∙ e) ∙ sym t.0,
)
