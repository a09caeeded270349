-- The name and the kind of a trial in JSON, and the lines that have them.
use Rattle.std.proofs.Common.{◌≡◌, ◌≢◌, ℕ, List, [], ◌∷◌, ◌++◌, codes, take, drop, refl, sym, ap, ◌∙◌, append_assoc}
use Rattle.mimic_trial.specs.Escape.{escaped}
use Rattle.mimic_printer.specs.Json.{announcement_front, json_announcement, json_end, kind_field, kind_key, time_key}
use Rattle.mimic_printer.specs.declared.place.Place.{Place}
use Rattle.mimic_printer.specs.Escapes.{escaped as spelled}
use Rattle.mimic_printer.specs.Piece.{bracketed, kind_text}

-- what comes between a name and a kind
abbrev pub key_bytes : List ℕ
key_bytes = codes "\", \"kind\": \""

pub kind_text-some : (kind : List ℕ) → kind ≢ [] → kind_text kind ≡ key_bytes ++ escaped kind
kind_text-some [] some = absurd (some refl)
kind_text-some (b ∷ kind) some = refl

pub bracketed-some : (place : Place) (kind : List ℕ) → kind ≢ [] → bracketed place kind ≡ codes "[" ++ (spelled place kind ++ codes "] ")
bracketed-some place [] some = absurd (some refl)
bracketed-some place (b ∷ kind) some = refl

-- the key and a kind, one after another
pub kind_joined : (front keyed kind key : List ℕ) → keyed ≡ front ++ key → key ≡ key_bytes → kind ≢ [] → keyed ++ escaped kind ≡ front ++ kind_text kind
kind_joined front keyed kind key k e some =
    ap (λ (l : List ℕ). l ++ escaped kind) (k ∙ ap (λ (l : List ℕ). front ++ l) e)
    ∙ append_assoc front key_bytes (escaped kind)
    ∙ ap (λ (l : List ℕ). front ++ l) (sym (kind_text-some kind some))

-- the key of a time and the time, one after another
pub time_joined : (front keyed key time : List ℕ) → keyed ≡ front ++ key → key ≡ time_key → keyed ++ time ≡ front ++ (time_key ++ time)
time_joined front keyed key time k e = ap (λ (l : List ℕ). l ++ time) (k ∙ ap (λ (l : List ℕ). front ++ l) e) ∙ append_assoc front time_key time

-- three texts, one after another
pub joined : (front first second text o k e left kind right : List ℕ) → first ≡ front ++ o → second ≡ first ++ k → o ≡ left → k ≡ kind → e ≡ right
    → left ++ (kind ++ right) ≡ text → second ++ e ≡ front ++ text
joined front first second text o k e left kind right a b x y z shown = rw (b, a, x, y, z, ← shown) (simp append_assoc)

-- a kind, the last quote, and what follows
kind_then : (kind rest : List ℕ) → kind_text kind ++ 34 ∷ rest ≡ 34 ∷ (kind_field kind ++ rest)
kind_then [] rest = refl
kind_then (b ∷ kind) rest = ap (λ (l : List ℕ). 34 ∷ (kind_key ++ l)) (sym (append_assoc (escaped (b ∷ kind)) (34 ∷ []) rest))

-- a line from the name on, by the text of the name
pub label_then : (text name kind rest : List ℕ) → text ≡ escaped name → text ++ (kind_text kind ++ 34 ∷ rest) ≡ escaped name ++ (34 ∷ (kind_field kind ++ rest))
label_then text name kind rest h =
    ap (λ (l : List ℕ). l ++ (kind_text kind ++ 34 ∷ rest)) h ∙ ap (λ (l : List ℕ). escaped name ++ l) (kind_then kind rest)

-- the line that announces a trial, and what follows
announcement_then : (name kind rest : List ℕ) → json_announcement (record { kind = kind; name = name }) ++ rest
    ≡ announcement_front ++ (escaped name ++ (kind_text kind ++ 34 ∷ (json_end ++ rest)))
unfolding json_announcement
announcement_then name kind rest =
    let quoted : List ℕ = 34 ∷ (kind_field kind ++ json_end) in
    ap (λ (l : List ℕ). announcement_front ++ l)
    (append_assoc (escaped name) quoted rest ∙ ap (λ (l : List ℕ). escaped name ++ (34 ∷ l)) (append_assoc (kind_field kind) json_end rest) ∙ ap (λ (l : List ℕ). escaped name ++ l) (sym (kind_then kind (json_end ++ rest))))

-- both lines of a trial, from the parts that they are put together of
pub both_lines : (front text name kind rest : List ℕ) → text ≡ escaped name
    → announcement_front ++ (text ++ (kind_text kind ++ 34 ∷ (json_end ++ (front ++ (text ++ (kind_text kind ++ 34 ∷ rest))))))
    ≡ json_announcement (record { kind = kind; name = name }) ++ (front ++ (escaped name ++ (34 ∷ (kind_field kind ++ rest))))
both_lines front text name kind rest h =
    ap (λ (l : List ℕ). announcement_front ++ (l ++ (kind_text kind ++ 34 ∷ (json_end ++ (front ++ (l ++ (kind_text kind ++ 34 ∷ rest))))))) h
    ∙ sym (announcement_then name kind (front ++ (escaped name ++ (kind_text kind ++ 34 ∷ rest))))
    ∙ ap (λ (l : List ℕ). json_announcement (record { kind = kind; name = name }) ++ (front ++ (escaped name ++ l))) (kind_then kind rest)

-- a text that begins with a quote
pub quote_first : (text : List ℕ) → take 1 text ≡ 34 ∷ [] → text ≡ 34 ∷ drop 1 text
quote_first [] h = absurd cc
quote_first (b ∷ text) h = cc

-- the line and both lines, if a word that begins with the last quote follows the kind
pub word_then : (text name kind word rest : List ℕ) → text ≡ escaped name → take 1 word ≡ 34 ∷ []
    → text ++ (kind_text kind ++ (word ++ rest)) ≡ escaped name ++ (34 ∷ (kind_field kind ++ (drop 1 word ++ rest)))
word_then text name kind word rest h quoted =
    ap (λ (l : List ℕ). text ++ (kind_text kind ++ (l ++ rest))) (quote_first word quoted) ∙ label_then text name kind (drop 1 word ++ rest) h

pub both_words : (front text name kind word rest : List ℕ) → text ≡ escaped name → take 1 word ≡ 34 ∷ []
    → announcement_front ++ (text ++ (kind_text kind ++ 34 ∷ (json_end ++ (front ++ (text ++ (kind_text kind ++ (word ++ rest)))))))
    ≡ json_announcement (record { kind = kind; name = name }) ++ (front ++ (escaped name ++ (34 ∷ (kind_field kind ++ (drop 1 word ++ rest)))))
both_words front text name kind word rest h quoted =
    ap (λ (l : List ℕ). announcement_front ++ (text ++ (kind_text kind ++ 34 ∷ (json_end ++ (front ++ (text ++ (kind_text kind ++ (l ++ rest)))))))) (quote_first word quoted)
    ∙ both_lines front text name kind (drop 1 word ++ rest) h
