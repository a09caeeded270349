-- The lines of outcomes.
use Rattle.std.proofs.Common.{◌≡◌, ◌≢◌, inl, inr, ℕ, List, ◌∷◌, ◌++◌, Bool, true, false, Option, Some, None, option_map, decimal, refl, sym, ap, ap₂, subst, ◌∙◌, append_assoc, get_or, arith, ◌<◌, ◌^◌}
use Rattle.std.proofs.lemmas.Bool.{eqb-false}
use Rattle.std.proofs.lemmas.List.{append_cancel_left}
use Rattle.mimic_trial.specs.declared.outcome.Outcome.{Outcome}
use Rattle.mimic_trial.specs.declared.outcome.Outcome.TheVariants.{Passed, Failed, Ignored, Measured}
use Rattle.mimic_trial.specs.Count.{is_measured}
use Rattle.mimic_trial.specs.Promise.{FitsTypes}
use Rattle.mimic_trial.specs.Escape.{escaped}
use Rattle.mimic_printer.specs.Row.{Label}
use Rattle.mimic_printer.specs.Json.{FitsTime, deviation_key, json_end, json_outcome, kind_field, median_key, outcome_front, time_field}
use Rattle.mimic_events.specs.LineParts.{EndsNumber, FollowsTime, IsFailedEnd, IsMessage, IsSaid, IsTail, IsTime, IsWord, ReadsNumber, ReadsTime, behind_time, tail, word_field}
use Rattle.mimic_events.specs.Reading.{Decodes, End, IsOutcome}
use Rattle.mimic_events.proofs.Times.{one_time}

pub outcome_is : (label : Label) (o : Outcome) (time : Option ℕ) → json_outcome label o time ≡ outcome_front (is_measured o) ++ (escaped label.name ++ 34 ∷ (kind_field label.kind ++ tail o time))
unfolding json_outcome
outcome_is label o time = refl

abbrev pub measured : ℕ → ℕ → Outcome
measured avg variance = Measured (record { avg = avg; variance = variance })

apart : (b c : Bool) (x y : List ℕ) → outcome_front b ++ x ≡ outcome_front c ++ y → b ≡ c
apart true true x y e = refl
apart false false x y e = refl
apart true false x y e = absurd (eqb-false 98 116 refl (ap (λ (z : List ℕ). get_or z 11 0) e))
apart false true x y e = absurd (eqb-false 116 98 refl (ap (λ (z : List ℕ). get_or z 11 0) e))

-- the front of the line of an outcome, with the name and the kind
abbrev pub named : Bool → Label → List ℕ
named b label = outcome_front b ++ (escaped label.name ++ 34 ∷ kind_field label.kind)

-- what follows the front in such a line
abbrev followed : Label → List ℕ → List ℕ
followed label rest = escaped label.name ++ 34 ∷ (kind_field label.kind ++ rest)

regrouped : (b : Bool) (label : Label) (rest : List ℕ) → named b label ++ rest ≡ outcome_front b ++ followed label rest
regrouped b label rest = simp append_assoc

-- a line of an outcome is read apart so
given : (b : Bool) (line : List ℕ) (label : Label) (rest : List ℕ) (v : End) → line ≡ named b label ++ rest → IsOutcome label v line → (is_measured v.0 ≡ b) × (tail v.0 v.1 ≡ rest)
given b line label rest v h f =
    let last : List ℕ = tail v.0 v.1 in
    let e : line ≡ named (is_measured v.0) label ++ last = f.2 ∙ outcome_is label v.0 v.1 ∙ sym (regrouped (is_measured v.0) label last) in
    let same : is_measured v.0 ≡ b = apart (is_measured v.0) b (followed label last) (followed label rest) (sym (regrouped (is_measured v.0) label last) ∙ sym e ∙ h ∙ regrouped b label rest) in
    (same, append_cancel_left (named b label) last rest (sym (subst (λ (c : Bool). line ≡ named c label ++ last) same e) ∙ h))

pub ended_some : (b : Bool) (line : List ℕ) (label : Label) (rest : List ℕ) (o : Option End) → line ≡ named b label ++ rest → Decodes (IsTail b) rest o → Decodes (IsOutcome label) line o
ended_some b line label rest None h d = λ v f. let g = given b line label rest v h f in d v (g.0, f.0, f.1, sym g.1)
ended_some b line label rest (Some e) h d =
    ((d.0.1, d.0.2, h ∙ regrouped b label rest ∙ rw (d.0.3, ← d.0.0) refl ∙ sym (outcome_is label e.0 e.1)), λ v f. let g = given b line label rest v h f in d.1 v (g.0, f.0, f.1, sym g.1))

pub ended_none : (line : List ℕ) (label : Label) (v : End) → ((rest : List ℕ) → line ≢ named true label ++ rest) → ((rest : List ℕ) → line ≢ named false label ++ rest) → IsOutcome label v line → ⊥
ended_none line label v bench test f = at (is_measured v.0) (f.2 ∙ outcome_is label v.0 v.1 ∙ sym (regrouped (is_measured v.0) label (tail v.0 v.1)))
  where
    at : (b : Bool) → line ≡ named b label ++ tail v.0 v.1 → ⊥
    at true e = bench (tail v.0 v.1) e
    at false e = test (tail v.0 v.1) e

-- ---- words and times

-- the tail of an outcome that was not measured
pub tail_parts : (o : Outcome) (time : Option ℕ) → is_measured o ≡ false → tail o time ≡ word_field o ++ (time_field time ++ behind_time o)
tail_parts Passed time h = refl
tail_parts (Failed None) time h = refl
tail_parts (Failed (Some message)) time h = refl
tail_parts Ignored time h = refl
tail_parts (Measured m) time h = absurd cc

pub follows_time : (o : Outcome) → FollowsTime (behind_time o)
follows_time (Failed (Some message)) = inr (_, refl)
follows_time Passed = inl refl
follows_time (Failed None) = inl refl
follows_time Ignored = inl refl
follows_time (Measured m) = inl refl

-- the time of a text that has nothing more is the one that was read
pub time_none : (text : List ℕ) → ReadsTime text None → Decodes IsTime text None
time_none text read = λ v h. read v json_end h.0 (inl refl) h.1

pub time_last : (text rest : List ℕ) (time : Option ℕ) → ReadsTime text (Some (time, rest)) → rest ≡ json_end → Decodes IsTime text (Some time)
time_last text rest time read end =
    ((read.0, read.1 ∙ ap (λ (l : List ℕ). time_field time ++ l) end), λ v h. (read.2 v json_end h.0 (inl refl) h.1).0)

pub time_more : (text rest : List ℕ) (time : Option ℕ) → ReadsTime text (Some (time, rest)) → rest ≢ json_end → Decodes IsTime text None
time_more text rest time read more = λ v h. more (sym (read.2 v json_end h.0 (inl refl) h.1).1)

-- the first letter of a word in a text that begins with its field
abbrev letter : List ℕ → ℕ
letter text = get_or text 12 0

-- an outcome of which the text has the field
word_passed : (rest more : List ℕ) (v : End) → rest ≡ word_field Passed ++ more → IsTail false v rest → (v.0 ≡ Passed) × (more ≡ time_field v.1 ++ json_end)
word_passed rest more (Passed, time) e h = (refl, append_cancel_left (word_field Passed) more (time_field time ++ json_end) (sym e ∙ h.3))
word_passed rest more (Ignored, time) e h = absurd (eqb-false 111 105 refl (ap letter (sym e ∙ h.3)))
word_passed rest more (Failed None, time) e h = absurd (eqb-false 111 102 refl (ap letter (sym e ∙ h.3)))
word_passed rest more (Failed (Some message), time) e h = absurd (eqb-false 111 102 refl (ap letter (sym e ∙ h.3)))
word_passed rest more (Measured m, time) e h = absurd cc

word_ignored : (rest more : List ℕ) (v : End) → rest ≡ word_field Ignored ++ more → IsTail false v rest → (v.0 ≡ Ignored) × (more ≡ time_field v.1 ++ json_end)
word_ignored rest more (Ignored, time) e h = (refl, append_cancel_left (word_field Ignored) more (time_field time ++ json_end) (sym e ∙ h.3))
word_ignored rest more (Passed, time) e h = absurd (eqb-false 105 111 refl (ap letter (sym e ∙ h.3)))
word_ignored rest more (Failed None, time) e h = absurd (eqb-false 105 102 refl (ap letter (sym e ∙ h.3)))
word_ignored rest more (Failed (Some message), time) e h = absurd (eqb-false 105 102 refl (ap letter (sym e ∙ h.3)))
word_ignored rest more (Measured m, time) e h = absurd cc

word_failed : (rest more : List ℕ) (v : End) → rest ≡ word_field (Failed None) ++ more → IsTail false v rest → IsFailedEnd v more
word_failed rest more (Failed None, time) e h = (refl, h.1, h.2, append_cancel_left (word_field (Failed None)) more (time_field time ++ json_end) (sym e ∙ h.3))
word_failed rest more (Failed (Some message), time) e h =
    (refl, h.1, h.2, append_cancel_left (word_field (Failed None)) more (time_field time ++ behind_time (Failed (Some message))) (sym e ∙ h.3))
word_failed rest more (Passed, time) e h = absurd (eqb-false 102 111 refl (ap letter (sym e ∙ h.3)))
word_failed rest more (Ignored, time) e h = absurd (eqb-false 102 105 refl (ap letter (sym e ∙ h.3)))
word_failed rest more (Measured m, time) e h = absurd cc

pub passed_ends : (rest more : List ℕ) (o : Option (Option ℕ)) → rest ≡ word_field Passed ++ more → Decodes IsTime more o → Decodes (IsTail false) rest (option_map (λ time. (Passed, time)) o)
passed_ends rest more None e d = λ v h. d v.1 (h.2, (word_passed rest more v e h).1)
passed_ends rest more (Some time) e d = (
  (refl, tt, d.0.0, e ∙ ap (λ (l : List ℕ). word_field Passed ++ l) d.0.1),
  λ v h. let w = word_passed rest more v e h in ap₂ (λ (o : Outcome) (t : Option ℕ). (o, t)) w.0 (d.1 v.1 (h.2, w.1)),
)

pub ignored_ends : (rest more : List ℕ) (o : Option (Option ℕ)) → rest ≡ word_field Ignored ++ more → Decodes IsTime more o → Decodes (IsTail false) rest (option_map (λ time. (Ignored, time)) o)
ignored_ends rest more None e d = λ v h. d v.1 (h.2, (word_ignored rest more v e h).1)
ignored_ends rest more (Some time) e d = (
  (refl, tt, d.0.0, e ∙ ap (λ (l : List ℕ). word_field Ignored ++ l) d.0.1),
  λ v h. let w = word_ignored rest more v e h in ap₂ (λ (o : Outcome) (t : Option ℕ). (o, t)) w.0 (d.1 v.1 (h.2, w.1)),
)

failed_tail : (rest more : List ℕ) (v : End) → rest ≡ word_field (Failed None) ++ more → IsFailedEnd v more → IsTail false v rest
failed_tail rest more (Failed None, time) e h = (refl, h.1, h.2, e ∙ ap (λ (l : List ℕ). word_field (Failed None) ++ l) h.3)
failed_tail rest more (Failed (Some message), time) e h = (refl, h.1, h.2, e ∙ ap (λ (l : List ℕ). word_field (Failed None) ++ l) h.3)
failed_tail rest more (Passed, time) e h = absurd cc
failed_tail rest more (Ignored, time) e h = absurd cc
failed_tail rest more (Measured m, time) e h = absurd cc

pub failed_ends : (rest more : List ℕ) (o : Option End) → rest ≡ word_field (Failed None) ++ more → Decodes IsFailedEnd more o → Decodes (IsTail false) rest o
failed_ends rest more None e d = λ v h. d v (word_failed rest more v e h)
failed_ends rest more (Some end) e d = (failed_tail rest more end e d.0, λ v h. d.1 v (word_failed rest more v e h))

-- no other word
pub no_word : (rest : List ℕ) (v : End) → ((more : List ℕ) → rest ≢ word_field Passed ++ more) → ((more : List ℕ) → rest ≢ word_field Ignored ++ more)
    → ((more : List ℕ) → rest ≢ word_field (Failed None) ++ more) → IsTail false v rest → ⊥
no_word rest (Passed, time) a b c h = a _ h.3
no_word rest (Ignored, time) a b c h = b _ h.3
no_word rest (Failed None, time) a b c h = c _ h.3
no_word rest (Failed (Some message), time) a b c h = c _ h.3
no_word rest (Measured m, time) a b c h = absurd cc

-- ---- what follows the word of a failure

pub failed_none : (text : List ℕ) → ReadsTime text None → Decodes IsFailedEnd text None
failed_none text read = λ v h. read v.1 (behind_time v.0) h.2 (follows_time v.0) h.3

failed_rest : (text rest : List ℕ) (time : Option ℕ) (v : End) → ReadsTime text (Some (time, rest)) → IsFailedEnd v text
    → (v.1 ≡ time) × (message : Option (List ℕ)) × (v.0 ≡ Failed message) × IsMessage message rest
failed_rest text rest time (Failed message, other) read h =
    let r = read.2 other (behind_time (Failed message)) h.2 (follows_time (Failed message)) h.3 in (r.0, message, refl, (h.1, sym r.1))
failed_rest text rest time (Passed, other) read h = absurd cc
failed_rest text rest time (Ignored, other) read h = absurd cc
failed_rest text rest time (Measured m, other) read h = absurd cc

pub failed_found : (text rest : List ℕ) (time : Option ℕ) (o : Option (Option (List ℕ))) → ReadsTime text (Some (time, rest)) → Decodes IsMessage rest o
    → Decodes IsFailedEnd text (option_map (λ message. (Failed message, time)) o)
failed_found text rest time None read d = λ v h. let f = failed_rest text rest time v read h in d f.1 f.3
failed_found text rest time (Some message) read d = (
  (refl, d.0.0, read.0, read.1 ∙ ap (λ (l : List ℕ). time_field time ++ l) d.0.1),
  λ v h.
      let f = failed_rest text rest time v read h in
      ap₂ (λ (o : Outcome) (t : Option ℕ). (o, t)) (f.2 ∙ ap (λ (m : Option (List ℕ)). Failed m) (d.1 f.1 f.3)) f.0,
)

pub no_message : (text : List ℕ) → text ≡ json_end → Decodes IsMessage text (Some None)
no_message text e = ((tt, e), only)
  where
    only : (v : Option (List ℕ)) → IsMessage v text → v ≡ None
    only None h = refl
    only (Some message) h = absurd (eqb-false 32 44 refl (ap (λ (z : List ℕ). get_or z 0 0) (sym e ∙ h.1)))

pub some_message : (text : List ℕ) (o : Option (List ℕ)) → text ≢ json_end → Decodes IsSaid text o → Decodes IsMessage text (option_map (λ message. Some message) o)
some_message text None more d = only
  where
    only : (v : Option (List ℕ)) → IsMessage v text → ⊥
    only None h = more h.1
    only (Some message) h = d message h
some_message text (Some said) more d = (d.0, only)
  where
    only : (v : Option (List ℕ)) → IsMessage v text → v ≡ Some said
    only None h = absurd (more h.1)
    only (Some message) h = ap Some (d.1 message h)

-- ---- an outcome in a word, whatever its time

pub word_parts : (w : Outcome) → IsWord w → (is_measured w ≡ false) × FitsTypes w × (behind_time w ≡ json_end)
word_parts (Measured m) word = absurd word
word_parts (Failed (Some message)) word = absurd word
word_parts (Failed None) word = (refl, tt, refl)
word_parts Passed word = (refl, tt, refl)
word_parts Ignored word = (refl, tt, refl)

one_failure : (v : End) (time : Option ℕ) → FitsTime time → IsFailedEnd v (time_field time ++ json_end) → v ≡ (Failed None, time)
one_failure (Failed None, other) time fits h = ap (λ (t : Option ℕ). (Failed None, t)) (one_time other time json_end json_end h.2 fits (inl refl) (inl refl) (sym h.3)).0
one_failure (Failed (Some message), other) time fits h =
    let same = one_time other time (behind_time (Failed (Some message))) json_end h.2 fits (follows_time (Failed (Some message))) (inl refl) (sym h.3) in
    absurd (eqb-false 44 32 refl (ap (λ (z : List ℕ). get_or z 0 0) same.1))
one_failure (Passed, other) time fits h = absurd cc
one_failure (Ignored, other) time fits h = absurd cc
one_failure (Measured m, other) time fits h = absurd cc

pub is_word : (rest : List ℕ) (w : Outcome) (time : Option ℕ) → IsWord w → FitsTime time → rest ≡ tail w time → Decodes (IsTail false) rest (Some (w, time))
is_word rest Passed time word fits e = passed_ends rest (time_field time ++ json_end) (Some time) e ((fits, refl), λ v h. (one_time v time json_end json_end h.0 fits (inl refl) (inl refl) (sym h.1)).0)
is_word rest Ignored time word fits e = ignored_ends rest (time_field time ++ json_end) (Some time) e ((fits, refl), λ v h. (one_time v time json_end json_end h.0 fits (inl refl) (inl refl) (sym h.1)).0)
is_word rest (Failed None) time word fits e = failed_ends rest (time_field time ++ json_end) (Some (Failed None, time)) e ((refl, tt, fits, refl), λ v h. one_failure v time fits h)
is_word rest (Failed (Some message)) time word fits e = absurd word
is_word rest (Measured m) time word fits e = absurd word

-- ---- a measurement

ends_number : (time : Option ℕ) → EndsNumber (time_field time ++ json_end)
ends_number None = λ a b. omega arith
ends_number (Some nanos) = λ a b. omega arith

-- what follows the average, and what follows the variance
abbrev behind_average : ℕ → Option ℕ → List ℕ
behind_average y time = deviation_key ++ (decimal y ++ (time_field time ++ json_end))

pub measured_first : (rest first : List ℕ) (v : End) → IsTail true v rest → rest ≡ median_key ++ first
    → (x : ℕ) × (y : ℕ) × (v.0 ≡ measured x y) × (x < 2 ^ 64) × (y < 2 ^ 64) × (first ≡ decimal x ++ behind_average y v.1)
measured_first rest first (Measured m, time) h e = (m.avg, m.variance, refl, h.1.0, h.1.1, append_cancel_left median_key first _ (sym e ∙ h.3 ∙ simp append_assoc))
measured_first rest first v h e = absurd cc

pub no_median : (rest : List ℕ) (v : End) → ((more : List ℕ) → rest ≢ median_key ++ more) → IsTail true v rest → ⊥
no_median rest (Measured m, time) none h = none (decimal m.avg ++ behind_average m.variance time) (h.3 ∙ simp append_assoc)
no_median rest v none h = absurd cc

pub measured_second : (rest first second : List ℕ) (n : ℕ) (v : End) → IsTail true v rest → rest ≡ median_key ++ first → ReadsNumber first (Some (n, second))
    → (y : ℕ) × (v.0 ≡ measured n y) × (y < 2 ^ 64) × (second ≡ behind_average y v.1)
measured_second rest first second n v h e read =
    let m = measured_first rest first v h e in
    let r = read.3 m.0 (behind_average m.1 v.1) m.3 (λ a b. omega arith) m.5 in
    (m.1, m.2 ∙ ap (λ (x : ℕ). measured x m.1) r.0, m.4, sym r.1)

measured_third : (rest first second third end : List ℕ) (n k : ℕ) (v : End) → IsTail true v rest → rest ≡ median_key ++ first → ReadsNumber first (Some (n, second)) → second ≡ deviation_key ++ third → ReadsNumber third (Some (k, end))
    → (v.0 ≡ measured n k) × (end ≡ time_field v.1 ++ json_end)
measured_third rest first second third end n k v h e read f again =
    let m = measured_second rest first second n v h e read in
    let last : List ℕ = time_field v.1 ++ json_end in
    let third-is : third ≡ decimal m.0 ++ last = append_cancel_left deviation_key third (decimal m.0 ++ last) (sym f ∙ m.3) in
    let r = again.3 m.0 last m.2 (ends_number v.1) third-is in
    (m.1 ∙ ap (λ (y : ℕ). measured n y) r.0, sym r.1)

pub measured_all : (rest first second third end : List ℕ) (n k : ℕ) (o : Option (Option ℕ)) → rest ≡ median_key ++ first → ReadsNumber first (Some (n, second)) → second ≡ deviation_key ++ third → ReadsNumber third (Some (k, end))
    → Decodes IsTime end o → Decodes (IsTail true) rest (option_map (λ time. (measured n k, time)) o)
measured_all rest first second third end n k None e read f again d = λ v h. d v.1 (h.2, (measured_third rest first second third end n k v h e read f again).1)
measured_all rest first second third end n k (Some time) e read f again d = (
  (
    refl,
    (read.0, again.0),
    d.0.0,
    e ∙ ap (λ (x : List ℕ). median_key ++ x) (read.1 ∙ ap (λ (x : List ℕ). decimal n ++ x) (f ∙ ap (λ (x : List ℕ). deviation_key ++ x) (again.1 ∙ ap (λ (x : List ℕ). decimal k ++ x) d.0.1)))
        ∙ simp append_assoc,
  ),
  λ v h.
      let m = measured_third rest first second third end n k v h e read f again in
      ap₂ (λ (o : Outcome) (t : Option ℕ). (o, t)) m.0 (d.1 v.1 (h.2, m.1)),
)
