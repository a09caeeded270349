-- Bytes that change nothing more, and may be forgotten.
use Rattle.std.proofs.Common.{◌≡◌, ◌≢◌, ◌⊎◌, ℕ, ◌+◌, ◌<◌, ◌^◌, List, [], ◌∷◌, ◌++◌, Bool, true, false, length, Option, Some, None, MatchOption, is_some, eqb, refl, sym, ap, subst, ◌∙◌, append_assoc, append-nil, inl, inr, arith}
use Rattle.std.specs.Bool.{then_some}
use Rattle.std.proofs.lemmas.Bool.Decides.{eqb_tells}
use Rattle.std.proofs.lemmas.List.{length-append}
use Rattle.mimic_trial.specs.declared.outcome.Outcome.{Outcome}
use Rattle.mimic_trial.specs.declared.outcome.Outcome.TheVariants.{Measured}
use Rattle.mimic_printer.specs.Row.{Label}
use Rattle.mimic_printer.specs.Json.{Contents, HasNoEnd, IsLine, json_announcement, json_outcome, json_summary, json_title}
use Rattle.mimic_trial.specs.declared.outcome.Conclusion.{Conclusion}
use Rattle.mimic_events.specs.declared.report.Totals.{Totals}
use Rattle.mimic_events.specs.Contents.{Spells, totals_of}
use Rattle.mimic_events.specs.Progress.{LeadsFrom, Next, State, Step, announced_from, state_text, title_next, row_next, outcome_next, nothing_next}
use Rattle.mimic_events.specs.Readers.{BeginsAstray, Known, NeverBegins, SumsUp, line_front, report_with}
use Rattle.mimic_events.specs.Reading.{Decodes}
use Rattle.mimic_events.specs.SoFar.{BeginsWithTitle, IsFirstWrong}
use Rattle.mimic_events.specs.Tally.{IsAlike, SpellSame, SpellsFew, SpellsTotals}
use Rattle.mimic_events.proofs.Begun.{finds_first, lines_of}
use Rattle.mimic_events.proofs.FewRows.{few_rows, report_long}
use Rattle.mimic_events.proofs.Readings.{few_were_read, line_with, more_left, with_rest}
use Rattle.mimic_events.proofs.SoFar.{finds_title}
use Rattle.mimic_events.proofs.WholeLines.{line_some}

-- ---- what lines begin with

-- of two texts that begin alike, one begins with the other
either_front : (a b x y : List ℕ) → a ++ x ≡ b ++ y → ((rest : List ℕ) × (a ≡ b ++ rest)) ⊎ ((rest : List ℕ) × (b ≡ a ++ rest))
either_front [] b x y e = inr (b, refl)
either_front (c ∷ a) [] x y e = inl (c ∷ a, refl)
either_front (c ∷ a) (d ∷ b) x y e =
    let head : c ≡ d = cc in
    elim (either_front a b x y cc) [
      | inl h ↦ inl (h.0, rw (head, h.1) refl)
      | inr h ↦ inr (h.0, rw (head, h.1) refl)
    ]

-- a text never begins with a front if neither begins with the other
pub never_begins : (front text : List ℕ) → ((rest : List ℕ) → text ≢ front ++ rest) → ((rest : List ℕ) → front ≢ text ++ rest) → NeverBegins front text
never_begins front text longer shorter = λ more rest e. elim (either_front text front more rest e) [
  | inl h ↦ longer h.0 h.1
  | inr h ↦ shorter h.0 h.1
]

pub if_none : {T : Type 0} (o : Option T) (P : Type 0) (Q : T → Type 0) → is_some o ≡ false → MatchOption o P Q → P
if_none None P Q e h = h
if_none (Some x) P Q e h = absurd cc

title_begins : (n : ℕ) → (rest : List ℕ) × (json_title n ≡ line_front ++ rest)
unfolding json_title
title_begins n = (_, refl)

announcement_begins : (label : Label) → (rest : List ℕ) × (json_announcement label ≡ line_front ++ rest)
unfolding json_announcement
announcement_begins label = (_, refl)

outcome_begins : (label : Label) (outcome : Outcome) (time : Option ℕ) → (rest : List ℕ) × (json_outcome label outcome time ≡ line_front ++ rest)
unfolding json_outcome
outcome_begins label (Measured measurement) time = (_, refl)
outcome_begins label other time = (_, refl)

summary_begins : (c : Conclusion) (nanos : ℕ) → (rest : List ℕ) × (json_summary c nanos ≡ line_front ++ rest)
unfolding json_summary
summary_begins c nanos = (_, refl)

-- each line that leads somewhere begins with `line_front`
step_begins : (next : Next) (s : State) (line : List ℕ) (t : State) → LeadsFrom next s line t → (rest : List ℕ) × (line ≡ line_front ++ rest)
step_begins title_next s line t (count, is, e) = let b = title_begins count in (b.0, is.1 ∙ b.1)
step_begins row_next s line t (inl (more, label, is, e)) = let b = announcement_begins label in (b.0, is.1 ∙ b.1)
step_begins row_next s line t (inr (all, numbers, is, e)) = let b = summary_begins _ numbers.1 in (b.0, is.2 ∙ b.1)
step_begins (outcome_next label) s line t (end, is, e) = let b = outcome_begins label end.0 end.1 in (b.0, is.2 ∙ b.1)
step_begins (nothing_next filtered_out nanos) s line t h = absurd h

-- a text that never begins with `line_front` leads nowhere, whatever follows
no_step : (s : State) (text more : List ℕ) (t : State) → NeverBegins line_front text → Step s (text ++ more) t → ⊥
no_step s text more t never step = let b = step_begins s.next s (text ++ more) t step in never more b.0 b.1

-- ---- what is known of a rest that something stands for

-- the text has no line end, or begins with a line
abbrev Ends : Bool → List ℕ → Type 0
Ends false text = HasNoEnd text
Ends true text = (line : List ℕ) × (after : List ℕ) × IsLine line × (text ≡ line ++ after)

ends_first : (c : ℕ) (text : List ℕ) → ((eqb c 10 ≡ true) × (c ≡ 10)) ⊎ ((eqb c 10 ≡ false) × (c ≢ 10)) → (b : Bool) × Ends b text → (b : Bool) × Ends b (c ∷ text)
ends_first c text (inl e) rest = (true, (c ∷ [], text, record { front = []; parts = ap (λ (x : ℕ). x ∷ []) e.1; whole = tt }, refl))
ends_first c text (inr e) (false, h) = (false, (e.1, h))
ends_first c text (inr e) (true, (line, after, is, parts)) =
    (true, (c ∷ line, after, record { front = c ∷ is.front; parts = ap (λ (x : List ℕ). c ∷ x) is.parts; whole = (e.1, is.whole) }, ap (λ (x : List ℕ). c ∷ x) parts))

ends : (text : List ℕ) → (b : Bool) × Ends b text
ends [] = (false, tt)
ends (c ∷ text) = ends_first c text (eqb_tells c 10) (ends text)

-- a rest without a line end that never begins a line
lost : (s : State) (rest more : List ℕ) (b : Bool) → Known s rest false → NeverBegins line_front rest → Ends b more → Known s (rest ++ more) b
lost s rest more false known never h = more_left s rest more false known (λ e. h)
lost s rest more true known never (line, after, is, e) = with_rest s rest (rest ++ more) false true known (record {
  line = rest ++ line;
  more = after;
  parts = ap (λ (x : List ℕ). rest ++ x) e ∙ sym (append_assoc rest line after);
  whole = line_with rest line known.unread is;
  nowhere = λ t step. no_step s rest line t never step;
})

hyphen_never : NeverBegins line_front (45 ∷ [])
hyphen_never = λ more rest e. absurd cc

end_never : NeverBegins line_front (10 ∷ [])
end_never = λ more rest e. absurd cc

empty_line : (s : State) (rest : List ℕ) (stuck : Bool) → Known s rest stuck → Known s (10 ∷ []) true
empty_line s rest stuck known = with_rest s rest (10 ∷ []) stuck true known (record {
  line = 10 ∷ [];
  more = [];
  parts = refl;
  whole = record { front = []; parts = refl; whole = tt };
  nowhere = λ t step. no_step s (10 ∷ []) [] t end_never step;
})

-- ---- the same is found

found_same : {V : Type 0} (spells : V → List ℕ → Type 0) (a b : List ℕ) (o : Option V) → Decodes spells a o → Decodes spells b o → (v : V) → spells v a → spells v b
found_same spells a b None d e v h = absurd (d v h)
found_same spells a b (Some x) d e v h = subst (λ u. spells u b) (sym (d.1 v h)) e.0

both_same : {V : Type 0} (spells : V → List ℕ → Type 0) (a b : List ℕ) (o : Option V) → Decodes spells a o → Decodes spells b o → SpellSame spells a b
both_same spells a b o d e = λ v. (found_same spells a b o d e v, found_same spells b a o e d v)

no_report : (s : State) (first : ℕ) (rest : List ℕ) (stuck : Bool) → Known s (first ∷ rest) stuck → Decodes SpellsFew (state_text s ++ first ∷ rest) None
no_report s first rest stuck known = λ c h. absurd (let e = (few_were_read s (first ∷ rest) stuck c known h.0 h.1).1 in cc)

-- two rests of one state of which the same is known
same_rests : (s : State) (c d : ℕ) (p q : List ℕ) → ((more : List ℕ) → (stuck : Bool) × Known s (c ∷ (p ++ more)) stuck × Known s (d ∷ (q ++ more)) stuck) → IsAlike (state_text s ++ c ∷ p) (state_text s ++ d ∷ q)
same_rests s c d p q known = record {
  titles = λ more. let k = known more in
      moved BeginsWithTitle more (both_same BeginsWithTitle _ _ (announced_from s.next s.announced) (finds_title s (c ∷ (p ++ more)) k.0 k.1) (finds_title s (d ∷ (q ++ more)) k.0 k.2));
  wrong = λ more. let k = known more in
      moved IsFirstWrong more (both_same IsFirstWrong _ _ (then_some k.0 (lines_of s + 1)) (finds_first s (c ∷ (p ++ more)) k.0 _ k.1 refl)
      (finds_first s (d ∷ (q ++ more)) k.0 _ k.2 refl));
  reports = λ more. let k = known more in
      moved SpellsFew more (both_same SpellsFew _ _ None (no_report s c (p ++ more) k.0 k.1) (no_report s d (q ++ more) k.0 k.2));
}
  where
    moved : {V : Type 0} (spells : V → List ℕ → Type 0) (more : List ℕ) → SpellSame spells (state_text s ++ c ∷ (p ++ more)) (state_text s ++ d ∷ (q ++ more)) → SpellSame spells ((state_text s ++ c ∷ p) ++ more) ((state_text s ++ d ∷ q) ++ more)
    moved spells more same = rw (append_assoc (state_text s) (c ∷ p) more, append_assoc (state_text s) (d ∷ q) more) same

-- ---- texts that are alike

same_trans : {V : Type 0} (spells : V → List ℕ → Type 0) (a b c : List ℕ) → SpellSame spells a b → SpellSame spells b c → SpellSame spells a c
same_trans spells a b c f g = λ v. (λ h. (g v).0 ((f v).0 h), λ h. (f v).1 ((g v).1 h))

pub alike_trans : (a b c : List ℕ) → IsAlike a b → IsAlike b c → IsAlike a c
alike_trans a b c f g = record {
  titles = λ more. same_trans BeginsWithTitle _ _ _ (f.titles more) (g.titles more);
  wrong = λ more. same_trans IsFirstWrong _ _ _ (f.wrong more) (g.wrong more);
  reports = λ more. same_trans SpellsFew _ _ _ (f.reports more) (g.reports more);
}

-- the same follows both
pub alike_more : (a b x : List ℕ) → IsAlike a b → IsAlike (a ++ x) (b ++ x)
alike_more a b x h = record {
  titles = λ more. rw (append_assoc a x more, append_assoc b x more) (h.titles (x ++ more));
  wrong = λ more. rw (append_assoc a x more, append_assoc b x more) (h.wrong (x ++ more));
  reports = λ more. rw (append_assoc a x more, append_assoc b x more) (h.reports (x ++ more));
}

decodes_same : {V : Type 0} (spells : V → List ℕ → Type 0) (a b : List ℕ) (o : Option V) → SpellSame spells a b → Decodes spells b o → Decodes spells a o
decodes_same spells a b None same d = λ v h. d v ((same v).0 h)
decodes_same spells a b (Some x) same d = ((same x).1 d.0, λ v h. d.1 v ((same v).0 h))

now_same : {V : Type 0} (spells : V → List ℕ → Type 0) (a b : List ℕ) → SpellSame spells (a ++ []) (b ++ []) → SpellSame spells a b
now_same spells a b same = rw (append-nil a, append-nil b) at same

pub title_found : (a b : List ℕ) (o : Option ℕ) → IsAlike a b → Decodes BeginsWithTitle b o → Decodes BeginsWithTitle a o
title_found a b o h d = decodes_same BeginsWithTitle a b o (now_same BeginsWithTitle a b (h.titles [])) d

pub wrong_found : (a b : List ℕ) (o : Option ℕ) → IsAlike a b → Decodes IsFirstWrong b o → Decodes IsFirstWrong a o
wrong_found a b o h d = decodes_same IsFirstWrong a b o (now_same IsFirstWrong a b (h.wrong [])) d

-- ---- forgetting

-- lines that have ended, of which the first leads nowhere
pub forgets_lines : (s : State) (rest : List ℕ) → Known s rest true → Known s (10 ∷ []) true × IsAlike (state_text s ++ rest) (state_text s ++ 10 ∷ [])
forgets_lines s [] known = absurd (no_first known.unread)
  where
    no_first : BeginsAstray s [] → ⊥
    no_first h = omega (arith, ap length h.parts, length-append h.line h.more, line_some h.line h.whole)
forgets_lines s (c ∷ p) known =
    let empty = empty_line s (c ∷ p) true known in
    (empty, same_rests s c 10 p [] (λ more. (true, more_left s (c ∷ p) more true known (λ e. absurd cc), more_left s (10 ∷ []) more true empty (λ e. absurd cc))))

-- a line that hasn't ended, and never begins as one
pub forgets_front : (s : State) (rest : List ℕ) → Known s rest false → NeverBegins line_front rest → Known s (45 ∷ []) false × IsAlike (state_text s ++ rest) (state_text s ++ 45 ∷ [])
forgets_front s [] known never = absurd (never line_front [] (sym (append-nil line_front)))
forgets_front s (c ∷ p) known never =
    let hyphen = with_rest s (c ∷ p) (45 ∷ []) false false known ((λ e. absurd cc), tt) in
    (hyphen, same_rests s c 45 p [] (λ more. let e = ends more in (e.0, lost s (c ∷ p) more e.0 known never e.1, lost s (45 ∷ []) more e.0 hyphen hyphen_never e.1)))

-- ---- the end

-- a report of bytes in memory has fewer rows
few_in : (bytes : List ℕ) (c : Contents) → length bytes < 2 ^ 64 → Spells c bytes → SpellsFew c bytes
few_in bytes c short h = (omega (arith, ap length h.text, report_long c, short), h)

pub totals_found : (s : State) (rest bytes : List ℕ) (stuck : Bool) (o : Option Totals) → Known s rest stuck → IsAlike bytes (state_text s ++ rest) → length rest < 2 ^ 64 → length bytes < 2 ^ 64 → SumsUp (state_text s ++ rest) s.entries o → Decodes SpellsTotals bytes o
totals_found s rest bytes stuck None known alike short few d = λ v h. d h.contents (same h.contents (few_in bytes h.contents few h.spelled)).1
  where
    same : (c : Contents) → SpellsFew c bytes → SpellsFew c (state_text s ++ rest)
    same c = (now_same SpellsFew bytes (state_text s ++ rest) (alike.reports []) c).0
totals_found s rest bytes stuck (Some totals) known alike short few d =
    let c : Contents = report_with s.entries totals in
    let same = now_same SpellsFew bytes (state_text s ++ rest) (alike.reports []) in
    let spelled = (same c).1 (few_rows s rest c known.fits short d.0.0, d.0.0) in (
      record { contents = c; spelled = spelled.1; numbers = d.1 },
      λ v h. h.numbers ∙ ap totals_of (d.0.1 h.contents ((same h.contents).0 (few_in bytes h.contents few h.spelled)).1) ∙ sym d.1,
    )
