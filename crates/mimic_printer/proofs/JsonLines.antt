-- Each line of a report in JSON ends once, at its end, and how many lines a report has.
use Rattle.std.proofs.Common.{◌≡◌, ℕ, ◌+◌, ◌*◌, ◌<◌, ◌^◌, Bool, true, false, cond, eqb, ltb, not, ◌&&◌, List, [], ◌∷◌, ◌++◌, None, Option, Some, length, map, codes, decimal, refl, sym, ap, ap₂, subst, ◌∙◌, append_assoc, arith, inl, inr}
use Rattle.std.specs.List.{concat, flat_map, AllByRecursion}
use Rattle.std.specs.Str.Parse.{AllDigits}
use Rattle.std.proofs.lemmas.Bool.{cases_lt, ne_eqb}
use Rattle.std.proofs.lemmas.Bool.Decides.{nat_tests}
use Rattle.std.proofs.lemmas.Fmt.{digits_decimal}
use Rattle.std.proofs.lemmas.List.{length-append, length-map}
use Rattle.std.proofs.lemmas.List.Sums.{count_by-le-length, sum_by-append, sum_by-cons}
use Rattle.std.proofs.lemmas.Str.Parse.{digit_from_value, numerals_by_value, tells_digits}
use Rattle.mimic_trial.specs.declared.outcome.Outcome.{Outcome}
use Rattle.mimic_trial.specs.declared.outcome.Outcome.TheVariants.{Passed, Failed, Ignored, Measured}
use Rattle.mimic_trial.specs.declared.outcome.Conclusion.{Conclusion}
use Rattle.mimic_trial.specs.Count.{counts_of, is_passed, is_failed, is_ignored_outcome, is_measured}
use Rattle.mimic_trial.specs.Promise.{FitsTypes}
use Rattle.mimic_trial.specs.Escape.{escape, escaped}
use Rattle.mimic_trial.specs.Seconds.{IsRest, exact_seconds}
use Rattle.mimic_trial.proofs.Bounded.{all_below, one_below}
use Rattle.mimic_trial.proofs.Escapes.{escape-high}
use Rattle.mimic_trial.proofs.ExactSeconds.{seconds_exact}
use Rattle.mimic_printer.specs.Row.{Label}
use Rattle.mimic_printer.specs.Json.{Contents, Entry, FitsEntry, FitsTime, HasNoEnd, IsJsonReport, IsLine, announcement_front, conclusion_of, deviation_key, entry_lines, event_field, json_announcement, json_line, json_outcome, json_report, json_summary, json_title, json_trial, json_verdict, kind_field, kind_key, line_ends, report_lines, median_key, number_field, outcome_fields, outcome_front, stdout_key, summary_front, time_field, time_key, title_front}

-- ---- texts in which no line ends

pub no_end-append : (a b : List ℕ) → HasNoEnd a → HasNoEnd b → HasNoEnd (a ++ b)
no_end-append [] b ha hb = hb
no_end-append (x ∷ a) b ha hb = (ha.0, no_end-append a b ha.1 hb)

abbrev ends_no_line : List ℕ → Bool
ends_no_line [] = true
ends_no_line (b ∷ bytes) = not (eqb b 10) && ends_no_line bytes

by_test : (bytes : List ℕ) → ends_no_line bytes ≡ true → HasNoEnd bytes
by_test [] h = tt
by_test (b ∷ bytes) h = ((λ e. grind (arith, nat_tests)), by_test bytes (grind (arith, nat_tests)))

low_escapes : all_below (λ b. ends_no_line (escape b)) 93 ≡ true
low_escapes = refl

escape_no_end : (b : ℕ) → HasNoEnd (escape b)
escape_no_end b = elim (cases_lt b 93) [
  | inl lt ↦ by_test (escape b) (one_below (λ c. ends_no_line (escape c)) 93 b low_escapes lt)
  | inr le ↦ subst HasNoEnd (sym (escape-high b le)) ((λ e. omega (arith, le, e)), tt)
]

escaped_no_end : (text : List ℕ) → HasNoEnd (escaped text)
unfolding escaped
escaped_no_end [] = tt
escaped_no_end (b ∷ text) = no_end-append (escape b) (flat_map escape text) (escape_no_end b) (escaped_no_end text)

digits_no_end : (bytes : List ℕ) → AllDigits 10 bytes → HasNoEnd bytes
digits_no_end [] h = tt
digits_no_end (b ∷ bytes) h = ((λ e. let d = digit_from_value b h.0 in omega (arith, d.0, e)), digits_no_end bytes h.1)

decimal_no_end : (n : ℕ) → n < 2 ^ 64 → HasNoEnd (decimal n)
decimal_no_end n h = digits_no_end (decimal n) (digits_decimal (numerals_by_value (AllDigits 10) tells_digits) n h)

number_no_end : (key : List ℕ) (n : ℕ) → ends_no_line key ≡ true → n < 2 ^ 64 → HasNoEnd (number_field key n)
number_no_end key n clean h = no_end-append key (decimal n) (by_test key clean) (decimal_no_end n h)

rest_no_end : (fraction : ℕ) (rest : List ℕ) → IsRest fraction rest → HasNoEnd rest
rest_no_end fraction rest (inl h) = subst HasNoEnd (sym h.0) tt
rest_no_end fraction rest (inr h) = subst HasNoEnd (sym h.1) ((λ e. omega (arith, e)), digits_no_end h.0 h.2.numeral.1)

seconds_no_end : (nanos : ℕ) → nanos < 2 ^ 64 → HasNoEnd (exact_seconds nanos)
seconds_no_end nanos small =
    let h = seconds_exact nanos in
    subst HasNoEnd (sym h.parts) (no_end-append (decimal h.whole) h.rest (decimal_no_end h.whole (omega (arith, h.value, small))) (rest_no_end h.fraction h.rest h.spelled))

verdict_no_end : (failed : ℕ) → HasNoEnd (json_verdict failed)
verdict_no_end failed = elim (ltb 0 failed) as (λ b. HasNoEnd (cond b (codes "failed") (codes "ok"))) [ true ↦ by_test (codes "failed") refl | false ↦ by_test (codes "ok") refl ]

-- ---- the lines

-- parts in which no line ends make one line
line_of : (parts : List (List ℕ)) → AllByRecursion HasNoEnd parts → IsLine (json_line parts)
line_of [] h = record { front = codes " }"; parts = refl; whole = by_test (codes " }") refl }
line_of (part ∷ parts) h =
    let line = line_of parts h.1 in
    record { front = part ++ line.front; parts = ap (λ (t : List ℕ). part ++ t) line.parts ∙ sym (append_assoc part line.front (10 ∷ [])); whole = no_end-append part line.front h.0 line.whole }

pub title_line : (n : ℕ) → n < 2 ^ 64 → IsLine (json_title n)
unfolding json_title
title_line n h = line_of (title_front ∷ decimal n ∷ []) (by_test title_front refl, (decimal_no_end n h, tt))

kind_no_end : (kind : List ℕ) → HasNoEnd (kind_field kind)
kind_no_end [] = tt
kind_no_end (b ∷ kind) =
    no_end-append kind_key (escaped (b ∷ kind) ++ codes "\"") (by_test kind_key refl)
    (no_end-append (escaped (b ∷ kind)) (codes "\"") (escaped_no_end (b ∷ kind)) (by_test (codes "\"") refl))

trial_line : (front : List ℕ) (label : Label) (fields : List (List ℕ)) → HasNoEnd front → AllByRecursion HasNoEnd fields → IsLine (json_trial front label fields)
trial_line front label fields clean all =
    line_of (front ∷ escaped label.name ∷ codes "\"" ∷ kind_field label.kind ∷ fields)
    (clean, (escaped_no_end label.name, (by_test (codes "\"") refl, (kind_no_end label.kind, all))))

pub announcement_line : (label : Label) → IsLine (json_announcement label)
unfolding json_announcement
announcement_line label = trial_line announcement_front label [] (by_test announcement_front refl) tt

front_no_end : (measured : Bool) → HasNoEnd (outcome_front measured)
front_no_end true = by_test (outcome_front true) refl
front_no_end false = by_test (outcome_front false) refl

time_no_end : (time : Option ℕ) → FitsTime time → HasNoEnd (time_field time)
time_no_end None h = tt
time_no_end (Some nanos) h = no_end-append time_key (exact_seconds nanos) (by_test time_key refl) (seconds_no_end nanos h)

fields_no_end : (o : Outcome) (time : Option ℕ) → FitsTypes o → FitsTime time → AllByRecursion HasNoEnd (outcome_fields o time)
fields_no_end Passed time h t = (by_test (event_field (codes "ok")) refl, (time_no_end time t, tt))
fields_no_end (Failed None) time h t = (by_test (event_field (codes "failed")) refl, (time_no_end time t, tt))
fields_no_end (Failed (Some message)) time h t =
    (by_test (event_field (codes "failed")) refl, (time_no_end time t, (by_test stdout_key refl, (escaped_no_end message, (by_test (codes "\\\"\\n\"") refl, tt)))))
fields_no_end Ignored time h t = (by_test (event_field (codes "ignored")) refl, (time_no_end time t, tt))
fields_no_end (Measured m) time h t = (number_no_end median_key m.avg refl h.0, (number_no_end deviation_key m.variance refl h.1, (time_no_end time t, tt)))

outcome_line : (label : Label) (o : Outcome) (time : Option ℕ) → FitsTypes o → FitsTime time → IsLine (json_outcome label o time)
unfolding json_outcome
outcome_line label o time h t = trial_line (outcome_front (is_measured o)) label (outcome_fields o time) (front_no_end (is_measured o)) (fields_no_end o time h t)

summary_line : (os : List Outcome) (filtered_out nanos : ℕ) → length os < 2 ^ 64 → filtered_out < 2 ^ 64 → nanos < 2 ^ 64 → IsLine (json_summary (counts_of os filtered_out) nanos)
unfolding json_summary
summary_line os filtered_out nanos few h k =
    let c : Conclusion = counts_of os filtered_out in
    line_of (summary_front c ++ decimal filtered_out ∷ time_key ∷ exact_seconds nanos ∷ []) (
      by_test (codes "{ \"type\": \"suite\", \"event\": \"") refl,
      (
        verdict_no_end c.num_failed,
        (
          number_no_end (codes "\", \"passed\": ") c.num_passed refl (omega (arith, count_by-le-length is_passed os)),
          (
            number_no_end (codes ", \"failed\": ") c.num_failed refl (omega (arith, count_by-le-length is_failed os)),
            (
              number_no_end (codes ", \"ignored\": ") c.num_ignored refl (omega (arith, count_by-le-length is_ignored_outcome os)),
              (
                number_no_end (codes ", \"measured\": ") c.num_measured refl (omega (arith, count_by-le-length is_measured os)),
                (by_test (codes ", \"filtered_out\": ") refl, (decimal_no_end filtered_out h, (by_test time_key refl, (seconds_no_end nanos k, tt)))),
              ),
            ),
          ),
        ),
      ),
    )

-- ---- the lines of a report

pub each_append : (p q : List (List ℕ)) → AllByRecursion IsLine p → AllByRecursion IsLine q → AllByRecursion IsLine (p ++ q)
each_append [] q a b = b
each_append (l ∷ p) q a b = (a.0, each_append p q a.1 b)

pub rows_each : (es : List Entry) → AllByRecursion FitsEntry es → AllByRecursion IsLine (flat_map entry_lines es)
rows_each [] h = tt
rows_each (e ∷ es) h = (announcement_line e.label, (outcome_line e.label e.outcome e.nanos h.0.outcome h.0.nanos, rows_each es h.1))

-- each line of a report is one line
pub lines_each : (bytes : List ℕ) (c : Contents) → IsJsonReport bytes c → length c.entries < 2 ^ 64 → AllByRecursion IsLine (report_lines c)
lines_each bytes c report few =
    let os : List Outcome = map (λ (entry : Entry). entry.outcome) c.entries in
    let count : length os < 2 ^ 64 = omega (arith, length-map c.entries (λ (entry : Entry). entry.outcome), few) in
    (title_line (length c.entries) few, each_append (flat_map entry_lines c.entries) _ (rows_each c.entries report.entries) (summary_line os c.filtered_out c.nanos count report.filtered_out report.nanos, tt))

-- ---- how many there are

no_ends : (bytes : List ℕ) → HasNoEnd bytes → line_ends bytes ≡ 0
no_ends [] h = refl
no_ends (b ∷ bytes) h =
    sum_by-cons (λ (c : ℕ). cond (eqb c 10) 1 0) b bytes ∙ ap₂ (λ x y. x + y) (ap (λ (t : Bool). cond t 1 0) (ne_eqb b 10 h.0)) (no_ends bytes h.1)

lines_end : (lines : List (List ℕ)) → AllByRecursion IsLine lines → line_ends (concat lines) ≡ length lines
lines_end [] h = refl
lines_end (l ∷ lines) h =
    let one : line_ends l ≡ 1 = ap line_ends h.0.parts ∙ sum_by-append _ h.0.front (10 ∷ []) ∙ ap (λ n. n + 1) (no_ends h.0.front h.0.whole) in
    sum_by-append _ l (concat lines) ∙ rw (one, lines_end lines h.1) (omega arith)

rows_count : (es : List Entry) → length (flat_map entry_lines es) ≡ 2 * length es
rows_count [] = refl
rows_count (e ∷ es) = omega (arith, rows_count es)

-- a report in JSON has two lines for each entry, and two more
pub report_ends : (bytes : List ℕ) (c : Contents) → IsJsonReport bytes c → length c.entries < 2 ^ 64 → line_ends bytes ≡ 2 * length c.entries + 2
unfolding json_report
report_ends bytes c report few =
    ap line_ends report.text ∙ lines_end (report_lines c) (lines_each bytes c report few)
    ∙ omega (arith, rows_count c.entries, length-append (flat_map entry_lines c.entries) (json_summary (conclusion_of c) c.nanos ∷ []))
