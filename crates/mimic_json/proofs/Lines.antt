-- The lines of a report are texts of objects.
use Rattle.std.proofs.Common.{◌≡◌, ℕ, ◌<◌, ◌^◌, Bool, true, false, cond, ltb, List, [], ◌∷◌, ◌++◌, length, Option, None, Some, decimal, refl, sym, ap, ap₂, ◌∙◌, subst, arith, append_assoc, append-nil, map}
use Rattle.std.specs.Prelude.{codes, IfOk, Result, Ok, Err}
use Rattle.std.specs.List.{AllByRecursion, concat, flat_map}
use Rattle.std.proofs.lemmas.Bool.{and_from, and_parts, ne_eqb}
use Rattle.std.proofs.lemmas.List.{append_cancel_right, length-map}
use Rattle.std.proofs.lemmas.List.Sums.{count_by-le-length}
use Rattle.std.proofs.lemmas.List.Concat.{flat_map-append}
use Rattle.mimic_trial.specs.Escape.{escape, escaped}
use Rattle.mimic_trial.specs.Seconds.{exact_seconds}
use Rattle.mimic_trial.specs.declared.outcome.Outcome.{Outcome}
use Rattle.mimic_trial.specs.declared.outcome.Outcome.TheVariants.{Passed, Failed, Ignored, Measured}
use Rattle.mimic_trial.specs.declared.outcome.Conclusion.{Conclusion}
use Rattle.mimic_trial.specs.Count.{counts_of, is_passed, is_failed, is_ignored_outcome, is_measured}
use Rattle.mimic_trial.specs.Promise.{FitsTypes}
use Rattle.mimic_printer.specs.Row.{Label}
use Rattle.mimic_printer.specs.Json as ours
use Rattle.mimic_printer.proofs.JsonLines.{lines_each}
use Rattle.mimic_printer.specs.Json.{Contents, Entry, FitsEntry, FitsTime, HasNoEnd, IsJsonReport, IsLine, json_report, conclusion_of, entry_lines, report_lines, announcement_front, json_announcement, json_line, json_outcome, json_summary, json_title, json_verdict, kind_field, outcome_front, title_front}
use Rattle.serde_json.specs.Read.{read}
use Rattle.mimic_json.specs.Fields.{object_of, Field, text, count, seconds}
use Rattle.mimic_json.specs.Lines.{IsReadAs, AreReadAs, FitsCounts, LinesAreObjects, before_first, lines_of, entry_fields, report_fields, announcement_fields, outcome_fields, title_fields, summary_fields, kind_fields, time_fields, event_fields, type_of}
use Rattle.mimic_json.proofs.Members.{is_other_key, own_keys, HaveOwnKeys-own_keys, has_exactly}
use Rattle.mimic_json.proofs.Times.{to_float-seconds_number}
use Rattle.mimic_json.proofs.Objects.{FitsScalar, field_text, object_text, later_text, object_document, object_read}

kind_printed : (kind : List ℕ) (fs : List Field) → kind_field kind ++ later_text fs ≡ later_text (kind_fields kind ++ fs)
unfolding escaped
kind_printed [] fs = refl
kind_printed (b ∷ bs) fs = simp append_assoc

-- a name, the kind behind it, and what follows
name_printed : (name kind : List ℕ) (fs : List Field) (end : List ℕ) → end ≡ later_text fs ++ 10 ∷ []
    → escaped name ++ 34 ∷ (kind_field kind ++ end) ≡ ((escaped name ++ 34 ∷ []) ++ later_text (kind_fields kind ++ fs)) ++ 10 ∷ []
name_printed name kind fs end e =
    rw (e, ← kind_printed kind fs) (simp append_assoc)

announcement_printed : (label : Label) → json_announcement label
    ≡ object_text ((codes "type", text (codes "test")) ∷ (codes "event", text (codes "started")) ∷ (codes "name", text label.name) ∷ (kind_fields label.kind ++ [])) ++ 10 ∷ []
unfolding json_announcement escaped
announcement_printed label = ap (λ (r : List ℕ). announcement_front ++ r) (name_printed label.name label.kind [] (json_line []) refl)

-- a failure's message in its quotes
message_printed : (message rest : List ℕ) → escaped message ++ (codes "\\\"\\n\"" ++ rest) ≡ (escaped (message ++ codes "\"\n") ++ 34 ∷ []) ++ rest
unfolding escaped
message_printed message rest = rw (flat_map-append escape message (codes "\"\n")) (simp append_assoc)

-- a field, and what follows
field_printed : (f : Field) (fs : List Field) (end : List ℕ) → end ≡ later_text fs ++ 10 ∷ [] → (44 ∷ field_text f) ++ end ≡ later_text (f ∷ fs) ++ 10 ∷ []
field_printed f fs end e = ap (λ (r : List ℕ). (44 ∷ field_text f) ++ r) e ∙ sym (append_assoc (44 ∷ field_text f) (later_text fs) (10 ∷ []))

-- the time, if there is one, and what follows
time_printed : (time : Option ℕ) (fs : List Field) (end : List ℕ) → end ≡ later_text fs ++ 10 ∷ [] → ours.time_field time ++ end ≡ later_text (time_fields time ++ fs) ++ 10 ∷ []
unfolding escaped
time_printed None fs end e = e
time_printed (Some nanos) fs end e = field_printed (codes "exec_time", seconds nanos) fs end e

-- the time as the last field
last_printed : (time : Option ℕ) → ours.time_field time ++ codes " }\n" ≡ later_text (time_fields time) ++ 10 ∷ []
last_printed time = time_printed time [] (codes " }\n") refl ∙ ap (λ (fs : List Field). later_text fs ++ 10 ∷ []) (append-nil (time_fields time))

-- a failure's message as the last field
stdout_printed : (message : List ℕ) → json_line (ours.stdout_key ∷ escaped message ∷ codes "\\\"\\n\"" ∷ [])
    ≡ later_text ((codes "stdout", text (codes "Error: \"" ++ (message ++ codes "\"\n"))) ∷ []) ++ 10 ∷ []
unfolding escaped
stdout_printed message = ap (λ (r : List ℕ). ours.stdout_key ++ r) (message_printed message (codes " }\n"))
    ∙ field_printed (codes "stdout", text (codes "Error: \"" ++ (message ++ codes "\"\n"))) [] (codes " }\n") refl

event_printed : (o : Outcome) (time : Option ℕ) → json_line (ours.outcome_fields o time) ≡ later_text (event_fields o time) ++ 10 ∷ []
unfolding escaped
event_printed Passed time = field_printed (codes "event", text (codes "ok")) (time_fields time) _ (last_printed time)
event_printed (Failed None) time = field_printed (codes "event", text (codes "failed")) (time_fields time) _ (last_printed time)
event_printed (Failed (Some message)) time =
    let stdout : List Field = (codes "stdout", text (codes "Error: \"" ++ (message ++ codes "\"\n"))) ∷ [] in
    field_printed (codes "event", text (codes "failed")) (time_fields time ++ stdout) _ (time_printed time stdout _ (stdout_printed message))
event_printed Ignored time = field_printed (codes "event", text (codes "ignored")) (time_fields time) _ (last_printed time)
event_printed (Measured m) time =
    field_printed (codes "median", count m.avg) ((codes "deviation", count m.variance) ∷ time_fields time) _
    (field_printed (codes "deviation", count m.variance) (time_fields time) _ (last_printed time))

outcome_printed : (label : Label) (o : Outcome) (time : Option ℕ) (measured : Bool) → json_line (outcome_front measured ∷ escaped label.name ∷ codes "\"" ∷ kind_field label.kind ∷ ours.outcome_fields o time)
    ≡ object_text ((codes "type", text (type_of measured)) ∷ (codes "name", text label.name) ∷ (kind_fields label.kind ++ event_fields o time)) ++ 10 ∷ []
unfolding escaped
outcome_printed label o time false = ap (λ (r : List ℕ). outcome_front false ++ r) (name_printed label.name label.kind (event_fields o time) _ (event_printed o time))
outcome_printed label o time true = ap (λ (r : List ℕ). outcome_front true ++ r) (name_printed label.name label.kind (event_fields o time) _ (event_printed o time))

title_printed : (n : ℕ) → json_title n ≡ object_text (title_fields n) ++ 10 ∷ []
unfolding json_title escaped
title_printed n = ap (λ (r : List ℕ). codes "{ \"type\": \"suite\", \"event\": \"started\"" ++ r) (field_printed (codes "test_count", count n) [] (codes " }\n") refl)

-- the counts of a summary, and its time
counts_printed : (c : Conclusion) (nanos : ℕ) → concat (ours.number_field (codes ", \"passed\": ") c.num_passed
    ∷ ours.number_field (codes ", \"failed\": ") c.num_failed ∷ ours.number_field (codes ", \"ignored\": ") c.num_ignored ∷ ours.number_field (codes ", \"measured\": ") c.num_measured
    ∷ codes ", \"filtered_out\": " ∷ decimal c.num_filtered_out ∷ codes ", \"exec_time\": " ∷ exact_seconds nanos ∷ codes " }\n" ∷ [])
    ≡ later_text ((codes "passed", count c.num_passed) ∷ (codes "failed", count c.num_failed) ∷ (codes "ignored", count c.num_ignored) ∷ (codes "measured", count c.num_measured)
    ∷ (codes "filtered_out", count c.num_filtered_out) ∷ (codes "exec_time", seconds nanos) ∷ []) ++ 10 ∷ []
unfolding escaped
counts_printed c nanos =
    let f5 : List Field = (codes "exec_time", seconds nanos) ∷ [] in
    let f4 : List Field = (codes "filtered_out", count c.num_filtered_out) ∷ f5 in
    let f3 : List Field = (codes "measured", count c.num_measured) ∷ f4 in
    let f2 : List Field = (codes "ignored", count c.num_ignored) ∷ f3 in
    let f1 : List Field = (codes "failed", count c.num_failed) ∷ f2 in
    field_printed (codes "passed", count c.num_passed) f1 _
    (field_printed (codes "failed", count c.num_failed) f2 _
    (field_printed (codes "ignored", count c.num_ignored) f3 _
    (field_printed (codes "measured", count c.num_measured) f4 _
    (field_printed (codes "filtered_out", count c.num_filtered_out) f5 _
    (field_printed (codes "exec_time", seconds nanos) [] (codes " }\n") refl)))))

summary_at : (c : Conclusion) (nanos : ℕ) (b : Bool) → json_line (codes "{ \"type\": \"suite\", \"event\": \"" ∷ cond b (codes "failed") (codes "ok") ∷ ours.number_field (codes "\", \"passed\": ") c.num_passed
    ∷ ours.number_field (codes ", \"failed\": ") c.num_failed ∷ ours.number_field (codes ", \"ignored\": ") c.num_ignored ∷ ours.number_field (codes ", \"measured\": ") c.num_measured
    ∷ codes ", \"filtered_out\": " ∷ decimal c.num_filtered_out ∷ codes ", \"exec_time\": " ∷ exact_seconds nanos ∷ [])
    ≡ object_text ((codes "type", text (codes "suite")) ∷ (codes "event", text (cond b (codes "failed") (codes "ok"))) ∷ (codes "passed", count c.num_passed)
    ∷ (codes "failed", count c.num_failed) ∷ (codes "ignored", count c.num_ignored) ∷ (codes "measured", count c.num_measured)
    ∷ (codes "filtered_out", count c.num_filtered_out) ∷ (codes "exec_time", seconds nanos) ∷ []) ++ 10 ∷ []
unfolding escaped
summary_at c nanos true = ap (λ (r : List ℕ). codes "{ \"type\": \"suite\", \"event\": \"failed\"" ++ r) (counts_printed c nanos)
summary_at c nanos false = ap (λ (r : List ℕ). codes "{ \"type\": \"suite\", \"event\": \"ok\"" ++ r) (counts_printed c nanos)

-- ---- what the lines say

says : (line : List ℕ) (fs : List Field) → line ≡ object_text fs ++ 10 ∷ [] → AllByRecursion (λ g. FitsScalar g.1) fs → own_keys fs ≡ true → IsReadAs line fs
says line fs e h own =
    let keys = HaveOwnKeys-own_keys fs own in
    record { front = object_text fs; parts = e; value = object_read fs h; spelled = object_document fs h; keys = keys; members = has_exactly fs keys }

announcement_own : (name kind : List ℕ) → own_keys ((codes "type", text (codes "test")) ∷ (codes "event", text (codes "started")) ∷ (codes "name", text name) ∷ (kind_fields kind ++ [])) ≡ true
announcement_own name [] = refl
announcement_own name (b ∷ bs) = refl

-- keys that are apart with a kind before them are apart without one
kind_own : (type name kind : List ℕ) (fs : List Field) → own_keys ((codes "type", text type) ∷ (codes "name", text name) ∷ (codes "kind", text kind) ∷ fs) ≡ true
    → own_keys ((codes "type", text type) ∷ (codes "name", text name) ∷ (kind_fields kind ++ fs)) ≡ true
kind_own type name [] fs h =
    let types = and_parts (is_other_key (codes "type") fs) _ h in
    let names = and_parts (is_other_key (codes "name") fs) _ types.1 in
    let kinds = and_parts (is_other_key (codes "kind") fs) _ names.1 in
    and_from _ _ types.0 (and_from _ _ names.0 kinds.1)
kind_own type name (b ∷ bs) fs h = h

event_own : (type name kind : List ℕ) (o : Outcome) (time : Option ℕ) → own_keys ((codes "type", text type) ∷ (codes "name", text name) ∷ (codes "kind", text kind) ∷ event_fields o time) ≡ true
event_own type name kind Passed None = refl
event_own type name kind Passed (Some nanos) = refl
event_own type name kind (Failed None) None = refl
event_own type name kind (Failed None) (Some nanos) = refl
event_own type name kind (Failed (Some message)) None = refl
event_own type name kind (Failed (Some message)) (Some nanos) = refl
event_own type name kind Ignored None = refl
event_own type name kind Ignored (Some nanos) = refl
event_own type name kind (Measured m) None = refl
event_own type name kind (Measured m) (Some nanos) = refl

outcome_own : (label : Label) (o : Outcome) (time : Option ℕ) → own_keys (outcome_fields label o time) ≡ true
outcome_own label o time =
    let type = type_of (is_measured o) in
    kind_own type label.name label.kind (event_fields o time) (event_own type label.name label.kind o time)

kind_fits : (kind : List ℕ) → AllByRecursion (λ g. FitsScalar g.1) (kind_fields kind)
kind_fits [] = tt
kind_fits (b ∷ bs) = (tt, tt)

time_fits : (time : Option ℕ) → FitsTime time → AllByRecursion (λ g. FitsScalar g.1) (time_fields time)
time_fits None h = tt
time_fits (Some nanos) h = (h, tt)

both_fit : (fs gs : List Field) → AllByRecursion (λ g. FitsScalar g.1) fs → AllByRecursion (λ g. FitsScalar g.1) gs → AllByRecursion (λ g. FitsScalar g.1) (fs ++ gs)
both_fit [] gs h k = k
both_fit (f ∷ fs) gs h k = (h.0, both_fit fs gs h.1 k)

event_fits : (o : Outcome) (time : Option ℕ) → FitsTypes o → FitsTime time → AllByRecursion (λ g. FitsScalar g.1) (event_fields o time)
event_fits Passed time h k = (tt, time_fits time k)
event_fits (Failed None) time h k = (tt, time_fits time k)
event_fits (Failed (Some message)) time h k = (tt, both_fit (time_fields time) _ (time_fits time k) (tt, tt))
event_fits Ignored time h k = (tt, time_fits time k)
event_fits (Measured m) time h k = (h.0, (h.1, time_fits time k))

pub announcement_says : (label : Label) → IsReadAs (json_announcement label) (announcement_fields label)
announcement_says label =
    let none = append-nil (kind_fields label.kind) in
    subst (λ (fs : List Field). IsReadAs (json_announcement label) ((codes "type", text (codes "test")) ∷ (codes "event", text (codes "started")) ∷ (codes "name", text label.name) ∷ fs)) none
    (says (json_announcement label) ((codes "type", text (codes "test")) ∷ (codes "event", text (codes "started")) ∷ (codes "name", text label.name) ∷ (kind_fields label.kind ++ [])) (announcement_printed label) (tt, (tt, (tt, both_fit (kind_fields label.kind) [] (kind_fits label.kind) tt))) (announcement_own label.name label.kind))

pub outcome_says : (label : Label) (o : Outcome) (time : Option ℕ) → FitsTypes o → FitsTime time → IsReadAs (json_outcome label o time) (outcome_fields label o time)
unfolding json_outcome
outcome_says label o time h k =
    says (json_outcome label o time) (outcome_fields label o time) (outcome_printed label o time (is_measured o))
    (tt, (tt, both_fit (kind_fields label.kind) (event_fields o time) (kind_fits label.kind) (event_fits o time h k))) (outcome_own label o time)

pub title_says : (n : ℕ) → n < 2 ^ 64 → IsReadAs (json_title n) (title_fields n)
title_says n h = says (json_title n) (title_fields n) (title_printed n) (tt, (tt, (h, tt))) refl

pub summary_says : (c : Conclusion) (nanos : ℕ) → FitsCounts c → nanos < 2 ^ 64 → IsReadAs (json_summary c nanos) (summary_fields c nanos)
unfolding json_summary
summary_says c nanos h small =
    says (json_summary c nanos) (summary_fields c nanos) (summary_at c nanos (ltb 0 c.num_failed)) (tt, (tt, (h.passed, (h.failed, (h.ignored, (h.measured, (h.filtered_out, (small, tt)))))))) refl

-- ---- a whole report

say_append : (ls ms : List (List ℕ)) (fs gs : List (List Field)) → AreReadAs ls fs → AreReadAs ms gs → AreReadAs (ls ++ ms) (fs ++ gs)
say_append [] ms [] gs a b = b
say_append [] ms (f ∷ fs) gs a b = absurd a
say_append (l ∷ ls) ms [] gs a b = absurd a
say_append (l ∷ ls) ms (f ∷ fs) gs a b = (a.0, say_append ls ms fs gs a.1 b)

entries_say : (es : List Entry) → AllByRecursion FitsEntry es → AreReadAs (flat_map entry_lines es) (flat_map entry_fields es)
entries_say [] h = tt
entries_say (e ∷ es) h = (announcement_says e.label, (outcome_says e.label e.outcome e.nanos h.0.outcome h.0.nanos, entries_say es h.1))

counts_fit : (os : List Outcome) (filtered_out : ℕ) → length os < 2 ^ 64 → filtered_out < 2 ^ 64 → FitsCounts (counts_of os filtered_out)
counts_fit os filtered_out few h = record {
  filtered_out = h;
  passed = omega (arith, few, count_by-le-length is_passed os);
  failed = omega (arith, few, count_by-le-length is_failed os);
  ignored = omega (arith, few, count_by-le-length is_ignored_outcome os);
  measured = omega (arith, few, count_by-le-length is_measured os);
}

pub report_says : (c : Contents) → AllByRecursion FitsEntry c.entries → length c.entries < 2 ^ 64 → c.filtered_out < 2 ^ 64 → c.nanos < 2 ^ 64 → AreReadAs (report_lines c) (report_fields c)
report_says c fit few h small =
    let os : List Outcome = map (λ (entry : Entry). entry.outcome) c.entries in
    let count_few : length os < 2 ^ 64 = omega (arith, length-map c.entries (λ (entry : Entry). entry.outcome), few) in
    (title_says (length c.entries) few, say_append (flat_map entry_lines c.entries) _ (flat_map entry_fields c.entries) _ (entries_say c.entries fit) (summary_says (conclusion_of c) c.nanos (counts_fit os c.filtered_out count_few h) small, tt))

-- ---- the text of a whole report

-- a front without a line end, and the line end after it, are the first line
cut_front : (front rest : List ℕ) → HasNoEnd front → lines_of (front ++ 10 ∷ rest) ≡ (front ++ 10 ∷ []) ∷ lines_of rest
cut_front [] rest h = refl
cut_front (b ∷ front) rest h =
    ap (λ (t : Bool). cond t ((b ∷ []) ∷ lines_of (front ++ 10 ∷ rest)) (before_first b (lines_of (front ++ 10 ∷ rest)))) (ne_eqb b 10 h.0)
    ∙ ap (before_first b) (cut_front front rest h.1)

cut_lines : (lines : List (List ℕ)) → AllByRecursion IsLine lines → lines_of (concat lines) ≡ lines
cut_lines [] h = refl
cut_lines (l ∷ lines) h =
    let line : IsLine l = h.0 in
    ap (λ (t : List ℕ). lines_of (t ++ concat lines)) line.parts ∙ ap lines_of (append_assoc line.front (10 ∷ []) (concat lines))
    ∙ cut_front line.front (concat lines) line.whole ∙ ap₂ (λ (x : List ℕ) (y : List (List ℕ)). x ∷ y) (sym line.parts) (cut_lines lines h.1)

text_reads : (bytes : List ℕ) (c : Contents) → IsJsonReport bytes c → length c.entries < 2 ^ 64 → AreReadAs (lines_of bytes) (report_fields c)
unfolding json_report
text_reads bytes c report few =
    subst (λ (lines : List (List ℕ)). AreReadAs lines (report_fields c)) (sym (ap lines_of report.text ∙ cut_lines (report_lines c) (lines_each bytes c report few)))
    (report_says c report.entries few report.filtered_out report.nanos)

pub lines_are_objects : LinesAreObjects
lines_are_objects = record { time = to_float-seconds_number; announcement = announcement_says; outcome = outcome_says; title = title_says; summary = summary_says; report = text_reads }

-- ---- what a reader answers

-- what a line says is what comes before its line end
pub text_says : (bytes : List ℕ) (fields : List Field) → IsReadAs (bytes ++ 10 ∷ []) fields → read bytes ≡ Some (object_of fields)
text_says bytes fields h = ap read (append_cancel_right bytes h.front (10 ∷ []) h.parts) ∙ h.value

pub ok_follows : {E T : Type 0} (r : Result T E) (P Q : T → Type 0) → ((v : T) → P v → Q v) → IfOk r P → IfOk r Q
ok_follows (Ok v) P Q f h = f v h
ok_follows (Err e) P Q f h = tt
