-- Pages of HTML that show a report, with nothing from outside.
use Rattle.std.specs.Prelude.{◌≡◌, ◌≤◌, ℕ, zero, suc, ◌+◌, ◌-◌, ◌/◌, ◌%◌, ◌^◌, ◌==◌, ◌||◌, not, max, min, nat_lt, fold, filter, take, Bool, if◌then◌else◌, List, [], ◌∷◌, ◌++◌, length, map, count_by, codes, decimal, string_bytes, Option, Some, None, is_some}
use Rattle.std.specs.List.{concat, flat_map, list_any, sum_by}
use Rattle.mimic_trial.specs.Text.{grouped}
use Rattle.mimic_trial.specs.declared.outcome.Outcome.{Outcome}
use Rattle.mimic_trial.specs.declared.outcome.Outcome.TheVariants as outcome
use Rattle.mimic_trial.specs.declared.outcome.Conclusion.{Conclusion}
use Rattle.mimic_trial.specs.declared.outcome.Measurement.{Measurement}
use Rattle.mimic_trial.specs.Count.{counts_of, is_failed, is_measured}
use Rattle.mimic_printer.specs.Json.{Entry, outcomes_in}
use Rattle.mimic_events.specs.Contents.{entry_read}
use Rattle.mimic_events.specs.declared.report.Label.{Label as LabelRead}
use Rattle.mimic_events.specs.Stops.{extent_text}
use Rattle.mimic_events.specs.Readings.{is_whole}
use Rattle.mimic_events.specs.declared.ending.Ending.{Ending}
use Rattle.mimic_events.specs.declared.ending.Ending.TheVariants as ends
use Rattle.mimic_events.specs.declared.ending.Stop.{Stop}
use Rattle.mimic_printer.specs.Escapes.{escaped}
use Rattle.mimic_printer.specs.EscapeLaws.{EscapeLaws}
use Rattle.mimic_printer.specs.declared.place.Place.TheVariants.{Html}
use Rattle.mimic_reports.specs.HumanTime.{human_time}
use Rattle.mimic_reports.specs.RowIds.{IdLaws, id_text}
use Rattle.mimic_reports.specs.declared.page.Group.{Group}
use Rattle.mimic_reports.specs.declared.page.Group.TheVariants.{Failed, Measured, Others}
use Rattle.mimic_reports.specs.declared.page.Listing.{Listing}
use Rattle.mimic_reports.specs.declared.page.PageContents.{PageContents}
use Rattle.mimic_reports.specs.declared.script.TheConstants.{FILTER, SCRIPT, SCRIPT_DIGEST}
use Rattle.mimic_reports.specs.declared.style.TheConstants.{STYLE}

-- ---- numbers

-- how many rows are missing after `ended` rows: those that were announced and have not ended
abbrev pub missing_after : ℕ → Option ℕ → ℕ
missing_after ended None = 0
missing_after ended (Some announced) = announced - ended

abbrev pub missing_in : ℕ → Ending → ℕ
missing_in ended (ends.Cut stop) = missing_after ended stop.announced
missing_in ended ending = 0

-- the average time that was measured, and 0 if none was
abbrev pub time_of : Outcome → ℕ
time_of (outcome.Measured m) = m.avg
time_of o = 0

-- the greatest of them, which has the longest bar
abbrev pub greatest_time : List Outcome → ℕ
greatest_time outcomes = fold max 0 (map time_of outcomes)

-- the length of a time's bar, by its logarithm: a number below 32 itself, and 16 more each time that the number is halved before
unfoldable pub bar_after : ℕ → ℕ → ℕ
bar_after zero nanos = nanos
bar_after (suc halvings) nanos = if nat_lt nanos 32 then nanos else 16 + bar_after halvings (nanos / 2)

abbrev pub bar_of : ℕ → ℕ
bar_of nanos = bar_after 64 nanos

-- ---- the beginning

-- a report without its title is none, and one without its end is cut
abbrev pub stop_verdict : Option ℕ → List ℕ
stop_verdict None = codes "no report"
stop_verdict (Some announced) = codes "cut"

-- the report in a word, if `failed` rows failed
abbrev pub verdict : ℕ → Ending → List ℕ
verdict failed (ends.Whole filtered_out nanos) = if failed == 0 then codes "ok" else codes "FAILED"
verdict failed (ends.Cut stop) = stop_verdict stop.announced
verdict failed (ends.Failed error) = codes "unread"

-- the colour of the word: with a failure that of failures, however the report ended
abbrev pub verdict_class : ℕ → Ending → List ℕ
verdict_class failed ending = if failed == 0 then (if is_whole ending then codes "passed" else codes "cut") else codes "failed"

-- the head, whose title has the verdict and the counts, and the heading
unfoldable pub start_text : List ℕ → Conclusion → Ending → List ℕ
start_text title counts ending = concat (
    codes "<!doctype html>\n<html lang=\"en\">\n<head>\n<meta charset=\"utf-8\">\n<meta name=\"viewport\" content=\"width=device-width, initial-scale=1\">\n<meta http-equiv=\"Content-Security-Policy\" content=\"default-src 'none'; style-src 'unsafe-inline'; script-src '"
    ∷ SCRIPT_DIGEST.now ∷ codes "'\">\n<title>" ∷ escaped Html title ∷ codes ": " ∷ verdict counts.num_failed ending
    ∷ codes ". " ∷ decimal counts.num_failed ∷ codes " failed; " ∷ decimal counts.num_passed
    ∷ codes " passed; " ∷ decimal counts.num_ignored ∷ codes " ignored; " ∷ decimal counts.num_measured
    ∷ codes " measured</title>\n<style>\n" ∷ STYLE.now
    ∷ codes "</style>\n</head>\n<body>\n<header>\n<h1><bdi>" ∷ escaped Html title
    ∷ codes "</bdi> <strong class=\"" ∷ verdict_class counts.num_failed ending
    ∷ codes "\">" ∷ verdict counts.num_failed ending ∷ codes "</strong></h1>\n" ∷ [])

-- a paragraph below it
unfoldable pub note_text : List ℕ → List ℕ
note_text note = concat (codes "<p><bdi>" ∷ escaped Html note ∷ codes "</bdi></p>\n" ∷ [])

-- ---- rows

-- what comes before and after a kind, and before the name; an empty kind has no element
abbrev pub kind_start : List ℕ → List ℕ
kind_start [] = []
kind_start (b ∷ kind) = codes "<bdi class=\"kind\">"

abbrev pub kind_end : List ℕ → List ℕ
kind_end [] = codes "<bdi>"
kind_end (b ∷ kind) = codes "</bdi> <bdi>"

-- a kind and a name, each set in a direction of its own
abbrev pub label_part : List ℕ → List ℕ → List ℕ
label_part kind name = concat (kind_start kind ∷ escaped Html kind ∷ kind_end kind ∷ escaped Html name ∷ codes "</bdi>" ∷ [])

-- what comes between the two places of a row's id: its class, and the beginning of a link to itself. A failure is open, and a reader can
-- close it
abbrev pub row_class : Outcome → List ℕ
row_class outcome.Passed = codes "\" class=\"passed\"><a href=\"#"
row_class outcome.Ignored = codes "\" class=\"ignored\"><a href=\"#"
row_class (outcome.Failed message) = codes "\" class=\"failed\"><details open><summary><a href=\"#"
row_class (outcome.Measured m) = codes "\" class=\"measured\"><a href=\"#"

-- the word of its outcome, which is the link
abbrev pub row_word : Outcome → List ℕ
row_word outcome.Passed = codes "\">ok</a> "
row_word outcome.Ignored = codes "\">ignored</a> "
row_word (outcome.Failed message) = codes "\">FAILED</a> "
row_word (outcome.Measured m) = codes "\">bench</a> "

-- what comes before a row's kind and name
unfoldable pub row_start : Entry → List ℕ
row_start entry = concat (codes "<li id=\"" ∷ id_text entry.label ∷ row_class entry.outcome ∷ id_text entry.label
    ∷ row_word entry.outcome ∷ [])

-- how long the trial took, and nothing if that isn't known
abbrev pub time_part : Option ℕ → List ℕ
time_part None = []
time_part (Some nanos) = concat (codes " <span class=\"time\" data-nanos=\"" ∷ decimal nanos ∷ codes "\">" ∷ human_time nanos
    ∷ codes "</span>" ∷ [])

-- the message of a failure. Readers of HTML drop a line feed right behind `<pre>`, so one is written before each message
abbrev pub message_part : Option (List ℕ) → List ℕ
message_part None = codes "</summary><p>no message</p></details></li>\n"
message_part (Some message) = concat (codes "</summary><pre>\n" ∷ escaped Html message ∷ codes "</pre></details></li>\n" ∷ [])

-- what was measured, and its bar
abbrev pub measurement_part : ℕ → Measurement → List ℕ
measurement_part longest m = concat (codes " <span>" ∷ grouped (decimal m.avg) ∷ codes " ns/iter (+/- " ∷ grouped (decimal m.variance)
    ∷ codes ")</span> <meter aria-hidden=\"true\" max=\"" ∷ decimal longest ∷ codes "\" value=\"" ∷ decimal (bar_of m.avg)
    ∷ codes "\"></meter></li>\n" ∷ [])

-- what follows the time
abbrev pub row_end : ℕ → Outcome → List ℕ
row_end longest outcome.Passed = codes "</li>\n"
row_end longest outcome.Ignored = codes "</li>\n"
row_end longest (outcome.Failed message) = message_part message
row_end longest (outcome.Measured m) = measurement_part longest m

-- a row, if the longest bar has this length
unfoldable pub row_text : ℕ → Entry → List ℕ
row_text longest entry = concat (row_start entry ∷ label_part entry.label.kind entry.label.name ∷ time_part entry.nanos
    ∷ row_end longest entry.outcome ∷ [])

-- ---- groups of rows

-- the row is in this group
abbrev pub is_in : Group → Outcome → Bool
is_in Failed o = is_failed o
is_in Measured o = is_measured o
is_in Others o = not (is_failed o || is_measured o)

-- the rows of a group, in their order
abbrev pub rows_of : Group → List Entry → List Entry
rows_of group entries = filter (λ entry. is_in group entry.outcome) entries

-- how many rows of a group are listed at most, if `most` of those that did not fail are: what was measured comes first, and no failure is
-- left out
abbrev pub limit_of : Group → ℕ → List Entry → ℕ
limit_of Failed most entries = length entries
limit_of Measured most entries = most
limit_of Others most entries = most - count_by is_measured (outcomes_in entries)

-- the rows of a group that are listed: the first ones, up to the limit
abbrev pub listed : Group → ℕ → List Entry → List Entry
listed group limit entries = take limit (rows_of group entries)

abbrev pub heading : Group → List ℕ
heading Failed = codes "<section id=\"failed\">\n<h2>Failed</h2>\n<ol>\n"
heading Measured = codes "<section id=\"measured\">\n<h2>Measured</h2>\n<ol>\n"
heading Others = codes "<section id=\"others\">\n<h2>Passed or ignored</h2>\n<ol>\n"

-- what follows `count` rows of a group: after each 500 a new list begins, so that lists that are not in sight are not laid out
abbrev pub list_end : ℕ → List ℕ
list_end count = if count % 500 == 0 then codes "</ol>\n<ol>\n" else []

-- rows of a group, if `count` of its rows come before them
unfoldable pub rows_after : ℕ → ℕ → List Entry → List ℕ
rows_after longest count [] = []
rows_after longest count (entry ∷ entries) = row_text longest entry ++ (list_end (suc count) ++ rows_after longest (suc count) entries)

-- the end of a group, of which `count` rows are not listed
abbrev pub unlisted_text : ℕ → List ℕ
unlisted_text count = if count == 0 then codes "</ol>\n</section>\n"
    else concat (codes "</ol>\n<p class=\"unlisted\">not listed: " ∷ decimal count ∷ codes "</p>\n</section>\n" ∷ [])

-- a group: its heading, the rows that are listed, and how many are not
unfoldable pub group_text : Listing → List Entry → List ℕ
group_text l entries = concat (heading l.group ∷ rows_after l.longest 0 (listed l.group l.limit entries)
    ∷ unlisted_text (length (rows_of l.group entries) - l.limit) ∷ [])

-- how a group is listed, if `most` rows that did not fail are
abbrev pub listing_of : Group → ℕ → List Entry → Listing
listing_of group most entries = record {
  group = group;
  limit = limit_of group most entries;
  longest = bar_of (greatest_time (outcomes_in entries));
}

-- all groups, failures first
unfoldable pub rows_text : ℕ → List Entry → List ℕ
rows_text most entries = concat (group_text (listing_of Failed most entries) entries
    ∷ group_text (listing_of Measured most entries) entries ∷ group_text (listing_of Others most entries) entries ∷ [])

-- ---- how it ended

-- how many trials have no row, if the report says how many there are
abbrev pub missing_part : ℕ → Option ℕ → List ℕ
missing_part ended None = []
missing_part ended (Some announced) = concat (codes "; missing: " ∷ decimal (announced - ended) ∷ [])

-- the trial that was announced and has not ended
abbrev pub running_part : Option LabelRead → List ℕ
running_part None = []
running_part (Some label) = codes "; running: " ++ label_part (string_bytes label.kind) (string_bytes label.name)

-- what is written about a report without its end, after `ended` rows
unfoldable pub stop_text : ℕ → Stop → List ℕ
stop_text ended stop = concat (codes "<p class=\"cut\">" ∷ extent_text ended stop ∷ missing_part ended stop.announced
    ∷ running_part stop.running ∷ codes "</p>\n" ∷ [])

-- what is written about a whole report
unfoldable pub whole_text : ℕ → ℕ → List ℕ
whole_text filtered_out nanos = concat (codes "<p>" ∷ decimal filtered_out ∷ codes " filtered out; finished in " ∷ human_time nanos
    ∷ codes "</p>\n" ∷ [])

-- what is written about a report that can't be read to its end
unfoldable pub unread_text : ℕ → List ℕ → List ℕ
unread_text ended cause = concat (codes "<p class=\"cut\">the report can't be read to its end: <bdi>" ∷ escaped Html cause
    ∷ codes "</bdi>; trials that ended before: " ∷ decimal ended ∷ codes "</p>\n" ∷ [])

-- what is written about how a report ended; the cause is why the reader failed
abbrev pub ending_text : ℕ → Ending → List ℕ → List ℕ
ending_text ended (ends.Whole filtered_out nanos) cause = whole_text filtered_out nanos
ending_text ended (ends.Cut stop) cause = stop_text ended stop
ending_text ended (ends.Failed error) cause = unread_text ended cause

-- ---- times

abbrev pub time_taken : Option ℕ → ℕ
time_taken None = 0
time_taken (Some nanos) = nanos

-- how long the trials took together, which is at most what a `u64` holds, and how long the slowest of them took
abbrev pub total_time : List (Option ℕ) → ℕ
total_time times = min (2 ^ 64 - 1) (sum_by time_taken times)

abbrev pub slowest_time : List (Option ℕ) → ℕ
slowest_time times = fold max 0 (map time_taken times)

unfoldable pub total_text : ℕ → ℕ → List ℕ
total_text total slowest = concat (codes "<p>total " ∷ human_time total ∷ codes ", slowest " ∷ human_time slowest ∷ codes "</p>\n" ∷ [])

-- what is written about the times of rows, if one has a time
abbrev pub times_text : List (Option ℕ) → List ℕ
times_text times = if list_any is_some times then total_text (total_time times) (slowest_time times) else []

-- ---- counts

-- a part of the bar, which is as wide as its number is great
abbrev pub bar_part : List ℕ → ℕ → List (List ℕ) → List (List ℕ)
bar_part class number rest = codes "<i class=\"" ∷ class
    ∷ codes "\" style=\"flex-grow: " ∷ decimal number ∷ codes "\"></i>" ∷ rest

-- the counts as a bar and in words
unfoldable pub counts_text : Conclusion → ℕ → List ℕ
counts_text counts missing = concat (codes "<div class=\"bar\" aria-hidden=\"true\">"
    ∷ bar_part (codes "failed") counts.num_failed (bar_part (codes "passed") counts.num_passed
    (bar_part (codes "ignored") counts.num_ignored
    (bar_part (codes "measured") counts.num_measured (bar_part (codes "cut") missing
    (codes "</div>\n<ul class=\"counts\">\n<li class=\"failed\">" ∷ decimal counts.num_failed
    ∷ codes " failed</li>\n<li class=\"passed\">" ∷ decimal counts.num_passed
    ∷ codes " passed</li>\n<li class=\"ignored\">" ∷ decimal counts.num_ignored
    ∷ codes " ignored</li>\n<li class=\"measured\">" ∷ decimal counts.num_measured
    ∷ codes " measured</li>\n</ul>\n</header>\n" ∷ []))))))

-- a link to a group, with the number of its rows. A style hides it if there are none
abbrev pub link_part : List ℕ → ℕ → List ℕ → List (List ℕ) → List (List ℕ)
link_part group count name rest = codes "<a href=\"#" ∷ group ∷ codes "\" data-rows=\"" ∷ decimal count ∷ codes "\">" ∷ name ∷ codes ": "
    ∷ decimal count ∷ codes "</a>\n" ∷ rest

-- links to the groups, and the filter, which the script shows
unfoldable pub links_text : Conclusion → List ℕ
links_text counts = concat (codes "<nav>\n" ∷ link_part (codes "failed") counts.num_failed (codes "Failed")
    (link_part (codes "measured") counts.num_measured (codes "Measured")
    (link_part (codes "others") (counts.num_passed + counts.num_ignored) (codes "Passed or ignored")
    (codes "</nav>\n" ∷ FILTER.now ∷ codes "<main>\n" ∷ []))))

-- ---- the whole

-- the rows of a page
abbrev pub entries_of : PageContents → List Entry
entries_of page = map entry_read page.rows.now

-- what comes before the rows
unfoldable pub header_text : PageContents → List ℕ
header_text page = let entries = entries_of page in let counts = counts_of (outcomes_in entries) 0 in
    concat (start_text page.title.now counts page.ending.now
    ∷ flat_map (λ note. note_text (string_bytes note)) page.notes.now
    ∷ ending_text (length entries) page.ending.now page.cause.now
    ∷ times_text (map (λ entry. entry.nanos) entries)
    ∷ counts_text counts (missing_in (length entries) page.ending.now)
    ∷ links_text counts ∷ [])

abbrev pub end_text : List ℕ
end_text = concat (codes "</main>\n<script>" ∷ SCRIPT.now ∷ codes "</script>\n</body>\n</html>\n" ∷ [])

-- the page of a report
unfoldable pub page_text : PageContents → List ℕ
page_text page = concat (header_text page ∷ rows_text page.most (entries_of page) ∷ end_text ∷ [])

-- ---- a row in the place that it has. No public clause names these words

-- a row, if it is in the group, and `found` rows of the group come before it
abbrev pub row_in : Listing → ℕ → Entry → List ℕ
row_in l found entry = if is_in l.group entry.outcome
    then (if nat_lt found l.limit then row_text l.longest entry ++ list_end (found + 1) else []) else []

-- how many rows of the group there are with it
abbrev pub found_after : Group → ℕ → Entry → ℕ
found_after group found entry = if is_in group entry.outcome then found + 1 else found

-- ---- laws

-- each row is in one group, and in no other
abbrev pub StandsOnce : Type 0
StandsOnce = (o : Outcome) → count_by (λ group. is_in group o) (Failed ∷ Measured ∷ Others ∷ []) ≡ 1

-- all failures are listed, whatever the limit is
abbrev pub ListsFailures : Type 0
ListsFailures = (most : ℕ) (entries : List Entry) → listed Failed (limit_of Failed most entries) entries ≡ rows_of Failed entries

-- all rows are listed, if the limit is at least their number
abbrev pub ListsAll : Type 0
ListsAll = (group : Group) (most : ℕ) (entries : List Entry) → length entries ≤ most
    → listed group (limit_of group most entries) entries ≡ rows_of group entries

-- what holds of every page: which rows are on it, and that texts are no markup
pub record PageLaws : Type 0 where
  pub once : StandsOnce
  pub failures : ListsFailures
  pub all : ListsAll
  pub escapes : EscapeLaws
  pub ids : IdLaws
