-- Reports in the XML that readers of JUnit's reports take. No standard fixes it: the elements and attributes are those that
-- Jenkins, GitLab, Surefire and junitparser read; the texts of messages are our own.
use Rattle.std.specs.Prelude.{ℕ, ◌+◌, if◌then◌else◌, List, [], ◌∷◌, ◌++◌, length, map, count_by, codes, decimal, Option, Some, None, string_bytes}
use Rattle.std.specs.List.{concat, flat_map}
use Rattle.mimic_trial.specs.declared.outcome.Outcome.{Outcome}
use Rattle.mimic_trial.specs.declared.outcome.Outcome.TheVariants.{Passed, Failed, Ignored, Measured}
use Rattle.mimic_trial.specs.Count.{is_failed, is_ignored_outcome}
use Rattle.mimic_trial.specs.Text.{grouped}
use Rattle.mimic_printer.specs.Json.{Entry}
use Rattle.mimic_events.specs.Contents.{entry_read}
use Rattle.mimic_events.specs.Readings.{is_whole}
use Rattle.mimic_events.specs.declared.ending.Ending.{Ending}
use Rattle.mimic_events.specs.declared.ending.Ending.TheVariants as ends
use Rattle.mimic_events.specs.declared.ending.Stop.{Stop}
use Rattle.mimic_reports.specs.Cut.{cut_text}
use Rattle.mimic_reports.specs.Seconds.{rounded_seconds}
use Rattle.mimic_reports.specs.declared.junit_elements.Numbers.{Numbers}
use Rattle.mimic_reports.specs.declared.suite.Suite.{Suite}
use Rattle.mimic_printer.specs.Escapes.{escaped}
use Rattle.mimic_printer.specs.Piece.{first_line}
use Rattle.mimic_printer.specs.declared.place.Place.TheVariants.{Content, Value}

-- ---- numbers

-- a report without its end has one more test, which is an error
abbrev pub errors_of : Ending → ℕ
errors_of ending = if is_whole ending then 0 else 1

-- the time of the run, and 0 if the report doesn't say it
abbrev pub nanos_of : Ending → ℕ
nanos_of (ends.Whole filtered_out nanos) = nanos
nanos_of ending = 0

-- the numbers of a report
abbrev pub numbers_of : Suite → Numbers
numbers_of s = record {
  tests = length s.rows.items + errors_of s.ending;
  failures = count_by is_failed (map (λ row. row.outcome) s.rows.items);
  errors = errors_of s.ending;
  skipped = count_by is_ignored_outcome (map (λ row. row.outcome) s.rows.items);
  nanos = nanos_of s.ending;
}

-- the sums of two reports' numbers
abbrev pub added : Numbers → Numbers → Numbers
added a b = record {
  tests = a.tests + b.tests;
  failures = a.failures + b.failures;
  errors = a.errors + b.errors;
  skipped = a.skipped + b.skipped;
  nanos = a.nanos + b.nanos;
}

-- the sums of all reports' numbers
abbrev pub total : List Numbers → Numbers
total [] = record { tests = 0; failures = 0; errors = 0; skipped = 0; nanos = 0 }
total (n ∷ numbers) = added n (total numbers)

-- ---- the beginnings of elements

-- the attributes of the numbers, and the end of the tag
abbrev pub numbers_part : Numbers → List (List ℕ)
numbers_part n = codes " tests=\"" ∷ decimal n.tests ∷ codes "\" failures=\"" ∷ decimal n.failures ∷ codes "\" errors=\"" ∷ decimal n.errors
    ∷ codes "\" skipped=\"" ∷ decimal n.skipped ∷ codes "\" time=\"" ∷ rounded_seconds n.nanos ∷ codes "\">\n" ∷ []

-- what comes before the first report
unfoldable pub root_start : Numbers → List ℕ
root_start n = codes "<?xml version=\"1.0\" encoding=\"UTF-8\"?>\n<testsuites" ++ concat (numbers_part n)

-- what comes before the rows of a report
unfoldable pub suite_start : List ℕ → Numbers → List ℕ
suite_start program n = concat (codes "  <testsuite name=\"" ∷ escaped Value program ∷ codes "\"" ∷ []) ++ concat (numbers_part n)

-- ---- rows

-- what comes between the program and a kind, and nothing before an empty one
abbrev pub class_point : List ℕ → List ℕ
class_point [] = []
class_point (b ∷ kind) = codes "."

-- the quote behind the name, and the attribute of the time that the trial took, in seconds, without its last quote; nothing if there
-- is no time
abbrev pub time_part : Option ℕ → List ℕ
time_part None = []
time_part (Some nanos) = codes "\" time=\"" ++ rounded_seconds nanos

-- what follows them in a row, from the last quote on: a failure has its message, the first line as an attribute and the whole as a
-- text; what was measured are properties, and output as pretty prints it, but for its columns
abbrev pub outcome_part : Outcome → List (List ℕ)
outcome_part Passed = codes "\"/>\n" ∷ []
outcome_part Ignored = codes "\"><skipped/></testcase>\n" ∷ []
outcome_part (Failed None) = codes "\"><failure type=\"failed\"/></testcase>\n" ∷ []
outcome_part (Failed (Some message)) = codes "\"><failure type=\"failed\" message=\"" ∷ escaped Value (first_line message) ∷ codes "\">"
    ∷ escaped Content message ∷ codes "</failure></testcase>\n" ∷ []
outcome_part (Measured m) = codes "\"><properties><property name=\"ns_per_iter\" value=\"" ∷ decimal m.avg
    ∷ codes "\"/><property name=\"deviation\" value=\"" ∷ decimal m.variance ∷ codes "\"/></properties><system-out>"
    ∷ grouped (decimal m.avg) ∷ codes " ns/iter (+/- " ∷ grouped (decimal m.variance) ∷ codes ")</system-out></testcase>\n" ∷ []

-- the line, or with a message the lines, of a row
unfoldable pub case_text : List ℕ → Entry → List ℕ
case_text program entry = concat (codes "    <testcase classname=\"" ∷ escaped Value program ∷ class_point entry.label.kind
    ∷ escaped Value entry.label.kind ∷ codes "\" name=\"" ∷ escaped Value entry.label.name ∷ time_part entry.nanos
    ∷ outcome_part entry.outcome)

-- ---- a report without its end

-- the line that says that it has no end, after `ended` rows
unfoldable pub stop_text : List ℕ → ℕ → Stop → List ℕ
stop_text program ended stop = concat (concat (codes "    <testcase classname=\"" ∷ escaped Value program
    ∷ codes "\" name=\"(whole report)\"><error type=\"incomplete\" message=\"" ∷ [])
    ∷ cut_text Value ended stop ∷ codes "\"/></testcase>\n" ∷ [])

-- the line that says why it was not read to its end
unfoldable pub unread_text : List ℕ → List ℕ → List ℕ
unread_text program cause = concat (codes "    <testcase classname=\"" ∷ escaped Value program
    ∷ codes "\" name=\"(whole report)\"><error type=\"unreadable\" message=\"" ∷ escaped Value cause ∷ codes "\"/></testcase>\n" ∷ [])

-- what follows the rows; the cause is why the reader failed
abbrev pub ending_text : List ℕ → ℕ → Ending → List ℕ → List ℕ
ending_text program ended (ends.Whole filtered_out nanos) cause = []
ending_text program ended (ends.Cut stop) cause = stop_text program ended stop
ending_text program ended (ends.Failed error) cause = unread_text program cause

-- ---- the whole

-- the element of a report: each of its rows once, in their order
unfoldable pub suite_text : Suite → List ℕ
suite_text s = concat (suite_start s.program.now (numbers_of s) ∷ flat_map (λ row. case_text s.program.now (entry_read row)) s.rows.items
    ∷ ending_text s.program.now (length s.rows.items) s.ending (string_bytes s.cause) ∷ codes "  </testsuite>\n" ∷ [])

-- what comes before the root of a document
abbrev pub declaration : List ℕ
declaration = codes "<?xml version=\"1.0\" encoding=\"UTF-8\"?>\n"

-- the document of one report, whose root is its element
abbrev pub alone_text : Suite → List ℕ
alone_text s = declaration ++ suite_text s

-- the document of reports: each of them once, in their order
unfoldable pub junit_text : List Suite → List ℕ
junit_text suites = concat (root_start (total (map numbers_of suites)) ∷ flat_map suite_text suites ∷ codes "</testsuites>\n" ∷ [])
