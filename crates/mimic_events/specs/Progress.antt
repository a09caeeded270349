-- How a report is read line by line, as by a machine: which line may come next, and where it leads. Of public clauses only those of a tally and of a follower name these words.
use Rattle.std.specs.Prelude.{◌≡◌, ◌≢◌, ◌⊎◌, ℕ, ◌+◌, ◌*◌, ◌<◌, ◌≤◌, ◌^◌, List, [], ◌∷◌, ◌++◌, length, Bool, true, false, Option, Some, None}
use Rattle.std.specs.List.{AllByRecursion, concat, flat_map}
use Rattle.mimic_trial.specs.Count.{counts_of}
use Rattle.mimic_printer.specs.Row.{Label}
use Rattle.mimic_printer.specs.Json.{Entry, FitsEntry, FitsLabel, entry_lines, json_announcement, json_outcome, json_summary, json_title, outcomes_in}
pub use Rattle.mimic_printer.specs.Json.{HasNoEnd, IsLine}
use Rattle.mimic_events.specs.declared.progress.Stage.{Stage}
use Rattle.mimic_events.specs.declared.progress.Stage.TheVariants as stage
use Rattle.mimic_events.specs.declared.progress.Progress.{Progress}
use Rattle.mimic_events.specs.declared.progress.Taken.{Taken}
use Rattle.mimic_events.specs.declared.progress.Taken.TheVariants.{Astray, Read}
use Rattle.mimic_events.specs.declared.report.Row.{Row}
use Rattle.mimic_events.specs.declared.report.Totals.{Totals}
use Rattle.mimic_events.specs.Contents.{entry_read, label_read}
use Rattle.mimic_events.specs.Reading.{End, HasCounts, IsTitle, IsAnnouncement, IsOutcome, IsSummary}

-- ---- states between lines

-- which line comes next: the title; a row's announcement or the summary; the outcome of the trial that was announced; none,
-- since the summary has said how many trials were filtered out, and the nanoseconds
pub data Next : Type 0 where
  title_next : Next
  row_next : Next
  outcome_next : Label → Next
  nothing_next : ℕ → ℕ → Next

-- which line comes next, how many rows the title announced, and the rows that have ended
pub record State : Type 0 where
  pub next : Next
  pub announced : ℕ
  pub entries : List Entry

-- no line was read
abbrev pub start : State
start = record { next = title_next; announced = 0; entries = [] }

abbrev pub next_of : Stage → Next
next_of stage.Title = title_next
next_of stage.Row = row_next
next_of (stage.Outcome label) = outcome_next (label_read label)
next_of (stage.Over filtered_out nanos) = nothing_next filtered_out nanos

-- the state if these are the rows that have ended: none of them is kept
abbrev pub state_with : Progress → List Entry → State
state_with p entries = record { next = next_of p.stage; announced = p.announced; entries = entries }

-- how many rows the title announced, if it was read
abbrev pub announced_from : Next → ℕ → Option ℕ
announced_from title_next announced = None
announced_from row_next announced = Some announced
announced_from (outcome_next label) announced = Some announced
announced_from (nothing_next filtered_out nanos) announced = Some announced

-- the trial whose outcome comes next, if one does
abbrev pub running_from : Next → Option Label
running_from title_next = None
running_from row_next = None
running_from (outcome_next label) = Some label
running_from (nothing_next filtered_out nanos) = None

-- how many lines were read with `rows` rows: the title, two for each row, and an announcement or the summary
abbrev pub lines_from : Next → ℕ → ℕ
lines_from title_next rows = 0
lines_from row_next rows = 2 * rows + 1
lines_from (outcome_next label) rows = 2 * rows + 2
lines_from (nothing_next filtered_out nanos) rows = 2 * rows + 2

-- as many rows as these were counted, with their outcomes
abbrev pub IsCounted : Progress → List Entry → Type 0
IsCounted p entries = (p.done ≡ length entries) × HasCounts p.counts entries

-- ---- the text that was read

-- the title and the lines of the rows
abbrev pub title_and : State → List ℕ
title_and s = json_title s.announced ++ concat (flat_map entry_lines s.entries)

-- the text up to here, by which line comes next
abbrev pub text_so_far : Next → State → List ℕ
text_so_far title_next s = []
text_so_far row_next s = title_and s
text_so_far (outcome_next label) s = title_and s ++ json_announcement label
text_so_far (nothing_next filtered_out nanos) s =
    title_and s ++ json_summary (counts_of (outcomes_in s.entries) filtered_out) nanos

-- the lines that were read, one after another
abbrev pub state_text : State → List ℕ
state_text s = text_so_far s.next s

-- no more rows than the title announced, and a label of texts
abbrev pub FitsNext : Next → State → Type 0
FitsNext title_next s = s.entries ≡ []
FitsNext row_next s = length s.entries ≤ s.announced
FitsNext (outcome_next label) s = (length s.entries < s.announced) × FitsLabel label
FitsNext (nothing_next filtered_out nanos) s =
    (length s.entries ≡ s.announced) × (filtered_out < 2 ^ 64) × (nanos < 2 ^ 64)

-- names, kinds and messages are text, and numbers are below 2^64
pub record Fits (s : State) : Type 0 where
  pub announced : s.announced < 2 ^ 64
  pub entries : AllByRecursion FitsEntry s.entries
  pub next : FitsNext s.next s

-- ---- steps

-- not all rows have come, and the line announces one
abbrev pub Announces : State → List ℕ → State → Type 0
Announces old line new = (length old.entries < old.announced)
    × (label : Label) × IsAnnouncement label line × (new ≡ record old { next = outcome_next label })

-- all rows have come, and the line is their summary
abbrev pub Ends : State → List ℕ → State → Type 0
Ends old line new = (old.announced ≤ length old.entries)
    × (numbers : ℕ × ℕ) × IsSummary old.entries numbers line
    × (new ≡ record old { next = nothing_next numbers.0 numbers.1 })

-- where a line leads, by which line comes next
abbrev pub LeadsFrom : Next → State → List ℕ → State → Type 0
LeadsFrom title_next old line new = (count : ℕ) × IsTitle count line
    × (new ≡ record old { next = row_next; announced = count })
LeadsFrom row_next old line new = Announces old line new ⊎ Ends old line new
LeadsFrom (outcome_next label) old line new =
    (end : End) × IsOutcome label end line
    × (new ≡ record old { next = row_next; entries = old.entries ++ record { label = label; outcome = end.0; nanos = end.1 } ∷ [] })
LeadsFrom (nothing_next filtered_out nanos) old line new = ⊥

-- the line leads from one state to the other
abbrev pub Step : State → List ℕ → State → Type 0
Step old line new = LeadsFrom old.next old line new

-- the line leads to the new state and to no other; or it leads nowhere, and the state stays
abbrev pub Takes : Bool → State → List ℕ → State → Type 0
Takes true old line new = Step old line new × ((s : State) → Step old line s → s ≡ new)
Takes false old line new = (new ≡ old) × ((s : State) → Step old line s → ⊥)

-- the row that ended, if one did
abbrev pub row_list : Option Row → List Entry
row_list None = []
row_list (Some row) = entry_read row ∷ []

-- the line belonged there, and the new state comes after it; or it didn't, and the state stays
abbrev pub Moves : Progress → List Entry → List ℕ → Progress → Taken → Type 0
Moves old entries line new Astray = IsCounted new entries
    × Takes false (state_with old entries) line (state_with new entries)
Moves old entries line new (Read row) = IsCounted new (entries ++ row_list row)
    × Takes true (state_with old entries) line (state_with new (entries ++ row_list row))

-- the text begins with the two lines of a row, which both belonged there, and the row was counted; the rest follows
pub record CountsRow (old : Progress) (text : List ℕ) (new : Progress) (rest : List ℕ) : Type 0 where
  pub entry : Entry
  pub fits : FitsEntry entry
  pub parts : text ≡ json_announcement entry.label ++ (json_outcome entry.label entry.outcome entry.nanos ++ rest)
  pub counted : (entries : List Entry) → IsCounted old entries → IsCounted new (entries ++ entry ∷ [])
  pub announced : (entries : List Entry) → IsCounted old entries
      → Takes true (state_with old entries) (json_announcement entry.label) (record (state_with old entries) { next = outcome_next entry.label })
  pub ended : (entries : List Entry) → IsCounted old entries
      → Takes true (record (state_with old entries) { next = outcome_next entry.label }) (json_outcome entry.label entry.outcome entry.nanos) (state_with new (entries ++ entry ∷ []))

-- the lines lead from one state to the other
abbrev pub Runs : State → List (List ℕ) → State → Type 0
Runs s [] t = s ≡ t
Runs s (line ∷ lines) t = (next : State) × Step s line next × Runs next lines t

-- what the lines said, if the summary was the last of them; nothing if it wasn't
abbrev pub HasTotals : State → Option Totals → Type 0
HasTotals s None = (filtered_out nanos : ℕ) → s.next ≢ nothing_next filtered_out nanos
HasTotals s (Some t) = (s.next ≡ nothing_next t.counts.num_filtered_out t.nanos)
    × (t.rows ≡ length s.entries)
    × (t.counts ≡ counts_of (outcomes_in s.entries) t.counts.num_filtered_out)
