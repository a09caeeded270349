-- What is put as a report comes: at each moment what the rows show that have ended since the moment before, and maybe how far the run
-- is.
use Rattle.std.specs.Prelude.{◌≡◌, ◌⊎◌, ℕ, ◌-◌, Bool, true, if◌then◌else◌, List, [], ◌∷◌, ◌++◌, length, count_by, ⊤, Option, IfSome}
use Rattle.std.specs.List.{flat_map}
use Rattle.mimic_trial.specs.Count.{is_failed}
use Rattle.mimic_printer.specs.Json.{Entry, outcomes_in}
use Rattle.mimic_printer.specs.Row.{Label}
use Rattle.mimic_events.specs.Feed.{AreEnded}
use Rattle.mimic_events.specs.SoFar.{BeginsWithTitle, ShowsRunning}
use Rattle.mimic_watch.specs.declared.frame.Screen.{Screen}
use Rattle.mimic_watch.specs.declared.frame.View.{View}
use Rattle.mimic_watch.specs.Frames.{erase, first_line, frame, log_line, second_line}
use Rattle.mimic_watch.specs.Rows.{row_text}

-- one moment: whether what was drawn is erased, the rows that have ended since the moment before, and what is drawn
pub record Moment : Type 0 where
  pub erased : Bool
  pub ended : List Entry
  pub drawn : List ℕ

-- how many columns a log's line has for the second one, behind the first and two characters between them
abbrev pub room_after : ℕ → List ℕ → ℕ
room_after columns first = columns - length first - 2

-- on a terminal two lines, and else both in one
abbrev pub drawn_text : Screen → View → Option Label → ℕ → List ℕ
drawn_text screen view running quiet = let first = first_line screen.columns view in
    if screen.live then frame first (second_line screen.columns running quiet)
    else log_line first (second_line (room_after screen.columns first) running quiet)

-- a front of the text has exactly these rows, and shows that the trial was announced after them and has no outcome
pub record RunsAfter (entries : List Entry) (label : Label) (text : List ℕ) : Type 0 where
  pub bytes : List ℕ
  pub rest : List ℕ
  pub parts : text ≡ bytes ++ rest
  pub ended : AreEnded bytes entries
  pub shows : ShowsRunning label bytes

-- what is drawn says how many of these rows there are and how many failed; if it says how many there will be, the input's title
-- announces them. The second line names no trial, or the one that runs.
pub record IsDrawing (start : Option (List ℕ)) (screen : Screen) (entries : List Entry) (drawn : List ℕ) : Type 0 where
  pub view : View
  pub running : Option Label
  pub quiet : ℕ
  pub ended : view.ended ≡ length entries
  pub failed : view.failed ≡ count_by is_failed (outcomes_in entries)
  pub announced : IfSome view.announced (λ n. IfSome start (BeginsWithTitle n))
  pub runs : IfSome running (λ label. IfSome start (RunsAfter entries label))
  pub text : drawn ≡ drawn_text screen view running quiet

-- nothing is drawn, or how far the run is
abbrev pub IsDrawn : Option (List ℕ) → Screen → List Entry → List ℕ → Type 0
IsDrawn start screen entries drawn = (drawn ≡ []) ⊎ IsDrawing start screen entries drawn

-- a moment at which these rows have ended: only a terminal is erased, and what is drawn is of these rows
pub record IsMoment (start : Option (List ℕ)) (screen : Screen) (entries : List Entry) (m : Moment) : Type 0 where
  pub erased : m.erased ≡ true → screen.live ≡ true
  pub drawn : IsDrawn start screen entries m.drawn

-- moments after these rows have ended
abbrev pub AreMomentsAfter : Option (List ℕ) → Screen → List Entry → List Moment → Type 0
AreMomentsAfter start screen before [] = ⊤
AreMomentsAfter start screen before (m ∷ moments) = IsMoment start screen (before ++ m.ended) m × AreMomentsAfter start screen (before ++ m.ended) moments

-- what is put at a moment, with colours or without
abbrev pub moment_text : Bool → Moment → List ℕ
moment_text colours m = (if m.erased then erase else []) ++ (flat_map (row_text colours) m.ended ++ m.drawn)

-- what is put at these moments, and the rows that have ended up to the last one
abbrev pub moments_text : Bool → List Moment → List ℕ
moments_text colours moments = flat_map (moment_text colours) moments

abbrev pub ended_in : List Moment → List Entry
ended_in moments = flat_map (λ m. m.ended) moments
