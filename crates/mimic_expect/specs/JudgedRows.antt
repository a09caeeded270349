-- Rows that are judged one by one. No public clause names these words.
use Rattle.std.specs.Prelude.{◌≡◌, ◌||◌, ℕ, Bool, List, ◌++◌, filter, map, length}
use Rattle.mimic_trial.specs.Count.{is_failed}
use Rattle.mimic_printer.specs.Json.{Entry}
use Rattle.mimic_printer.specs.Row.{Label}
use Rattle.mimic_printer.specs.Sink.{Put, Shown}
use Rattle.mimic_events.specs.Key.{label_in}
use Rattle.mimic_expect.specs.Expect.{is_known, known_rows, unknown_failures}
use Rattle.mimic_expect.specs.FindingText.{unknown_text}
use Rattle.mimic_expect.specs.Known.{Expected}
use Rattle.mimic_expect.specs.declared.known.Expectation.{Expectation}
use Rattle.mimic_expect.specs.declared.options.Lines.{Lines}

-- the known failures, and the rows that were kept
pub record Judged : Type 0 where
  pub known : List Expected
  pub rows : List Entry

-- the kinds and names of the known failures
abbrev pub labels_known : List Expectation → List Label
labels_known known = map (λ expectation. label_in expectation.row) known

-- the rows were judged: those whose kind and name some known failure has are kept, and the `count` failures among the others
-- have lines
pub record Judges (lines : Lines) (old new : Judged) (rows : List Entry) (count : ℕ) (before after : Shown) : Type 0 where
  pub known : new.known ≡ old.known
  pub kept : new.rows ≡ old.rows ++ known_rows old.known rows
  pub counted : count ≡ length (unknown_failures old.known rows)
  pub put : Put before after (unknown_text lines old.known rows)

-- the row can change what is found: it failed, or some known failure has its kind and name
abbrev pub matters : List Expected → Entry → Bool
matters known row = is_known known row || is_failed row.outcome

-- of these rows those that matter are kept
pub record Keeps (old new : Judged) (rows : List Entry) : Type 0 where
  pub known : new.known ≡ old.known
  pub kept : new.rows ≡ old.rows ++ filter (matters old.known) rows
