-- What is known of the number of rows, by which line comes next. No public clause names these words.
use Rattle.std.specs.Prelude.{ℕ}
use Rattle.mimic_events.specs.declared.progress.Stage.{Stage}
use Rattle.mimic_events.specs.declared.progress.Stage.TheVariants as stage

-- how many have begun and not ended: one if its outcome comes next
abbrev pub begun : Stage → ℕ
begun (stage.Outcome name) = 1
begun other = 0

-- how many there may be at most: none before the title, and then as many as that announced
abbrev pub most : Stage → ℕ → ℕ
most stage.Title announced = 0
most other announced = announced
