-- What the bytes so far say about a report, besides the rows that have ended (our own).
use Rattle.std.specs.Prelude.{◌≡◌, ◌≢◌, ℕ, ◌+◌, ◌<◌, ◌^◌, List, ◌++◌, length}
use Rattle.std.specs.List.{AllByRecursion, concat}
use Rattle.mimic_trial.specs.Promise.{FitsTypes}
use Rattle.mimic_printer.specs.Row.{Label}
use Rattle.mimic_printer.specs.Json.{Contents, Entry, FitsLabel, FitsTime, IsLine, json_announcement, json_outcome, json_title}
use Rattle.mimic_events.specs.Contents.{Spells}
use Rattle.mimic_events.specs.Feed.{BeginsWith}
use Rattle.mimic_events.specs.Reading.{End}

-- the text begins with a title that announces `count` trials, whatever follows
pub record BeginsWithTitle (count : ℕ) (text : List ℕ) : Type 0 where
  pub rest : List ℕ
  pub number : count < 2 ^ 64
  pub parts : text ≡ json_title count ++ rest

-- the text begins with some rows, fewer than its title announces, and the announcement of this trial; no outcome of it follows
pub record ShowsRunning (label : Label) (text : List ℕ) : Type 0 where
  pub entries : List Entry
  pub begins : BeginsWith text entries
  pub fewer : length entries < begins.announced
  pub rest : List ℕ
  pub announced : begins.rest ≡ json_announcement label ++ rest
  pub label_fits : FitsLabel label
  pub unended : (end : End) (after : List ℕ) → FitsTypes end.0 → FitsTime end.1 → rest ≢ json_outcome label end.0 end.1 ++ after

-- some report, of fewer than 2^64 rows, begins with this text
pub record BeginsReport (text : List ℕ) : Type 0 where
  pub contents : Contents
  pub rest : List ℕ
  pub few : length contents.entries < 2 ^ 64
  pub spelled : Spells contents (text ++ rest)

-- the line of this number, from 1, has ended in the text: some report begins with the lines before it, and none with these and it
pub record IsFirstWrong (number : ℕ) (text : List ℕ) : Type 0 where
  pub lines : List (List ℕ)
  pub line : List ℕ
  pub rest : List ℕ
  pub parts : text ≡ concat lines ++ (line ++ rest)
  pub each : AllByRecursion IsLine lines
  pub whole : IsLine line
  pub place : number ≡ length lines + 1
  pub begun : BeginsReport (concat lines)
  pub wrong : BeginsReport (concat lines ++ line) → ⊥
