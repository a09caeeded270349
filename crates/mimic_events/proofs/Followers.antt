-- Pieces that a follower was fed one after another.
use Rattle.std.proofs.Common.{◌≡◌, ◌∙◌, ℕ, false, List, [], ◌∷◌, ◌++◌, Option, None, Some, MatchOption, Bor, ap, sym, subst}
use Rattle.mimic_printer.specs.Json.{Entry}
use Rattle.mimic_events.specs.declared.follower.Follower.{Follower}
use Rattle.mimic_events.specs.declared.report.Row.{Row}
use Rattle.mimic_events.specs.Contents.{entry_read}
use Rattle.mimic_events.specs.Feed.{AreEnded}
use Rattle.mimic_events.specs.Follower.{FollowsOn, FollowsRow, HasFollowed, was_refused}
use Rattle.mimic_events.specs.Progress.{state_with}
use Rattle.mimic_events.specs.Readers.{IsSound, ReadsOn, ReadsRow, bytes_of}
use Rattle.mimic_events.proofs.Readings.{rows_ended}

-- what a reader has read was followed
pub followed : (f : Follower) (bytes : List ℕ) (rows : List Entry) → was_refused f ≡ false → IsSound f.reader rows → bytes ≡ bytes_of f.reader rows → HasFollowed f bytes rows
followed f bytes rows taken sound all = record {
  taken = taken;
  sound = sound;
  all = all;
  ended =
      let known = sound.known in
      subst (λ (x : List ℕ). AreEnded x rows) (sym all) (rows_ended (state_with f.reader.progress rows) f.reader.rest.items f.reader.stuck known);
}

follows : (old new : Follower) (bytes : List ℕ) (ended : List Entry) → was_refused new ≡ false → ReadsOn old.reader bytes new.reader ended → FollowsOn old bytes new ended
follows old new bytes ended taken read = λ before rows h.
    let on = read rows h.sound in
    followed new (before ++ bytes) (rows ++ ended) taken on.0 (ap (λ (x : List ℕ). x ++ bytes) h.all ∙ sym on.1)

-- what a reader found in a piece
pub follows_found : (old new : Follower) (piece : List ℕ) (found : Option (Row × Bor (List ℕ))) → was_refused new ≡ false
    → MatchOption found (ReadsOn old.reader piece new.reader []) (λ x. ReadsRow old.reader piece new.reader x.0 x.1.now)
    → MatchOption found (FollowsOn old piece new []) (λ x. FollowsRow old piece new x.0 x.1.now)
follows_found old new piece None taken read = follows old new piece [] taken read
follows_found old new piece (Some x) taken read = record {
  front = read.read.front;
  parts = read.read.parts;
  shorter = read.shorter;
  followed = follows old new read.read.front (entry_read x.0 ∷ []) taken read.read.read;
}
