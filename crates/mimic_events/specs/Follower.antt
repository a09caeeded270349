-- What a follower has read of a report, and the rows that it has returned (our own).
use Rattle.std.specs.Prelude.{◌≡◌, ◌<◌, ℕ, Bool, false, List, [], ◌∷◌, ◌++◌, length, map}
use Rattle.mimic_printer.specs.Json.{Entry}
use Rattle.mimic_events.specs.declared.follower.Follower.{Follower}
use Rattle.mimic_events.specs.declared.report.Row.{Row}
use Rattle.mimic_events.specs.Contents.{entry_read}
use Rattle.mimic_events.specs.Feed.{AreEnded}
use Rattle.mimic_events.specs.Readers.{IsSound, bytes_of}

-- whether a piece was refused
abbrev pub was_refused : Follower → Bool
was_refused follower = follower.failed

-- the follower was fed these bytes, and no piece was refused; it has returned these rows, which are those that have ended
pub record HasFollowed (follower : Follower) (bytes : List ℕ) (rows : List Entry) : Type 0 where
  pub taken : was_refused follower ≡ false
  pub sound : IsSound follower.reader rows
  pub all : bytes ≡ bytes_of follower.reader rows
  pub ended : AreEnded bytes rows

-- whatever was followed, these bytes follow it, and end these rows
abbrev pub FollowsOn : Follower → List ℕ → Follower → List Entry → Type 0
FollowsOn old bytes new ended = (before : List ℕ) (rows : List Entry) → HasFollowed old before rows
    → HasFollowed new (before ++ bytes) (rows ++ ended)

-- a front of the piece was followed, which ends this row; the rest of the piece is left
pub record FollowsRow (old : Follower) (piece : List ℕ) (new : Follower) (row : Row) (left : List ℕ) : Type 0 where
  pub front : List ℕ
  pub parts : piece ≡ front ++ left
  pub shorter : length left < length piece
  pub followed : FollowsOn old front new (entry_read row ∷ [])

-- all bytes that it was fed, if these are the rows that it has returned
abbrev pub bytes_with : Follower → List Row → List ℕ
bytes_with follower rows = bytes_of follower.reader (map entry_read rows)

-- unless a piece was refused, these are the rows that it has returned
abbrev pub HasHandedOut : Follower → List Row → Type 0
HasHandedOut follower rows = was_refused follower ≡ false
    → HasFollowed follower (bytes_with follower rows) (map entry_read rows)
