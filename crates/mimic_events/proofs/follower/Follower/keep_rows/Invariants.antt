use Rattle.std.proofs.Common.{◌≡◌, ◌++◌, true, length, map}
use Rattle.mimic_events.specs.Contents.{entry_read}
use Rattle.mimic_events.specs.Follower.{was_refused}
use Rattle.mimic_events.specs.Readers.{IsSound, bytes_of}
use Rattle.mimic_events.proofs.follower.Follower.keep_rows.Given as goal

-- what was read and what is left are all bytes
abbrev pub invariant-loop-row : goal.invariant-loop-row
invariant-loop-row l = record {
  failed : was_refused l.self ≡ true;
  read : IsSound l.fn.self.reader (map entry_read l.fn.rows.items) →
      IsSound l.self.reader (map entry_read l.rows.items)
      × (bytes_of l.self.reader (map entry_read l.rows.items) ++ l.left
      ≡ bytes_of l.fn.self.reader (map entry_read l.fn.rows.items) ++ l.fn.piece);
}

abbrev pub decreases-loop-row : goal.decreases-loop-row
decreases-loop-row l = length l.left
