use Rattle.std.proofs.Common.{◌≡◌, ◌∙◌, false, rules, [], ◌++◌, ap, sym, append_assoc, append-nil}
use Rattle.mimic_events.specs.Progress.{HasNoEnd, state_text, state_with}
use Rattle.mimic_events.proofs.Readings.{more_left}
use Rattle.mimic_events.proofs.RowReaders.{all_read, reads_then, row_read}
use Rattle.mimic_events.proofs.row_reader.RowReader.next_row.Goals as goal
use Rattle.mimic_events.proofs.row_reader.RowReader.next_row.Goals.{in-Some+then-self, in_default}

pub returns-in-Some-2 : goal.returns-in-Some-2
returns-in-Some-2 c =
    row_read _ _ _ _ _ c.in-Some.end.now _ _ c.loop-end.invariant c.in-Some.ensures.0 c.in-Some.ensures.1 (rw c.in-Some-2.is at c.in_ok-row.ensures)

pub loop-end-preserved : goal.loop-end-preserved
loop-end-preserved c =
    reads_then _ _ _ _ _ c.in-Some.end.now _ [] [] c.loop-end.invariant c.in-Some.ensures.0 (rw c.in_default-2.is at c.in_ok-row.ensures)

pub returns : goal.returns
returns c =
    let whole : c.loop-end.self.stuck ≡ false → HasNoEnd c.loop-end.left.now = λ e. elim c.match-first_line.branch [
      | in-Some+then-self w ↦ absurd (search rules)
      | in_default w ↦ w.in_default.ensures
    ] in
    let items = c.in_ok-extend_from_slice.ensures.items in
    all_read _ c.loop-end.self _ _ _ [] [] c.loop-end.invariant (λ entries sound.
    let s = state_with c.loop-end.self.progress entries in
    let known = more_left s c.loop-end.self.rest.items c.loop-end.left.now c.loop-end.self.stuck sound.known whole in rw (append-nil entries) (
      record { counted = sound.counted; known = rw items known },
      ap (λ x. state_text s ++ x) items ∙ sym (append_assoc (state_text s) c.loop-end.self.rest.items c.loop-end.left.now),
    ))
