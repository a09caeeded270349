use Rattle.std.specs.Prelude.{string_bytes}
use Rattle.mimic_printer.proofs.Adding.{adds_next}
use Rattle.mimic_reports.specs.Page.{note_text}
use Rattle.mimic_reports.proofs.page.add_notes.Goals as goal

pub loop-note-preserved : goal.loop-note-preserved
loop-note-preserved g c =
    let note = rw (c.as_str.ensures.value, c.note-item.is) at c.add_note.ensures in
    adds_next (λ note. note_text (string_bytes note)) c.args.notes.now c.loop-note.note-index c.note-item.result c.loop-note-test.true c.loop-note.invariant note
