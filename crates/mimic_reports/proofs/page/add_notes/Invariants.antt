-- The notes so far were added.
use Rattle.std.specs.Prelude.{string_bytes, take}
use Rattle.std.specs.List.{flat_map}
use Rattle.mimic_printer.specs.Sink.{Adds}
use Rattle.mimic_reports.specs.Page.{note_text}
use Rattle.mimic_reports.proofs.page.add_notes.Given as goal

abbrev pub invariant-loop-note : goal.invariant-loop-note
invariant-loop-note g l = Adds g.W.Write.contents l.initial.sink l.sink (flat_map (λ note. note_text (string_bytes note)) (take l.note-index l.notes))
