use Rattle.std.proofs.Common.{rules, ◌≡◌, ◌++◌, [], sym, ap, append-nil, ◌∙◌, List, ℕ}
use Rattle.std.proofs.lemmas.List.{nil_from_length}
use Rattle.mimic_events.specs.Progress.{row_list, state_with}
use Rattle.mimic_events.proofs.Readings.{refused, taken}
use Rattle.mimic_events.proofs.row_reader.RowReader.end_line.Goals as goal

pub returns-in-Read : goal.returns-in-Read
returns-in-Read c = λ entries sound.
    let none : c.args.self.now.rest.items ≡ [] = nil_from_length c.args.self.now.rest.items (search rules) in
    let moves = (rw c.in-Read.is at c.in_ok-row.ensures) entries sound.counted in
    let h = taken (state_with c.args.self.now.progress entries) (state_with c.take_line.new.self (entries ++ row_list c.in-Read.row)) c.args.self.now.rest.items c.args.end.now c.args.end.now c.args.self.now.rest.items
    (rw c.requires.open at sound.known) c.requires.line (ap (λ (x : List ℕ). x ++ c.args.end.now) (sym none)) moves.1.0 moves.1.1 none in
    (record { counted = moves.0; known = rw c.requires.open h.1 }, h.0)

pub returns-in-Read-2 : goal.returns-in-Read-2
returns-in-Read-2 c = λ entries sound.
    let line : c.deref.result.now ≡ c.args.self.now.rest.items ++ c.args.end.now = c.deref.ensures.value ∙ c.in_ok-extend_from_slice.ensures.items in
    let moves = (rw c.in-Read-2.is at c.in_ok-row-2.ensures) entries sound.counted in
    let h = taken (state_with c.args.self.now.progress entries) (state_with c.take_line-2.new.self (entries ++ row_list c.in-Read-2.row)) c.args.self.now.rest.items c.args.end.now c.deref.result.now c.clear.new.self.items
    (rw c.requires.open at sound.known) c.requires.line line moves.1.0 moves.1.1 c.clear.ensures.items in
    (record { counted = moves.0; known = rw c.requires.open h.1 }, h.0)

pub returns-in-Astray-2 : goal.returns-in-Astray-2
returns-in-Astray-2 c = λ entries sound.
    let line : c.deref.result.now ≡ c.args.self.now.rest.items ++ c.args.end.now = c.deref.ensures.value ∙ c.in_ok-extend_from_slice.ensures.items in
    let stays = (rw c.in-Astray-2.is at c.in_ok-row-2.ensures) entries sound.counted in
    let h = refused (state_with c.args.self.now.progress entries) (state_with c.take_line-2.new.self entries) c.args.self.now.rest.items c.args.end.now c.deref.result.now c.extend_from_slice-2.new.self.items
    (rw c.requires.open at sound.known) c.requires.line line stays.1.0 stays.1.1 c.in_ok-extend_from_slice.ensures.items in
    rw (append-nil entries) (record { counted = stays.0; known = h.1 }, h.0)
