use Rattle.std.proofs.Common.{◌≡◌, [], ◌∷◌, false, rules, true}
use Rattle.mimic_events.specs.Progress.{state_with}
use Rattle.mimic_events.proofs.Forgetting.{forgets_front, forgets_lines}
use Rattle.mimic_events.proofs.row_reader.RowReader.forget.Goals as goal

pub returns-in_ok-push : goal.returns-in_ok-push
returns-in_ok-push c = λ entries sound.
    let stuck : c.args.self.now.stuck ≡ true = search rules in
    let items : c.push.new.self.items ≡ 10 ∷ [] = search rules in
    let h = forgets_lines (state_with c.args.self.now.progress entries) c.args.self.now.rest.items (rw stuck at sound.known) in
    (record { counted = sound.counted; known = rw (items, stuck) h.0 }, rw items h.1)

pub returns-in_ok-push-2 : goal.returns-in_ok-push-2
returns-in_ok-push-2 c = λ entries sound.
    let taken : c.args.self.now.stuck ≡ false = search rules in
    let items : c.push-then-begins_no_line.new.self.items ≡ 45 ∷ [] = search rules in
    let never = rw c.deref.ensures.value at c.begins_no_line.ensures c.if-begins_no_line.true in
    let h = forgets_front (state_with c.args.self.now.progress entries) c.args.self.now.rest.items (rw taken at sound.known) never in
    (record { counted = sound.counted; known = rw (items, taken) h.0 }, rw items h.1)
