use Rattle.mimic_events.proofs.row_lines.event_at.Goals as goal

pub returns-in-Some : goal.returns-in-Some
returns-in-Some c = (tt, c.in-Some.ensures)

pub returns-in-Some-after : goal.returns-in-Some-after
returns-in-Some-after c = (tt, c.in-Some-after.ensures)
