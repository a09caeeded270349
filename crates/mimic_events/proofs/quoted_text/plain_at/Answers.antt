use Rattle.std.proofs.Common.{arith, length-drop, take_all}
use Rattle.mimic_events.proofs.PlainLanes.{plain_rest}
use Rattle.mimic_events.proofs.quoted_text.plain_at.Goals as goal

pub returns-clause-plain : goal.returns-clause-plain
returns-clause-plain c = rw c.split_at-2.ensures.front
    (plain_rest c.args.text.now c.loop-len.len c.unwrap_or.result c.next_escape.result _ (take_all _ _ (omega (arith, length-drop c.loop-len.len c.args.text.now))) c.unwrap_or.ensures c.loop-len.invariant.1 c.next_escape.ensures)
