use Rattle.std.proofs.Common.{Some, arith}
use Rattle.mimic_events.proofs.Fronts.{follows_last}
use Rattle.mimic_events.proofs.lines.after_all.Goals as goal

pub returns : goal.returns
returns c = c.loop-front.invariant (Some c.loop-front.rest) (follows_last c.args.fronts.now c.loop-front.front-index c.loop-front.rest (omega (arith, c.loop-front-test.false)))
