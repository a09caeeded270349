use Rattle.mimic_events.proofs.ReadBytes.{read_more}
use Rattle.mimic_events.proofs.readreport.tallied.Goals as goal

pub loop-preserved : goal.loop-preserved
loop-preserved g c =
    let before = c.loop.invariant in
    (_, c.in_ok-tally-in-Ok.ensures before.0 before.1, read_more _ _ _ _ _ before.2 c.in-Ok.ensures.piece.gone)
