use Rattle.std.proofs.Common.{arith, below_more}
use Rattle.libtest_mimic.proofs.select.begins_in_kind_part.Goals as goal

pub loop-start-preserved : goal.loop-start-preserved
loop-start-preserved c = below_more _ c.loop-start.start c.loop-start.invariant
    (λ s. let yes = c.stands_at.ensures.1 s in let no = rw c.if-stands_at.false at yes in cc)

pub returns : goal.returns
returns c = (
  (λ t. cc),
  (λ h. absurd (c.loop-start.invariant h.0 (omega (arith, h.1)) h.2)),
)
