use Rattle.std.proofs.Common.{◌∙◌, ap, arith, length, sym}
use Rattle.mimic_pool.proofs.Numbering.{free_first, taken_passed}
use Rattle.mimic_pool.proofs.desk.MissingIterator.next.Goals as goal

pub loop-self-preserved : goal.loop-self-preserved
loop-self-preserved c =
    let left = c.loop-self.self in
    sym (taken_passed left.numbers.now left.next c.loop-self-test.true c.if-self-place-eq0.false) ∙ c.loop-self.invariant

pub returns-then-self-place-eq0-clause-steps : goal.returns-then-self-place-eq0-clause-steps
returns-then-self-place-eq0-clause-steps c =
    let left = c.loop-self.self in
    sym c.loop-self.invariant ∙ free_first left.numbers.now left.next c.loop-self-test.true c.if-self-place-eq0.true

pub returns-then-self-place-eq0-clause-goes : goal.returns-then-self-place-eq0-clause-goes
returns-then-self-place-eq0-clause-goes c =
    let fewer = ap length (returns-then-self-place-eq0-clause-steps c) in
    record { on = λ finite. (tt, finite, omega (arith, fewer)); keeps = tt; rests = λ finite. tt }
