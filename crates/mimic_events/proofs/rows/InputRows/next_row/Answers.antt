use Rattle.std.proofs.Common.{◌∙◌, IfErr, sym}
use Rattle.mimic_events.specs.RowByRow.{ReadsOn}
use Rattle.mimic_events.proofs.Results.{at_fault}
use Rattle.mimic_events.proofs.RowSteps.{at_wrong, reads_on}
use Rattle.mimic_events.proofs.rows.InputRows.next_row.Goals as goal

pub returns-in-Some-clause-rows : goal.returns-in-Some-clause-rows
returns-in-Some-clause-rows g c = λ start entries h.
    rw c.in-Some.is at c.in_ok-row.ensures.rows start entries (c.loop.invariant.come start entries h)

pub returns-then-is_some-clause-rows : goal.returns-then-is_some-clause-rows
returns-then-is_some-clause-rows g c = λ start entries h.
    let none = rw c.in_default.is at c.in_ok-row.ensures.rows start entries (c.loop.invariant.come start entries h) in
    at_wrong g.I.Read.remaining start _ entries c.first_wrong_line.result (sym c.is_some.ensures ∙ c.if-is_some.true) c.first_wrong_line.ensures.found none.0 none.1

pub returns-then-not-branch-clause-rows : goal.returns-then-not-branch-clause-rows
returns-then-not-branch-clause-rows g c = λ start entries h.
    let none = rw c.in_default.is at c.in_ok-row.ensures.rows start entries (c.loop.invariant.come start entries h) in
    (c.in_ok-fill.ensures.rows start entries none.0 none.1).1 c.if-not-branch.true

pub returns-in_err-fill-clause-fault : goal.returns-in_err-fill-clause-fault
returns-in_err-fill-clause-fault g c =
    let fault = c.in_err-fill.field-0.0 in
    at_fault (λ r. IfErr r (ReadsOn g.I.Read.remaining c.args.self.now c.fill.new.self)) _ fault c.from_residual-in_err-fill.ensures.1
    (reads_on g.I.Read.remaining _ c.follow.new.self _ fault
    (λ start entries h. (rw c.in_default.is at c.in_ok-row.ensures.rows start entries (c.loop.invariant.come start entries h)).0)
    (c.in_err-fill.ensures.fault (c.in_ok-row.ensures.all c.in_default.is)))

pub loop-preserved : goal.loop-preserved
loop-preserved g c = record {
  ready = c.in_ok-fill.ensures.ready;
  come = λ start entries h.
      let none = rw c.in_default.is at c.in_ok-row.ensures.rows start entries (c.loop.invariant.come start entries h) in
      (c.in_ok-fill.ensures.rows start entries none.0 none.1).0;
}
