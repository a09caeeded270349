use Rattle.std.proofs.Common.{refl}
use Rattle.mimic_events.proofs.RowSteps.{none_came, row_came}
use Rattle.mimic_events.proofs.rows.InputRows.follow.Goals as goal

pub returns-in-Some-clause-rows : goal.returns-in-Some-clause-rows
returns-in-Some-clause-rows g c = λ start entries h.
    row_came g.I.Read.remaining start c.args.self.now _ c.deref.result.now c.in-Some.left.now entries c.in-Some.row c.requires
    c.deref.ensures.value (rw c.in-Some.is at c.in_ok-row.ensures.followed) refl refl refl refl h

pub returns-in-None-clause-rows : goal.returns-in-None-clause-rows
returns-in-None-clause-rows g c = λ start entries h.
    none_came g.I.Read.remaining start c.args.self.now _ c.deref.result.now entries c.deref.ensures.value
    (rw c.in-None.is at c.in_ok-row.ensures.followed) refl refl h
