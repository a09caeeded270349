use Rattle.std.proofs.Common.{[], ◌∙◌, ap, subst, sym}
use Rattle.std.specs.Prelude.{Some}
use Rattle.mimic_pool.specs.Queue.{GoesOn}
use Rattle.mimic_pool.proofs.Sources.{handed, may_take_rest}
use Rattle.mimic_pool.proofs.queue_source.QueueSourceSource.next.Goals as goal

pub returns-in-Some-clause-ready : goal.returns-in-Some-clause-ready
returns-in-Some-clause-ready g c =
    may_take_rest g.T.Task.can_run (Some c.in-Some.item) c.args.self.now c.next.new.self _ c.requires.ready c.in-Some.ensures

pub returns-clause-next : goal.returns-clause-next
returns-clause-next g c =
    let none = c.in_default.ensures in
    let same = ap (λ l. record c.args.self.now { left = l }) (none.1 ∙ sym none.0) in
    let went_on = subst (λ source. GoesOn source [] c.take.new.self) same c.take.ensures.goes_on in
    handed g.T.Task.can_run c.next-2.result c.args.self.now c.take.new.self _ went_on c.next-2.ensures c.in_ok-take.ensures.ready.runnable

pub returns-clause-ready : goal.returns-clause-ready
returns-clause-ready g c = may_take_rest g.T.Task.can_run c.next-2.result c.take.new.self _ _ c.in_ok-take.ensures.ready c.next-2.ensures
