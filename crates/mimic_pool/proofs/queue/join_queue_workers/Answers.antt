use Rattle.std.proofs.Common.{ℕ, All, map, rules, subst, sym}
use Rattle.std.specs.Arc.{arc_value}
use Rattle.std.specs.Vec.Iter.{into_iter_items, into_iter_len}
use Rattle.mimic_pool.specs.Prelude.{AreJoined, HasAnswers, IsJob, rows_in}
use Rattle.mimic_pool.proofs.Elements.{first_of, rest_of}
use Rattle.mimic_pool.proofs.Sources.{job_done}
use Rattle.mimic_pool.proofs.queue.join_queue_workers.Goals as goal

pub loop-handle-init : goal.loop-handle-init
loop-handle-init g c = record {
  answered = λ mode trials runs. subst (λ (n : ℕ). HasAnswers g.T.Task.gives c.args.workers.test_mode c.args.workers.ended n trials) (search rules) runs.answered;
  jobs = search rules;
}

pub absorb-requires : goal.absorb-requires
absorb-requires g c =
    let runs = c.requires.running in
    let was = c.loop-handle.invariant in
    let next = c.in-Some.ensures.steps in
    let rest = c.next.new.self in
    let job = first_of (IsJob (arc_value c.loop-handle.ended.queue).queue c.args.workers.test_mode) c.in-Some.handle (into_iter_items rest) (into_iter_items c.loop-handle.handle-iterator) next.0 was.jobs in
    let worked = job_done g.T.Task.gives (arc_value c.loop-handle.ended.queue).queue c.args.workers.test_mode c.in-Some.handle c.join.result job c.join.ensures in
    let before = subst (λ (n : ℕ). HasAnswers g.T.Task.gives c.args.workers.test_mode c.loop-handle.ended n runs.1) (sym next.1) (was.answered runs.0 runs.1 runs.2) in
    record { answered = (c.args.workers.test_mode, into_iter_len rest, runs.1, before, worked) }

pub loop-handle-preserved : goal.loop-handle-preserved
loop-handle-preserved g c =
    let was = c.loop-handle.invariant in
    let next = c.in-Some.ensures.steps in
    let mode = c.args.workers.test_mode in
    let rest = c.next.new.self in
    let IsMine = IsJob (arc_value c.loop-handle.ended.queue).queue mode in
    let job = first_of IsMine c.in-Some.handle (into_iter_items rest) (into_iter_items c.loop-handle.handle-iterator) next.0 was.jobs in
    let worked = job_done g.T.Task.gives (arc_value c.loop-handle.ended.queue).queue mode c.in-Some.handle c.join.result job c.join.ensures in
    record {
      answered = λ mode trials runs. c.absorb.ensures.answered c.args.workers.test_mode (into_iter_len rest) trials (subst (λ (n : ℕ). HasAnswers g.T.Task.gives c.args.workers.test_mode c.loop-handle.ended n trials) (sym next.1) (was.answered mode trials runs)) worked;
      jobs = subst (λ q. All (IsJob q c.args.workers.test_mode) (into_iter_items rest)) (sym c.absorb.ensures.queue) (rest_of IsMine c.in-Some.handle (into_iter_items rest) (into_iter_items c.loop-handle.handle-iterator) next.0 was.jobs);
    }

pub take_left-requires : goal.take_left-requires
take_left-requires g c =
    let runs = c.requires.running in
    record { answered = (runs.1, subst (λ (n : ℕ). HasAnswers g.T.Task.gives c.args.workers.test_mode c.loop-handle.ended n runs.1) c.in-None.ensures.steps.0 (c.loop-handle.invariant.answered runs.0 runs.1 runs.2)) }

pub returns : goal.returns
returns g c = record {
  joined = λ mode trials runs.
      let last = subst (λ (n : ℕ). HasAnswers g.T.Task.gives c.args.workers.test_mode c.loop-handle.ended n trials) c.in-None.ensures.steps.0 (c.loop-handle.invariant.answered mode trials runs) in
      subst (λ mode. AreJoined g.T.Task.gives mode trials c.args.whole (map rows_in c.take_left.result.items)) runs.mode_is (c.take_left.ensures.joined trials last);
}
