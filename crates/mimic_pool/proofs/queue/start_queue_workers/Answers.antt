use Rattle.std.proofs.Common.{◌≡◌, ◌∙◌, ◌+◌, ℕ, All, ap, arith, rules, subst, sym, vec_len}
use Rattle.std.specs.Arc.{arc_value}
use Rattle.std.specs.List.{flat_map}
use Rattle.std.specs.Vec.Iter.{into_iter_items, into_iter_len}
use Rattle.std.proofs.lemmas.List.{nil_from_length}
use Rattle.mimic_pool.specs.Queue.{HasAnswers, HasTaken, IsFresh, IsJob}
use Rattle.mimic_pool.proofs.Elements.{first_of, rest_of, with_one}
use Rattle.mimic_pool.proofs.Emptying.{takes_none}
use Rattle.mimic_pool.proofs.queue.start_queue_workers.Goals as goal

pub loop-worker-init : goal.loop-worker-init
loop-worker-init g c =
    let ended = c.args.ready.ended in
    record {
      answered = λ trials ready.
          let none = nil_from_length ended.joined.items (sym ended.joined.ok.0 ∙ ready.none_joined) in
          let out : vec_len c.args.ready.workers ≡ vec_len c.args.ready.handles + into_iter_len c.into_iter-worker-iterator.result = omega (arith, ready.no_handles, c.into_iter-worker-iterator.ensures.into_iter_gives.1) in
          subst (λ (n : ℕ). HasAnswers g.T.Task.gives c.args.test_mode ended n trials) out (record {
            awaits = ready.awaits;
            answered = takes_none g.T.Task.gives c.args.test_mode _ _ ready.none_taken (ap (flat_map (λ rows. rows.items)) none);
          });
      jobs = search rules;
      left = search rules;
      fits = search rules;
      no_more = omega (arith, c.args.ready.workers.ok.0, c.into_iter-worker-iterator.ensures.into_iter_gives.1);
    }

pub start_queue_worker-requires-clause-fresh : goal.start_queue_worker-requires-clause-fresh
start_queue_worker-requires-clause-fresh g c κs within =
    let same : (arc_value c.loop-worker.ended.queue).queue ≡ c.deref.result.now.queue = search rules in
    subst (λ q. IsFresh q c.in-Some.worker) same (first_of (IsFresh (arc_value c.loop-worker.ended.queue).queue) c.in-Some.worker (into_iter_items c.next.new.self) (into_iter_items c.loop-worker.worker-iterator) c.in-Some.ensures.steps.0 c.loop-worker.invariant.left)

pub loop-worker-preserved-in-Ok : goal.loop-worker-preserved-in-Ok
loop-worker-preserved-in-Ok g c =
    let was = c.loop-worker.invariant in
    let q = (arc_value c.loop-worker.ended.queue).queue in
    let next = c.in-Some.ensures.steps in
    let pushed = c.push_reserved.ensures in
    let same : c.deref.result.now.queue ≡ q = search rules in
    let out : vec_len c.loop-worker.handles + into_iter_len c.loop-worker.worker-iterator ≡ vec_len c.push_reserved.new.self + into_iter_len c.next.new.self = omega (arith, pushed.len, next.1) in
    record {
      answered = λ trials ready. subst (λ (n : ℕ). HasAnswers g.T.Task.gives c.args.test_mode c.loop-worker.ended n trials) out (was.answered trials ready);
      jobs = with_one (IsJob q c.args.test_mode) c.in-Ok.handle c.loop-worker.handles.items c.push_reserved.new.self.items pushed.items was.jobs (subst (λ q. IsJob q c.args.test_mode c.in-Ok.handle) same c.in-Ok.ensures.started);
      left = rest_of (IsFresh q) c.in-Some.worker (into_iter_items c.next.new.self) (into_iter_items c.loop-worker.worker-iterator) next.0 was.left;
      fits = omega (arith, was.fits, pushed.len, pushed.capacity, next.1);
      no_more = omega (arith, was.no_more, pushed.len, next.1);
    }

pub absorb-requires : goal.absorb-requires
absorb-requires g c =
    let ready = c.requires.ready in
    let next = c.in-Some.ensures.steps in
    let same : c.deref.result.now.queue ≡ (arc_value c.loop-worker.ended.queue).queue = search rules in
    let worked = subst (λ q. HasTaken g.T.Task.gives c.args.test_mode q c.in-Err.worker) same c.in-Err.ensures.ended in
    let out : vec_len c.loop-worker.handles + into_iter_len c.loop-worker.worker-iterator ≡ vec_len c.loop-worker.handles + into_iter_len c.next.new.self + 1 = omega (arith, next.1) in
    let before = subst (λ (n : ℕ). HasAnswers g.T.Task.gives c.args.test_mode c.loop-worker.ended n ready.0) out (c.loop-worker.invariant.answered ready.0 ready.1) in
    record { answered = (c.args.test_mode, vec_len c.loop-worker.handles + into_iter_len c.next.new.self, ready.0, before, worked) }

pub loop-worker-preserved : goal.loop-worker-preserved
loop-worker-preserved g c =
    let was = c.loop-worker.invariant in
    let next = c.in-Some.ensures.steps in
    let same : c.deref.result.now.queue ≡ (arc_value c.loop-worker.ended.queue).queue = search rules in
    let worked = subst (λ q. HasTaken g.T.Task.gives c.args.test_mode q c.in-Err.worker) same c.in-Err.ensures.ended in
    let out : vec_len c.loop-worker.handles + into_iter_len c.loop-worker.worker-iterator ≡ vec_len c.loop-worker.handles + into_iter_len c.next.new.self + 1 = omega (arith, next.1) in
    let rest = into_iter_items c.next.new.self in
    record {
      answered = λ trials ready. c.absorb.ensures.answered c.args.test_mode (vec_len c.loop-worker.handles + into_iter_len c.next.new.self) trials (subst (λ (n : ℕ). HasAnswers g.T.Task.gives c.args.test_mode c.loop-worker.ended n trials) out (was.answered trials ready)) worked;
      jobs = subst (λ q. All (IsJob q c.args.test_mode) c.loop-worker.handles.items) (sym c.absorb.ensures.queue) was.jobs;
      left = subst (λ q. All (IsFresh q) rest) (sym c.absorb.ensures.queue) (rest_of (IsFresh (arc_value c.loop-worker.ended.queue).queue) c.in-Some.worker rest (into_iter_items c.loop-worker.worker-iterator) next.0 was.left);
      fits = omega (arith, was.fits, next.1);
      no_more = omega (arith, was.no_more, next.1);
    }
