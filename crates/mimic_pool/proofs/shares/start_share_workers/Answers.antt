use Rattle.std.proofs.Common.{◌≡◌, ◌∙◌, ◌++◌, ap₂, append-nil, append_assoc, arith, map, sym}
use Rattle.std.proofs.lemmas.List.{map-append, nil_from_length}
use Rattle.std.specs.Vec.Iter.{into_iter_items}
use Rattle.std.proofs.lemmas.List.Elements.{All-head, All-tail}
use Rattle.mimic_pool.specs.Prelude.{AllRunners, items_of, job_of, jobs_of, shares_of}
use Rattle.mimic_pool.proofs.Sharing.{runnable_shares}
use Rattle.mimic_pool.proofs.shares.start_share_workers.Goals as goal

pub loop-worker-init : goal.loop-worker-init
loop-worker-init g c =
    let ready = c.args.ready in
    let gives = c.into_iter-worker-iterator.ensures.into_iter_gives in
    let none = nil_from_length ready.handles.items (sym ready.handles.ok.0 ∙ ready.no_handles) in
    record {
      jobs = ap₂ (λ handles workers. map job_of handles ++ jobs_of c.args.test_mode (shares_of workers)) none gives.0;
      fits = omega (arith, ready.fits, ready.no_handles, gives.1);
      fits_joined = omega (arith, ready.fits_joined, ready.no_handles, gives.1);
      each = omega (arith, ready.no_handles, gives.1);
      runnable = rw gives.0 (runnable_shares g.T.Task.can_run _ c.requires.ready.0 c.requires.ready.1);
    }

pub loop-worker-preserved : goal.loop-worker-preserved
loop-worker-preserved g c =
    let was = c.loop-worker.invariant in
    let next = c.in-Some.ensures.steps in
    let runnable = rw next.0 at was.runnable in
    let jobs = rw next.0 at was.jobs in
    let pushed = c.push_reserved.ensures in
    let job : job_of c.in-Some-start_share_worker.handle ≡ (c.args.test_mode, items_of c.in-Some.worker.share) =
    ap₂ (λ mode share. (mode, items_of share)) c.in-Some-start_share_worker.ensures.mode c.in-Some-start_share_worker.ensures.share in
    record {
      jobs = rw (pushed.items, map-append, append_assoc, job) jobs;
      fits = omega (arith, was.fits, pushed.len, next.1, pushed.capacity);
      fits_joined = omega (arith, was.fits_joined, pushed.len, next.1);
      each = omega (arith, was.each, pushed.len, next.1);
      runnable = All-tail (λ share. AllRunners g.T.Task.can_run share) _ _ runnable;
    }

pub start_share_worker-requires-clause-runnable : goal.start_share_worker-requires-clause-runnable
start_share_worker-requires-clause-runnable g c κs within =
    let runnable = rw c.in-Some.ensures.steps.0 at c.loop-worker.invariant.runnable in
    All-head (λ share. AllRunners g.T.Task.can_run share) c.in-Some.worker.share _ runnable

pub returns : goal.returns
returns g c =
    let was = c.loop-worker.invariant in
    let left = into_iter_items c.loop-worker.worker-iterator in
    let none = nil_from_length left (sym c.loop-worker.worker-iterator.rest.ok.0 ∙ c.in-None.ensures.steps.0) in
    let jobs = rw none at was.jobs in
    record {
      started = λ trials ready. record {
        shares = shares_of c.args.ready.workers.items;
        some = ready.some;
        dealt = ready.dealt;
        started = sym (append-nil (map job_of c.loop-worker.handles.items)) ∙ jobs;
      };
      each = omega (arith, was.each, c.in-None.ensures.steps.0);
    }
