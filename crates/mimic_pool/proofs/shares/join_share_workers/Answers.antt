use Rattle.std.proofs.Common.{◌≡◌, ◌∙◌, ◌∷◌, ◌++◌, [], append-nil, arith, length, map, refl, subst, sym}
use Rattle.std.proofs.lemmas.List.{length-map, map-append}
use Rattle.std.specs.List.{flat_map}
use Rattle.std.specs.List.Sorted.{IsPermutation}
use Rattle.std.specs.Vec.Iter.{into_iter_items}
use Rattle.mimic_pool.specs.Prelude.{AreAnswered, items_of, job_of, rows_in}
use Rattle.mimic_pool.proofs.Sharing.{answered_flat, dealt_whole, job_answered, jobs_done, of_shares}
use Rattle.mimic_pool.proofs.shares.join_share_workers.Goals as goal

pub loop-handle-preserved : goal.loop-handle-preserved
loop-handle-preserved g c =
    let was = c.loop-handle.invariant in
    let next = c.in-Some.ensures.steps in
    let pushed = c.push_reserved.ensures in
    let rows : map rows_in c.push_reserved.new.self.items ≡ map rows_in c.loop-handle.joined.items ++ rows_in c.join.result ∷ [] = rw (pushed.items, map-append) in
    record {
      answered = job_answered g.T.Task.gives (map job_of c.args.workers.handles.items) (map job_of (into_iter_items c.loop-handle.handle-iterator)) (map job_of (into_iter_items c.next.new.self)) (map rows_in c.loop-handle.joined.items) (map rows_in c.push_reserved.new.self.items) (job_of c.in-Some.handle) (rows_in c.join.result) (rw next.0) rows c.join.ensures was.answered;
      each = omega (arith, was.each, pushed.len, next.1);
      fits = omega (arith, was.fits, pushed.len, pushed.capacity, next.1);
    }

pub returns : goal.returns
returns g c =
    let left = into_iter_items c.loop-handle.handle-iterator in
    let none : length left ≡ 0 = sym c.loop-handle.handle-iterator.rest.ok.0 ∙ c.in-None.ensures.steps.0 in
    let joined = map rows_in c.loop-handle.joined.items in
    let all = jobs_done g.T.Task.gives (map job_of c.args.workers.handles.items) (map job_of left) joined (length-map left job_of ∙ none) c.loop-handle.invariant.answered in
    record {
      joined = λ mode trials runs.
          let given = flat_map items_of runs.shares in
          let answered = subst (λ jobs. AreAnswered g.T.Task.gives jobs joined) runs.started all in
          record {
            dropped = [];
            answered = record {
              given = given;
              parts = subst (λ l. IsPermutation trials l) (sym (append-nil given)) (dealt_whole runs.shares trials runs.some runs.dealt);
              answers = answered_flat g.T.Task.gives mode runs.shares joined answered;
            };
            all = λ _. refl;
          };
      workers = omega (arith, c.loop-handle.invariant.each, c.in-None.ensures.steps.0);
      shares = λ mode rs bs runs. of_shares g.T.Task.gives mode rs bs runs.shares joined runs.some runs.dealt (subst (λ jobs. AreAnswered g.T.Task.gives jobs joined) runs.started all);
    }
