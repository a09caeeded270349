use Rattle.std.proofs.Common.{◌∙◌, ◌++◌, ap, append-nil, arith, length, map, refl, rules, subst, sym}
use Rattle.std.specs.List.{flat_map}
use Rattle.std.proofs.lemmas.List.Folds.{flat_map-map}
use Rattle.mimic_pool.specs.Prelude.{account_of, all_parts, AnswersSome, items_of, rows_in}
use Rattle.mimic_pool.proofs.Accounts.{all_back, fields_of, room_for, room_left}
use Rattle.mimic_pool.proofs.Emptying.{rows_pushed, takes_any, takes_whole}
use Rattle.mimic_pool.proofs.queue.EndedWorkers.take_left.Goals as goal

pub loop-init : goal.loop-init
loop-init g c =
    let was = c.requires.answered.1 in
    let before = flat_map (λ rows. rows.items) c.args.self.joined.items in
    let rows = ap (λ l. before ++ l) was.awaits.no_rows ∙ append-nil before in
    record {
      ours = was.awaits.ours;
      parts = all_back (account_of c.args.self.pass).parts all_parts was.awaits.parts;
      put = refl;
      room = omega (arith, was.awaits.fits);
      fits = omega (arith, was.awaits.fits_rows, ap length was.awaits.put);
      answered = subst (λ l. AnswersSome g.T.Task.gives c.args.test_mode c.args.whole (account_of c.args.self.pass).taken l) (sym rows) (takes_any g.T.Task.gives c.args.test_mode c.args.whole (account_of c.args.self.pass).taken before was.answered);
    }

pub end_batch-rows-requires-clause-fits : goal.end_batch-rows-requires-clause-fits
end_batch-rows-requires-clause-fits g c =
    let was = c.loop.invariant in
    let old = account_of c.loop.pass in
    let new = account_of c.take.new.pass in
    let items = items_of c.in-Some-take.batch in
    let took = fields_of new old.parts old.put (old.taken ++ items) c.in-Some-take.ensures.taken in
    room_for old.put old.taken items c.loop.rows.room was.fits new.put new.taken took.put_is took.taken_is (c.in-Some-take.ensures.below was.parts)

pub loop-preserved : goal.loop-preserved
loop-preserved g c =
    let was = c.loop.invariant in
    let old = account_of c.loop.pass in
    let new = account_of c.take.new.pass in
    let items = items_of c.in-Some-take.batch in
    let took = fields_of new old.parts old.put (old.taken ++ items) c.in-Some-take.ensures.taken in
    let rows = c.end_batch-rows.result in
    let before = flat_map (λ rows. rows.items) c.loop.joined.items in
    record {
      ours = search rules;
      parts = ◌∙◌ {c = all_parts} took.parts_are was.parts;
      put = ◌∙◌ {c = (account_of c.args.self.pass).put} took.put_is was.put;
      room = was.room;
      fits = room_left old.put old.taken items c.loop.rows.room was.fits new.put new.taken took.put_is took.taken_is rows.room c.end_batch-rows.ensures.room;
      answered = subst (λ l. AnswersSome g.T.Task.gives c.args.test_mode c.args.whole l (before ++ rows.items)) (sym took.taken_is) (c.end_batch-rows.ensures.answers old.taken before was.answered);
    }

pub returns-in_default : goal.returns-in_default
returns-in_default g c = record {
  joined = λ trials has.
      let was = c.loop.invariant in
      let old = account_of c.loop.pass in
      let joined = c.push_reserved.new.self.items in
      let before = flat_map (λ rows. rows.items) c.loop.joined.items in
      let rows = rows_pushed (λ rows. rows.items) c.loop.joined.items joined c.loop.rows c.push_reserved.ensures.items in
      let put = ◌∙◌ {b = (account_of c.args.self.pass).put} was.put has.awaits.put in
      takes_whole g.T.Task.gives c.args.test_mode c.args.whole trials old.put old.taken (map rows_in joined) (before ++ c.loop.rows.items) put (c.in_default.ensures.whole was.parts) (sym rows ∙ sym (flat_map-map (λ (rows : _). rows) rows_in joined)) was.answered;
}
