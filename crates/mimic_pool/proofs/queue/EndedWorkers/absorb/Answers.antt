use Rattle.std.proofs.Common.{◌∙◌, arith, rules, true}
use Rattle.std.specs.List.{flat_map}
use Rattle.mimic_pool.specs.Balance.{account_of, all_parts}
use Rattle.mimic_pool.proofs.Accounts.{absorbed, came_back}
use Rattle.mimic_pool.proofs.Emptying.{rows_pushed, takes_both}
use Rattle.mimic_pool.proofs.queue.EndedWorkers.absorb.Goals as goal

pub absorb-requires-clause-ours : goal.absorb-requires-clause-ours
absorb-requires-clause-ours g c = let ours = c.requires.answered.3.awaits.ours in search rules

pub absorb-requires-clause-other : goal.absorb-requires-clause-other
absorb-requires-clause-other g c = let ours = c.requires.answered.4.ours in search rules

pub absorb-requires-clause-parts : goal.absorb-requires-clause-parts
absorb-requires-clause-parts g c = c.requires.answered.3.awaits.some_part

pub push_reserved-requires : goal.push_reserved-requires
push_reserved-requires g c = omega (arith, c.requires.answered.3.awaits.fits)

pub returns-clause-answered : goal.returns-clause-answered
returns-clause-answered g c = λ mode out trials was worked.
    let awaits = was.awaits in
    let old = account_of c.args.self.now.pass in
    let other = account_of c.args.worker.pass in
    let new = account_of c.absorb.new.pass in
    let joined = c.args.self.now.joined.items in
    let pushed = c.push_reserved.ensures in
    let both = absorbed new old other c.absorb.ensures.both worked.parts worked.put in
    record {
      awaits = record {
        ours = search rules;
        some_part = both.some_part;
        parts = came_back old.parts new.parts out all_parts both.parts_are awaits.parts;
        put = both.put_is ∙ awaits.put;
        fits = omega (arith, awaits.fits, pushed.len, pushed.capacity);
        no_rows = awaits.no_rows;
        fits_rows = awaits.fits_rows;
      };
      answered = takes_both g.T.Task.gives mode true old.taken other.taken new.taken (flat_map (λ rows. rows.items) joined) c.args.worker.rows.items (flat_map (λ rows. rows.items) c.push_reserved.new.self.items) both.taken_is (rows_pushed (λ rows. rows.items) joined c.push_reserved.new.self.items c.args.worker.rows pushed.items) worked.answers was.answered;
    }
