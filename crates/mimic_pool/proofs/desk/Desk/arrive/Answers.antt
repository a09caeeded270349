use Rattle.std.proofs.Common.{◌<◌, ◌∙◌, arith, false, length, refl, true}
use Rattle.std.specs.Vec.{with_item}
use Rattle.mimic_pool.specs.Numbers.{arrived_of}
use Rattle.mimic_pool.specs.declared.desk.Desk.TheInside.{Inside}
use Rattle.mimic_pool.proofs.FirstArrivals.{again_kept, first_kept, history_more, said, stranger_kept}
use Rattle.mimic_pool.proofs.Numbering.{come_at, desk_fits, desk_more, number_free, number_taken, rows_more}
use Rattle.mimic_pool.proofs.desk.Desk.arrive.Goals as goal

-- ---- no such place

pub returns-then-place-len-clause-rows : goal.returns-then-place-len-clause-rows
returns-then-place-len-clause-rows c =
    rw (← c.self.view_is) (stranger_kept (arrived_of c.self.inside) _ (omega (arith, c.if-place-len.true, c.len.ensures, c.self.inside.numbers.ok)))

pub returns-then-place-len-clause-history : goal.returns-then-place-len-clause-history
returns-then-place-len-clause-history c = history_more _ _ _ _ (returns-then-place-len-clause-rows c)

-- ---- something arrived there

pub returns-then-index-ne0-clause-answer : goal.returns-then-index-ne0-clause-answer
returns-then-index-ne0-clause-answer c =
    let low : c.args.place < length c.self.inside.numbers.items = omega (arith, c.if-place-len.false, c.len.ensures, c.self.inside.numbers.ok) in
    let known = number_taken c.self.inside c.self.invariant c.args.place c.index.result.now low c.index.ensures c.if-index-ne0.true in
    rw (← c.self.view_is) (said (arrived_of c.self.inside) _ true low (come_at c.self.inside c.self.invariant c.args.place true known))

pub returns-then-index-ne0-clause-rows : goal.returns-then-index-ne0-clause-rows
returns-then-index-ne0-clause-rows c =
    let low : c.args.place < length c.self.inside.numbers.items = omega (arith, c.if-place-len.false, c.len.ensures, c.self.inside.numbers.ok) in
    let known = number_taken c.self.inside c.self.invariant c.args.place c.index.result.now low c.index.ensures c.if-index-ne0.true in
    rw (← c.self.view_is) (again_kept (arrived_of c.self.inside) _ low (come_at c.self.inside c.self.invariant c.args.place true known))

pub returns-then-index-ne0-clause-history : goal.returns-then-index-ne0-clause-history
returns-then-index-ne0-clause-history c = history_more _ _ _ _ (returns-then-index-ne0-clause-rows c)

-- ---- nothing arrived there

pub numbered-requires-clause-room : goal.numbered-requires-clause-room
numbered-requires-clause-room c =
    let low : c.args.place < length c.self.inside.numbers.items = omega (arith, c.if-place-len.false, c.len.ensures, c.self.inside.numbers.ok) in
    let free = number_free c.self.inside c.self.invariant c.args.place c.index.result.now low c.index.ensures c.if-index-ne0.false in
    let fits = desk_fits c.self.inside c.self.invariant c.args.place low free in
    omega (arith, fits, c.self.invariant.few, c.self.invariant.outcomes_room, c.self.inside.outcomes.ok)

pub push_reserved-requires : goal.push_reserved-requires
push_reserved-requires c =
    let low : c.args.place < length c.self.inside.numbers.items = omega (arith, c.if-place-len.false, c.len.ensures, c.self.inside.numbers.ok) in
    let free = number_free c.self.inside c.self.invariant c.args.place c.index.result.now low c.index.ensures c.if-index-ne0.false in
    let fits = desk_fits c.self.inside c.self.invariant c.args.place low free in
    omega (arith, fits, c.self.invariant.order_room, c.self.inside.order.ok)

pub invariant_of-self : goal.invariant_of-self
invariant_of-self c =
    let low : c.args.place < length c.self.inside.numbers.items = omega (arith, c.if-place-len.false, c.len.ensures, c.self.inside.numbers.ok) in
    let free = number_free c.self.inside c.self.invariant c.args.place c.index.result.now low c.index.ensures c.if-index-ne0.false in
    desk_more c.self.inside c.self.invariant c.args.place low free c.args.outcome _
    c.numbered.result c.numbered.ensures.outcomes c.numbered.ensures.number refl
    c.push_reserved.ensures.items c.numbered.ensures.room c.push_reserved.ensures.capacity

pub returns-clause-answer : goal.returns-clause-answer
returns-clause-answer c =
    let low : c.args.place < length c.self.inside.numbers.items = omega (arith, c.if-place-len.false, c.len.ensures, c.self.inside.numbers.ok) in
    let free = number_free c.self.inside c.self.invariant c.args.place c.index.result.now low c.index.ensures c.if-index-ne0.false in
    rw (← c.self.view_is) (said (arrived_of c.self.inside) _ false low (come_at c.self.inside c.self.invariant c.args.place false free))

pub returns-clause-rows : goal.returns-clause-rows
returns-clause-rows c =
    let low : c.args.place < length c.self.inside.numbers.items = omega (arith, c.if-place-len.false, c.len.ensures, c.self.inside.numbers.ok) in
    let free = number_free c.self.inside c.self.invariant c.args.place c.index.result.now low c.index.ensures c.if-index-ne0.false in
    let new : Inside = record {
      numbers = with_item c.self.inside.numbers c.args.place c.numbered.result;
      outcomes = c.numbered.new.outcomes;
      order = c.push_reserved.new.self;
    } in
    rw (← c.self.view_is)
    (rows_more c.self.inside c.self.invariant c.args.place low free c.args.outcome new
    c.numbered.result c.numbered.ensures.outcomes c.numbered.ensures.number refl c.push_reserved.ensures.items
    ∙ first_kept (arrived_of c.self.inside) _ low (come_at c.self.inside c.self.invariant c.args.place false free))

pub returns-clause-history : goal.returns-clause-history
returns-clause-history c = history_more _ _ _ _ (returns-clause-rows c)
