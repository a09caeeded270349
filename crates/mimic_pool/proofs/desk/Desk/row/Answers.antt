use Rattle.std.proofs.Common.{arith}
use Rattle.mimic_pool.proofs.Numbering.{number_within, place_low, row_lies, row_low}
use Rattle.mimic_pool.proofs.desk.Desk.row.Goals as goal

pub index-place-requires : goal.index-place-requires
index-place-requires c =
    let low = row_low c.self.inside c.self.invariant c.args.self.now c.args.number c.self.view_is c.requires in
    omega (arith, low, c.self.inside.order.ok)

pub index-requires : goal.index-requires
index-requires c =
    let low = row_low c.self.inside c.self.invariant c.args.self.now c.args.number c.self.view_is c.requires in
    let place = place_low c.self.inside c.self.invariant c.args.number c.index-place.result.now low c.index-place.ensures in
    omega (arith, place, c.self.inside.numbers.ok)

pub overflow_sub-index : goal.overflow_sub-index
overflow_sub-index c =
    let low = row_low c.self.inside c.self.invariant c.args.self.now c.args.number c.self.view_is c.requires in
    (number_within c.self.inside c.self.invariant c.args.number c.index-place.result.now low c.index-place.ensures c.index.result.now c.index.ensures).0

pub index-requires-2 : goal.index-requires-2
index-requires-2 c =
    let low = row_low c.self.inside c.self.invariant c.args.self.now c.args.number c.self.view_is c.requires in
    let some = number_within c.self.inside c.self.invariant c.args.number c.index-place.result.now low c.index-place.ensures c.index.result.now c.index.ensures in
    omega (arith, some.0, some.1, c.self.inside.outcomes.ok)

pub returns : goal.returns
returns c =
    let low = row_low c.self.inside c.self.invariant c.args.self.now c.args.number c.self.view_is c.requires in
    rw (← c.self.view_is)
    (row_lies c.self.inside c.self.invariant c.args.number c.index-place.result.now low c.index-place.ensures c.index.result.now c.index.ensures c.index-2.result.now c.index-2.ensures)
