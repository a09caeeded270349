use Rattle.std.proofs.Common.{◌<◌, ◌∙◌, Some, ap, arith, false, length, slice_index_or, true}
use Rattle.std.specs.Option.{option_copied}
use Rattle.mimic_pool.proofs.Numbering.{found_at, none_high, number_free, number_low, number_taken, outcome_read}
use Rattle.mimic_pool.proofs.desk.Desk.outcome.Goals as goal

pub returns-in_err-number : goal.returns-in_err-number
returns-in_err-number c =
    rw (← c.self.view_is)
    (ap option_copied c.from_residual.ensures
    ∙ none_high c.self.inside c.self.invariant c.args.place (omega (arith, c.in_err-number.ensures.lookup.3, ap length c.deref.ensures.value)))

pub returns-then-number-eq0 : goal.returns-then-number-eq0
returns-then-number-eq0 c =
    let at = c.in_ok-number.ensures.lookup in
    let number = c.in_ok-number.field-0.now in
    let low : c.args.place < length c.self.inside.numbers.items = omega (arith, at.3.0, ap length c.deref.ensures.value) in
    let read = at.1 ∙ ap (λ l. slice_index_or l c.args.place number) c.deref.ensures.value in
    rw (← c.self.view_is)
    (found_at c.self.inside c.self.invariant c.args.place false (number_free c.self.inside c.self.invariant c.args.place number low read c.if-number-eq0.true))

pub index-requires : goal.index-requires
index-requires c =
    let at = c.in_ok-number.ensures.lookup in
    let number = c.in_ok-number.field-0.now in
    let low : c.args.place < length c.self.inside.numbers.items = omega (arith, at.3.0, ap length c.deref.ensures.value) in
    let read = at.1 ∙ ap (λ l. slice_index_or l c.args.place number) c.deref.ensures.value in
    omega (arith, number_low c.self.inside c.self.invariant c.args.place number low read, c.if-number-eq0.false, c.self.inside.outcomes.ok)

pub returns : goal.returns
returns c =
    let at = c.in_ok-number.ensures.lookup in
    let number = c.in_ok-number.field-0.now in
    let low : c.args.place < length c.self.inside.numbers.items = omega (arith, at.3.0, ap length c.deref.ensures.value) in
    let read = at.1 ∙ ap (λ l. slice_index_or l c.args.place number) c.deref.ensures.value in
    let taken = number_taken c.self.inside c.self.invariant c.args.place number low read c.if-number-eq0.false in
    let same = outcome_read c.self.inside c.self.invariant c.args.place number low read c.index.result.now c.if-number-eq0.false c.index.ensures in
    rw (← c.self.view_is) (ap Some same ∙ found_at c.self.inside c.self.invariant c.args.place true taken)
