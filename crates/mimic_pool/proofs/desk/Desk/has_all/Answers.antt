use Rattle.std.proofs.Common.{◌≡◌, ◌∙◌, ap, arith, map, refl, slice_index_or, sym}
use Rattle.std.proofs.lemmas.List.{get_or-map, length-map, take_all}
use Rattle.std.proofs.lemmas.List.Elements.{All-map, All-more}
use Rattle.mimic_pool.specs.Prelude.{HaveArrived, rows_in}
use Rattle.mimic_pool.proofs.Settling.{all_stand, missing_none, order_as_long}
use Rattle.mimic_pool.proofs.desk.Desk.has_all.Goals as goal

pub returns-then-len-clause-all : goal.returns-then-len-clause-all
returns-then-len-clause-all c = (
  λ t. absurd (cc),
  λ has.
      let as_long = order_as_long c.self.inside c.args.self.now c.self.invariant c.self.view_is has.complete in
      absurd (omega (arith, as_long, c.if-len.true, c.len.ensures, c.len-2.ensures, c.self.inside.order.ok.0, c.self.inside.numbers.ok.0)),
)

pub loop-rows-preserved : goal.loop-rows-preserved
loop-rows-preserved c =
    let rows = c.rows-item.result in
    let here : HaveArrived c.args.self.now (rows_in rows) = c.have_arrived.ensures.0 c.if-not-have_arrived.false in
    All-more (λ rows. HaveArrived c.args.self.now (rows_in rows)) c.args.joined.now c.loop-rows.rows-index rows c.loop-rows-test.true c.loop-rows.invariant
    (rw (← c.rows-item.is) here)

pub returns-then-not-have_arrived-clause-all : goal.returns-then-not-have_arrived-clause-all
returns-then-not-have_arrived-clause-all c =
    let rows = c.rows-item.result in (
      λ t. absurd (cc),
      λ has.
          let at : slice_index_or (map rows_in c.args.joined.now) c.loop-rows.rows-index (rows_in rows) ≡ rows_in rows =
          get_or-map rows_in c.args.joined.now c.loop-rows.rows-index rows (rows_in rows) c.loop-rows-test.true ∙ ap rows_in (sym c.rows-item.is) in
          let here : HaveArrived c.args.self.now (rows_in rows) =
          rw at at (has.same c.loop-rows.rows-index (rows_in rows) (omega (arith, c.loop-rows-test.true, length-map c.args.joined.now rows_in))) in
          sym c.if-not-have_arrived.true ∙ c.have_arrived.ensures.1 here,
    )

pub returns-clause-all : goal.returns-clause-all
returns-clause-all c =
    let rows = rw (take_all _ c.args.joined.now c.loop-rows-test.false) at c.loop-rows.invariant in
    let complete = missing_none c.self.inside c.args.self.now c.self.invariant c.self.view_is
    (omega (arith, c.if-len.false, c.len.ensures, c.len-2.ensures, c.self.inside.order.ok.0, c.self.inside.numbers.ok.0)) in
    (λ t. record { complete = complete; same = All-map (HaveArrived c.args.self.now) rows_in c.args.joined.now rows }, λ has. refl)

pub returns-clause-outcomes : goal.returns-clause-outcomes
returns-clause-outcomes c = λ t. all_stand c.self.inside c.args.self.now _ c.self.invariant c.self.view_is ((returns-clause-all c).0 t)
