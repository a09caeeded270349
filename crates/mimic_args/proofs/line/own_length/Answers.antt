use Rattle.std.proofs.Common.{arith, ◌≡◌, ◌∙◌, ap, sym, get_or, map}
use borrow.Author.Count.{below_more}
use Rattle.std.proofs.lemmas.Bool.{false≢true}
use Rattle.std.proofs.lemmas.List.{get_or-map, length-map}
use Rattle.std.proofs.lemmas.Slice.Eq.{bytes_eq-Decides}
use Rattle.std.specs.Prelude.{◌≢◌}
use Rattle.mimic_args.specs.Line.{separator}
use Rattle.mimic_args.proofs.line.own_length.Goals as goal

pub returns-then-eq : goal.returns-then-eq
returns-then-eq g c =
    let at : get_or (map g.S.AsStr.text c.args.words.now) c.loop-own.own separator ≡ c.as_str.result.now =
    get_or-map g.S.AsStr.text c.args.words.now c.loop-own.own c.index-words-own.result separator c.loop-own-test.true ∙ (ap g.S.AsStr.text (sym c.index-words-own.is) ∙ sym c.as_str.ensures) in
    let same : c.as_str.result.now ≡ separator = (bytes_eq-Decides c.as_str.result.now separator).0 (sym c.eq.ensures ∙ c.if-eq.true) in
    record {
      within = omega (arith, length-map c.args.words.now g.S.AsStr.text, c.loop-own-test.true);
      others = c.loop-own.invariant;
      ended = at ∙ same;
    }

pub loop-own-preserved : goal.loop-own-preserved
loop-own-preserved g c =
    let at : get_or (map g.S.AsStr.text c.args.words.now) c.loop-own.own separator ≡ c.as_str.result.now =
    get_or-map g.S.AsStr.text c.args.words.now c.loop-own.own c.index-words-own.result separator c.loop-own-test.true ∙ (ap g.S.AsStr.text (sym c.index-words-own.is) ∙ sym c.as_str.ensures) in
    let other : c.as_str.result.now ≢ separator = λ e.
    false≢true (sym c.if-eq.false ∙ (c.eq.ensures ∙ (bytes_eq-Decides c.as_str.result.now separator).1 e)) in
    below_more (λ k. get_or (map g.S.AsStr.text c.args.words.now) k separator ≢ separator) c.loop-own.own c.loop-own.invariant (λ e. other (sym at ∙ e))
