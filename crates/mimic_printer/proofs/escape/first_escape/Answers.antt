use Rattle.std.proofs.Common.{◌∙◌, sym}
use Rattle.mimic_printer.proofs.Spellings.{all_plain, behind, escape_found, one_more}
use Rattle.mimic_printer.proofs.escape.first_escape.Goals as goal

pub loop-at-preserved : goal.loop-at-preserved
loop-at-preserved c =
    one_more c.args.place c.args.text.now c.loop-at.at 0 c.loop-at-test.true c.loop-at.invariant (sym c.is_plain.ensures ∙ c.if-not-is_plain.false)

pub returns-then-not-is_plain : goal.returns-then-not-is_plain
returns-then-not-is_plain c =
    escape_found c.args.place c.args.text.now _ c.loop-at.at _ _ c.loop-at-test.true c.loop-at.invariant (behind c.args.text.now c.loop-at.at)
    c.front-count.ensures.spelling c.front-count.ensures.count c.front-count.ensures.within

pub returns : goal.returns
returns c = all_plain c.args.place c.args.text.now c.loop-at.at c.loop-at-test.false c.loop-at.invariant
