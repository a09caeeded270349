use Rattle.std.proofs.Common.{◌<◌, ◌≤◌, ◌∙◌, arith, length, refl, sym}
use Rattle.mimic_watch.specs.declared.frame.TheConstants.{SHAPES}
use Rattle.mimic_watch.proofs.Drawing.{next_fits, next_too_wide, none_fits}
use Rattle.mimic_watch.proofs.frame.first_line.Goals as goal

pub loop-shape-init : goal.loop-shape-init
loop-shape-init c = refl

pub returns-then-len-columns : goal.returns-then-len-columns
returns-then-len-columns c =
    let few : length c.in_ok-line.line.items ≤ c.args.columns = omega arith in
    c.in_ok-line.ensures
    ∙ sym (c.loop-shape.invariant ∙ next_fits c.args.columns c.args.view.now SHAPES c.loop-shape.shape-index _ c.loop-shape-test.true (rw c.in_ok-line.ensures at few))

pub loop-shape-preserved : goal.loop-shape-preserved
loop-shape-preserved c =
    let many : c.args.columns < length c.in_ok-line.line.items = omega arith in
    c.loop-shape.invariant ∙ next_too_wide c.args.columns c.args.view.now SHAPES c.loop-shape.shape-index _ c.loop-shape-test.true (rw c.in_ok-line.ensures at many)

pub returns : goal.returns
returns c =
    c.new.ensures.items ∙ sym (c.loop-shape.invariant ∙ none_fits c.args.columns c.args.view.now SHAPES c.loop-shape.shape-index c.loop-shape-test.false)
