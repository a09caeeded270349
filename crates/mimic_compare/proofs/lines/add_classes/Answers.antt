use Rattle.mimic_printer.proofs.Adding.{adds_next}
use Rattle.mimic_compare.specs.Text.{classes, listed_lines}
use Rattle.mimic_compare.proofs.lines.add_classes.Goals as goal

pub loop-class-preserved : goal.loop-class-preserved
loop-class-preserved g c = adds_next (listed_lines c.args.lists_not_run c.args.found.now) classes c.loop-class.class-index _ c.loop-class-test.true c.loop-class.invariant c.add_lines.ensures
