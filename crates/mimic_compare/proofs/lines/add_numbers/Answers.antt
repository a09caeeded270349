use Rattle.std.proofs.Common.{ap, subst}
use Rattle.std.specs.List.{flat_map}
use Rattle.std.proofs.lemmas.List.{take_all}
use Rattle.mimic_printer.specs.Sink.{Adds}
use Rattle.mimic_printer.proofs.Adding.{adds_next, adds_then}
use Rattle.mimic_compare.specs.Text.{classes, number_text}
use Rattle.mimic_compare.proofs.lines.add_numbers.Goals as goal

pub loop-class-preserved : goal.loop-class-preserved
loop-class-preserved g c = adds_next (number_text c.args.found.now) classes c.loop-class.class-index _ c.loop-class-test.true c.loop-class.invariant c.add_number.ensures

pub returns : goal.returns
returns g c =
    adds_then (flat_map (number_text c.args.found.now) classes) _
    (subst (Adds g.W.Write.contents c.args.sink.now c.loop-class.sink) (ap (flat_map (number_text c.args.found.now)) (take_all c.loop-class.class-index classes c.loop-class-test.false)) c.loop-class.invariant)
    c.add_speeds.ensures
