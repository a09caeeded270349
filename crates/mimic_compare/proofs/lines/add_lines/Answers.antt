use Rattle.std.proofs.Common.{◌≡◌, ◌∙◌, [], cond, subst, sym, true}
use Rattle.std.specs.List.{flat_map}
use Rattle.mimic_printer.specs.Sink.{Adds}
use Rattle.mimic_printer.proofs.Adding.{adds_next, adds_rest}
use Rattle.mimic_compare.specs.Text.{is_listed, line_in}
use Rattle.mimic_compare.proofs.lines.add_lines.Goals as goal

pub loop-comparison-preserved : goal.loop-comparison-preserved
loop-comparison-preserved g c =
    adds_next (line_in c.args.class) c.args.found.now c.loop-comparison.comparison-index c.comparison-item.result c.loop-comparison-test.true c.loop-comparison.invariant (rw (← c.comparison-item.is) c.add_line.ensures)

pub returns-then-has_fault : goal.returns-then-has_fault
returns-then-has_fault g c =
    let listed : is_listed c.args.lists_not_run c.args.class ≡ true = sym c.is_listed.ensures ∙ c.if-not-is_listed.false in
    subst (λ b. Adds g.W.Write.contents c.args.sink.now c.loop-comparison.sink (cond b (flat_map (line_in c.args.class) c.args.found.now) [])) (sym listed)
    (adds_rest (line_in c.args.class) c.args.found.now c.loop-comparison.comparison-index (sym c.has_fault.ensures ∙ c.if-has_fault.true) c.loop-comparison.invariant)
