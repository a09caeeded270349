use Rattle.std.proofs.Common.{◌∙◌, ap, sym}
use Rattle.std.specs.List.{flat_map}
use Rattle.std.proofs.lemmas.List.Folds.{flat_map-map}
use Rattle.mimic_printer.specs.declared.sink.OutputFault.TheVariants.{Write}
use Rattle.mimic_printer.proofs.Adding.{adds_last, puts_added}
use Rattle.mimic_events.proofs.Results.{at_fault}
use Rattle.mimic_reports.specs.Slowest.{LeavesSlowest, line_text, timed_read}
use Rattle.mimic_reports.proofs.EnoughRows.{slowest_of_all}
use Rattle.mimic_reports.proofs.slowest.write_slowest.Goals as goal

pub returns-in_err-end : goal.returns-in_err-end
returns-in_err-end g c rows h =
    let cut = c.in_ok-cut.ensures in
    let all = slowest_of_all _ rows _ cut.1.0 h cut.1.1 in
    let lines = ap (flat_map (λ row. line_text (timed_read row))) c.deref.ensures.value ∙ sym (flat_map-map line_text timed_read c.cut.new.self.rows.items) ∙ ap (flat_map line_text) (cut.1.2 ∙ sym all.2) in
    at_fault (LeavesSlowest _ rows _ _) _ (Write c.in_err-end.field-0.0) c.from_residual-in_err-end.ensures.1
    (all.0, all.1, puts_added _ _ (adds_last _ (rw lines at c.add_lines.ensures) c.add_flush.ensures) c.in_err-end.ensures)

pub returns : goal.returns
returns g c rows h =
    let cut = c.in_ok-cut.ensures in
    let all = slowest_of_all _ rows _ cut.1.0 h cut.1.1 in
    let lines = ap (flat_map (λ row. line_text (timed_read row))) c.deref.ensures.value ∙ sym (flat_map-map line_text timed_read c.cut.new.self.rows.items) ∙ ap (flat_map line_text) (cut.1.2 ∙ sym all.2) in
    (all.0, all.1, puts_added _ _ (adds_last _ (rw lines at c.add_lines.ensures) c.add_flush.ensures) c.in_ok-end.ensures)
