use Rattle.std.proofs.Common.{◌∙◌, ap, sym}
use Rattle.libtest_mimic.specs.Prelude.{kind_width_of, labels_of, name_width_of}
use Rattle.libtest_mimic.proofs.Columns.{Printer-is}
use Rattle.libtest_mimic.proofs.request.Request.printer.Goals as goal

pub returns : goal.returns
returns g c =
    let p = c.new.ensures in
    let format = p.format ∙ c.format_used-format.ensures in
    let colour = p.colour ∙ c.colours.ensures in
    let trials = c.as_slice.ensures.value in
    record {
      format = format;
      colour = colour;
      columns = λ pretty.
          let asked = sym p.format ∙ pretty in
          let names = c.columns_for-name_width.ensures.names asked ∙ ap (λ l. name_width_of (labels_of l)) trials in
          let kinds = c.columns_for-name_width.ensures.kinds asked ∙ ap (λ l. kind_width_of (labels_of l)) trials in
          Printer-is c.new.result _ _ _ _ format colour (p.name_width ∙ names) (p.kind_width ∙ kinds);
    }
