use Rattle.std.proofs.Common.{[]}
use Rattle.mimic_printer.proofs.Adding.{adds_nothing, adds_then, puts_added}
use Rattle.mimic_reports.specs.Page.{page_text}
use Rattle.mimic_reports.proofs.page.write_page.Goals as goal

pub returns-clause-page : goal.returns-clause-page
unfolding page_text
returns-clause-page g c =
    puts_added _ c.end.result (adds_then _ _ c.add_header.ensures (adds_then _ _ c.add_groups.ensures (adds_then _ [] c.add_end.ensures (adds_nothing _)))) c.end.ensures
