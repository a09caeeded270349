use Rattle.std.proofs.Common.{◌∙◌, ap, sym}
use Rattle.std.specs.Option.{option_copied}
use Rattle.mimic_reports.proofs.page_row.add_message.Goals as goal

pub returns : goal.returns
returns g c = let message = sym c.message.ensures ∙ ap option_copied c.in-Some.is in rw message c.add_pieces.ensures
