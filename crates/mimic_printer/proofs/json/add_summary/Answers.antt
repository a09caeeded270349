use Rattle.mimic_printer.specs.Json.{json_summary}
use Rattle.mimic_printer.proofs.json.add_summary.Goals as goal

pub returns : goal.returns
unfolding json_summary
returns g c = rw (← c.json_verdict.ensures) c.add_pieces.ensures
