use Rattle.mimic_printer.specs.Report.{result_summary}
use Rattle.mimic_printer.proofs.pretty.add_summary.Goals as goal

pub returns : goal.returns
unfolding result_summary
returns g c =
    rw (← c.verdict-verdict.ensures, ← c.colour_start.ensures, ← c.word.ensures, ← c.colour_end.ensures, ← c.hundredths-seconds.ensures.seconds, ← c.hundredths-seconds.ensures.rest) c.add_pieces.ensures
