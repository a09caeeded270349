use Rattle.std.proofs.Common.{◌∙◌, ap, sym}
use Rattle.std.specs.Option.{option_copied}
use Rattle.mimic_printer.specs.Json.{json_outcome}
use Rattle.mimic_printer.proofs.json.add_lines.Goals as goal

pub returns-in-Passed : goal.returns-in-Passed
unfolding json_outcome
returns-in-Passed g c = rw c.in-Passed.is c.add_word.ensures

pub returns-in-Ignored : goal.returns-in-Ignored
unfolding json_outcome
returns-in-Ignored g c = rw c.in-Ignored.is c.add_word-in-Ignored.ensures

pub returns-in-None : goal.returns-in-None
unfolding json_outcome
returns-in-None g c =
    let none = sym c.message.ensures ∙ ap option_copied c.in-None.is in
    rw (c.in-Failed.is, none) c.add_word-in-None.ensures
