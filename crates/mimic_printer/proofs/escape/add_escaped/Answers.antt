use Rattle.mimic_printer.proofs.Escaping.{added_more, added_rest}
use Rattle.mimic_printer.proofs.Spellings.{escape_split}
use Rattle.mimic_printer.proofs.escape.add_escaped.Goals as goal

pub loop-found-preserved : goal.loop-found-preserved
loop-found-preserved g c =
    added_more (escape_split c.args.place c.loop-found.rest.now c.in-Some.found c.as_bytes.result.now c.in-Some.ensures c.as_bytes.ensures) c.loop-found.invariant c.add.ensures c.add-in-Some.ensures

pub returns-clause-written : goal.returns-clause-written
returns-clause-written g c = added_rest c.in_default.ensures c.loop-found.invariant c.add-2.ensures
