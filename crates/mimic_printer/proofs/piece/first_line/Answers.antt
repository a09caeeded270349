use Rattle.mimic_printer.proofs.FirstLines.{line_ends, line_more, line_whole}
use Rattle.mimic_printer.proofs.piece.first_line.Goals as goal

pub returns-then-byte-eq10 : goal.returns-then-byte-eq10
returns-then-byte-eq10 c = line_ends c.args.text.now c.loop-at.at 0 c.loop-at-test.true c.loop-at.invariant c.if-byte-eq10.true

pub loop-at-preserved : goal.loop-at-preserved
loop-at-preserved c = line_more c.args.text.now c.loop-at.at 0 c.loop-at-test.true c.loop-at.invariant c.if-byte-eq10.false

pub returns : goal.returns
returns c = line_whole c.args.text.now c.loop-at.at c.loop-at-test.false c.loop-at.invariant
