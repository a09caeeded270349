use Rattle.std.proofs.Common.{◌≡◌, [], rules}
use Rattle.std.proofs.lemmas.List.{nil_from_length}
use Rattle.mimic_events.proofs.PlainRows.{row_passed}
use Rattle.mimic_events.proofs.RowReaders.{nothing_read}
use Rattle.mimic_events.proofs.row_reader.RowReader.pass_rows.Goals as goal

pub loop-after-init : goal.loop-after-init
loop-after-init c =
    let none : c.args.self.now.rest.items ≡ [] = nil_from_length c.args.self.now.rest.items (search rules) in
    (c.if-self.false, none, ([], nothing_read c.args.self.now c.args.piece.now))

pub loop-after-preserved : goal.loop-after-preserved
loop-after-preserved c = (
  c.loop-after.invariant.0,
  c.loop-after.invariant.1,
  row_passed c.args.self.now c.loop-after.self _ c.args.piece.now c.loop-after.left.now c.in-Some.after.now c.loop-after.invariant.2 c.loop-after.invariant.0 c.loop-after.invariant.1 c.loop-after.invariant.0
      c.loop-after.invariant.1 c.in-Some.ensures,
)
