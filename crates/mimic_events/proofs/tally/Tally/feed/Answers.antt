use Rattle.std.proofs.Common.{arith}
use Rattle.std.proofs.lemmas.List.{length-append}
use Rattle.mimic_events.specs.Readers.{ReadsRow}
use Rattle.mimic_events.proofs.RowReaders.{passes_then}
use Rattle.mimic_events.proofs.Tallies.{fed_and_forgot}
use Rattle.mimic_events.proofs.tally.Tally.feed.Goals as goal

pub loop-tally-preserved : goal.loop-tally-preserved
loop-tally-preserved c =
    let row : ReadsRow c.loop-tally.tally.reader c.loop-tally.left.now c.next_row.new.self c.in-Some.row c.in-Some.after.now = rw c.in-Some.is at c.in_ok-row.ensures in
    record {
      fed = passes_then _ _ _ _ _ _ (passes_then _ _ _ _ _ _ c.loop-tally.invariant.fed (_, row.read)) c.pass_rows-left-in-Some.ensures;
      taken = c.loop-tally.invariant.taken;
    }

pub returns : goal.returns
returns c = λ bytes h. record {
  fed = fed_and_forgot _ c.loop-tally.tally.reader c.next_row.new.self _ _ c.loop-tally.left.now bytes c.loop-tally.invariant.fed (rw c.in_default.is at c.in_ok-row.ensures) c.in_ok-forget.ensures h.fed;
  taken = omega (arith, c.loop-tally.invariant.taken, h.taken, length-append bytes c.args.piece.now);
}
