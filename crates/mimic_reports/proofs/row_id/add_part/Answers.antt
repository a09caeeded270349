use Rattle.std.proofs.Common.{arith, ◌+◌}
use Rattle.mimic_printer.proofs.Escaping.{added_more, added_rest, shorter}
use Rattle.mimic_reports.proofs.Ids.{id_split, part_as_is}
use Rattle.mimic_reports.proofs.row_id.add_part.Goals as goal

pub loop-at-preserved : goal.loop-at-preserved
loop-at-preserved g c =
    let found = c.in-Some.ensures in
    let rest = c.loop-at.rest.now in
    record {
      within = omega (arith, shorter rest (c.in-Some.at + 1), c.loop-at.invariant.within);
      so_far = added_more (id_split rest c.in-Some.at found.0 found.1 found.2) c.loop-at.invariant.so_far c.add.ensures (rw (c.hex_digit.ensures, c.hex_digit-in-Some.ensures) at c.add-in-Some.ensures);
    }

pub returns : goal.returns
returns g c = added_rest (part_as_is _ c.in_default.ensures) c.loop-at.invariant.so_far c.add-2.ensures
