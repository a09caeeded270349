use Rattle.mimic_printer.proofs.Adding.{adds_then}
use Rattle.mimic_compare.proofs.lines.add_change.Goals as goal

pub returns : goal.returns
returns g c =
    let name = rw (← c.change.view_is) at c.add_change_name.ensures in
    let ratio = rw c.ratio_of.ensures at c.add_ratio.ensures in
    rw (← c.change.view_is)
    (adds_then _ _ name (adds_then _ _ c.add_amount.ensures (adds_then _ _ c.add.ensures
    (adds_then _ _ c.add_amount-2.ensures (adds_then _ _ c.add_unit.ensures ratio)))))
