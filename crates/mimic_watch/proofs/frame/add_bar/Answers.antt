use Rattle.std.proofs.Common.{◌≡◌, ◌-◌, arith, codes, drop, length-drop, take}
use Rattle.std.proofs.lemmas.List.{take_all}
use Rattle.mimic_printer.proofs.Adding.{adds_then}
use Rattle.mimic_watch.proofs.frame.add_bar.Goals as goal

pub returns-then-has : goal.returns-then-has
returns-then-has g c =
    let n = c.min-cells.result in
    let empty = codes "      " in
    let rest : take (6 - n) (drop n empty) ≡ drop n empty = take_all (6 - n) (drop n empty) (omega (arith, length-drop n empty)) in
    rw (c.if-has.true, ← c.min-cells.ensures)
    (adds_then (codes "[") _ c.add.ensures (adds_then _ _ c.add-then-has.ensures (adds_then _ _ (rw rest at c.add-then-has-2.ensures) c.add-then-has-3.ensures)))
