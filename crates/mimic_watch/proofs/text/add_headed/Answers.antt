use Rattle.std.proofs.Common.{◌≡◌, ◌<◌, ℕ, List, [], ◌∷◌, ◌++◌, arith, length, refl}
use Rattle.std.proofs.lemmas.Bool.Decides.{nat_tests}
use Rattle.mimic_printer.proofs.Adding.{adds_then}
use Rattle.mimic_watch.specs.Frames.{headed}
use Rattle.mimic_watch.proofs.text.add_headed.Goals as goal

-- a text that isn't empty has its head
has_head : (head text : List ℕ) → 0 < length text → headed head text ≡ head ++ text
has_head head [] h = absurd (omega (arith, h))
has_head head (b ∷ text) h = refl

pub returns-then-not-is_empty : goal.returns-then-not-is_empty
returns-then-not-is_empty g c =
    rw (has_head c.args.head.now c.args.text.now (grind (arith, nat_tests, c.is_empty.ensures, c.if-not-is_empty.true)))
    (adds_then _ _ c.add.ensures c.add-then-not-is_empty.ensures)
