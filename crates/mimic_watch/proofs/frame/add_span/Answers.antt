use Rattle.std.proofs.Common.{codes}
use Rattle.mimic_printer.proofs.Adding.{adds_then}
use Rattle.mimic_watch.proofs.frame.add_span.Goals as goal

pub returns-in-Some : goal.returns-in-Some
returns-in-Some g c =
    rw (c.if-has.true, c.in-Some.is) (adds_then (codes " ") _ c.add.ensures (adds_then _ _ c.add_time.ensures c.add-in-Some.ensures))
