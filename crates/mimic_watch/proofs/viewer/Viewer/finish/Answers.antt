use Rattle.std.proofs.Common.{◌++◌, sym, subst}
use Rattle.mimic_printer.proofs.Adding.{adds_last, adds_then}
use Rattle.mimic_events.specs.Readings.{EndsAs}
use Rattle.mimic_watch.proofs.viewer.Viewer.finish.Goals as goal

pub returns-clause-verdict : goal.returns-clause-verdict
returns-clause-verdict g c = λ bytes put waiting h. (
  subst (EndsAs bytes (put ++ waiting)) (sym c.new-verdict.ensures.ending) (c.in_ok-ending.ensures bytes _ h.followed),
  c.new-verdict.ensures.counts (put ++ waiting) h.counts,
)

pub returns-clause-added : goal.returns-clause-added
returns-clause-added g c =
    let text = rw (c.deref-2.ensures.value, c.in_ok-set_moment.ensures, c.deref.ensures.value) at c.add.ensures in
    let last = rw c.deref-3.ensures.value at c.add_last.ensures in
    adds_then _ _ (adds_last _ text c.add_flush.ensures) last
