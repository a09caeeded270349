use Rattle.std.proofs.Common.{◌<◌, ◌^◌, rules, subst, sym}
use Rattle.mimic_events.specs.Readers.{SumsUp}
use Rattle.mimic_events.specs.Reading.{Decodes}
use Rattle.mimic_events.specs.SoFar.{ShowsRunning}
use Rattle.mimic_events.proofs.Endings.{stop_read, whole_read}
use Rattle.mimic_events.proofs.ending.Ending.of.Goals as goal

pub returns-in-Some : goal.returns-in-Some
returns-in-Some c = λ bytes entries h.
    let fits : c.in-Some.totals.rows < 2 ^ 64 = search rules in
    whole_read bytes entries c.in-Some.totals
    (subst (SumsUp bytes entries) c.in-Some.is (c.in_ok-totals.ensures.totals bytes entries h)) fits

pub returns-in-None : goal.returns-in-None
returns-in-None c = λ bytes entries h.
    stop_read bytes entries _ h.ended (c.announced-announced.ensures.found bytes entries h)
    (subst (Decodes ShowsRunning bytes) (sym c.in_ok-running.ensures) (c.running.ensures.found bytes entries h))
    (c.first_wrong_line-wrong_line.ensures.found bytes entries h)
    (subst (SumsUp bytes entries) c.in-None.is (c.in_ok-totals.ensures.totals bytes entries h))
