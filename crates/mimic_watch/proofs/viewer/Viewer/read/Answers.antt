use Rattle.std.proofs.Common.{◌∙◌, [], refl, rules, sym}
use Rattle.mimic_watch.proofs.Seeing.{none_seen}
use Rattle.std.proofs.KnownBytes.{Consumes-kept, Consumes-nil}
use Rattle.mimic_watch.proofs.Watches.{over_wrong}
use Rattle.mimic_watch.proofs.viewer.Viewer.read.Goals as goal

pub returns-in_ok-take-in-Ok-clause-read : goal.returns-in_ok-take-in-Ok-clause-read
returns-in_ok-take-in-Ok-clause-read g c = record {
  bytes = _;
  gone = c.in-Ok.ensures.piece.gone;
  seen = c.in_ok-take-in-Ok.ensures.seen;
  screen = c.in_ok-take-in-Ok.ensures.screen;
  last = λ over all put waiting h.
      over_wrong _ all c.first_wrong_line.result (sym c.is_some.ensures ∙ over) (c.first_wrong_line.ensures.found all _ h.followed);
}

pub returns-in_ok-go_on-in-Err-clause-read : goal.returns-in_ok-go_on-in-Err-clause-read
returns-in_ok-go_on-in-Err-clause-read g c = record {
  bytes = [];
  gone = Consumes-kept _ _ _ [] (Consumes-nil _) c.in-Err.ensures.fault.1;
  seen = none_seen _;
  screen = refl;
  last = λ over. absurd (search rules);
}
