use Rattle.std.proofs.Common.{ap, inr}
use Rattle.std.specs.Prelude.{option_map}
use Rattle.mimic_trial.specs.declared.outcome.Conclusion.{Conclusion}
use Rattle.mimic_events.specs.Contents.{label_read}
use Rattle.mimic_watch.proofs.Titles.{announced_by, running_in}
use Rattle.mimic_watch.proofs.viewer.Viewer.drawing.Goals as goal

pub returns : goal.returns
returns c = λ start now bytes put waiting gone h.
    let running = option_map (λ label. label_read label.now) c.running-running.result in
    inr (record {
      view = _;
      running = running;
      quiet = c.quiet-quiet.result;
      ended = h.ended;
      failed = ap (λ (x : Conclusion). x.num_failed) h.counts;
      announced = announced_by start now bytes c.announced-announced.result gone
          (c.announced-announced.ensures.found bytes _ h.followed);
      runs = running_in start now bytes _ running gone h.followed.ended (c.running-running.ensures.found bytes _ h.followed);
      text = c.in_ok-drawn.ensures;
    })
