use Rattle.std.proofs.Common.{Bor, ap, rules}
use Rattle.std.specs.Prelude.{option_map}
use Rattle.mimic_events.specs.Contents.{label_read}
use Rattle.mimic_events.specs.declared.report.Label.{Label}
use Rattle.mimic_events.proofs.feed.Feed.running.Goals as goal

pub returns : goal.returns
returns c = (
  λ taken. rw (← c.self.view_is) (c.running.ensures.found _ _ (c.self.invariant (search rules))),
  λ refused. ap (option_map (λ (label : Bor Label). label_read label.now)) (c.running.ensures.refused (search rules)),
)
