use Rattle.std.proofs.Common.{rules}
use Rattle.mimic_events.proofs.feed.Feed.announced.Goals as goal

pub returns : goal.returns
returns c = (
  λ taken. rw (← c.self.view_is) (c.announced.ensures.found _ _ (c.self.invariant (search rules))),
  λ refused. search rules,
)
