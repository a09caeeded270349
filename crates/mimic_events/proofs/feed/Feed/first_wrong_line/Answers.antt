use Rattle.std.proofs.Common.{rules}
use Rattle.mimic_events.proofs.feed.Feed.first_wrong_line.Goals as goal

pub returns : goal.returns
returns c = (
  λ taken. rw (← c.self.view_is) (c.first_wrong_line.ensures.found _ _ (c.self.invariant (search rules))),
  λ refused. search rules,
)
