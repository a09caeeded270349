use Rattle.std.proofs.Common.{refl}
use Rattle.mimic_events.proofs.Followers.{follows_found}
use Rattle.mimic_events.proofs.follower.Follower.next_row.Goals as goal

pub returns-clause-followed : goal.returns-clause-followed
returns-clause-followed c = follows_found _ _ _ _ refl c.in_ok-found.ensures
