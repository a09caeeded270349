use Rattle.std.proofs.Common.{refl, sym}
use Rattle.mimic_events.proofs.Followers.{followed}
use Rattle.mimic_events.proofs.follower.Follower.new.Goals as goal

pub returns : goal.returns
returns c = followed _ _ _ refl c.new.ensures.sound (sym c.new.ensures.bytes)
