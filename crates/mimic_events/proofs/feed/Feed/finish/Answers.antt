use Rattle.std.proofs.Common.{◌≡◌, false, map, rules}
use Rattle.mimic_events.specs.Contents.{entry_read}
use Rattle.mimic_events.specs.Follower.{was_refused}
use Rattle.mimic_events.proofs.feed.Feed.finish.Goals as goal

pub returns-in_default-clause-report : goal.returns-in_default-clause-report
returns-in_default-clause-report c =
    let rows = map entry_read c.self.inside.rows.items in
    let taken : was_refused c.self.inside.follower ≡ false = search rules in
    let followed = c.self.invariant taken in
    rw (← c.self.view_is) (rw c.in_default.is at c.in_ok-totals.ensures.totals _ rows followed)

pub returns-clause-report : goal.returns-clause-report
returns-clause-report c =
    let rows = map entry_read c.self.inside.rows.items in
    let taken : was_refused c.self.inside.follower ≡ false = search rules in
    let followed = c.self.invariant taken in
    rw (← c.self.view_is) (rw c.in-Some.is at c.in_ok-totals.ensures.totals _ rows followed).0
