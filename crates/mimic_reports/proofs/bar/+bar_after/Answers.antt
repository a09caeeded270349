use Rattle.std.proofs.Common.{◌≡◌, ◌≤◌, ◌<◌, ℕ, zero, suc, ◌+◌, ◌-◌, ◌/◌, arith, refl, ap, ◌∙◌}
use Rattle.std.proofs.lemmas.Bool.{lt-ltb, le-ltb}
use Rattle.mimic_reports.specs.Page.{bar_after}
use Rattle.mimic_reports.proofs.bar.+bar_after.Goals as goal

none : (halvings n : ℕ) → halvings ≡ 0 → n ≡ bar_after halvings n
unfolding bar_after
none zero n h = refl
none (suc halvings) n h = absurd (omega (arith, h))

small : (halvings n : ℕ) → n < 32 → n ≡ bar_after halvings n
unfolding bar_after
small zero n h = refl
small (suc halvings) n h = rw (lt-ltb n 32 h) refl

step : (halvings n r : ℕ) → 1 ≤ halvings → 32 ≤ n → r ≡ bar_after (halvings - 1) (n / 2) → 16 + r ≡ bar_after halvings n
unfolding bar_after
step zero n r h k e = absurd (omega (arith, h))
step (suc halvings) n r h k e =
    let one : suc halvings - 1 ≡ halvings = omega arith in
    rw (le-ltb n 32 k) (ap (λ m. 16 + m) (e ∙ ap (λ m. bar_after m (n / 2)) one))

pub returns-then-halvings-eq0-clause-length : goal.returns-then-halvings-eq0-clause-length
returns-then-halvings-eq0-clause-length t c = none c.args.halvings c.args.nanos (omega arith)

pub returns-then-nanos-lt32-clause-length : goal.returns-then-nanos-lt32-clause-length
returns-then-nanos-lt32-clause-length t c = small c.args.halvings c.args.nanos (omega arith)

pub returns-clause-length : goal.returns-clause-length
returns-clause-length t c = step c.args.halvings c.args.nanos c.bar_after.result (omega arith) (omega arith) c.bar_after.ensures.length
