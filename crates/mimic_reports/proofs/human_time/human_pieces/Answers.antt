use Rattle.std.proofs.Common.{◌≡◌, ◌∙◌, ◌<◌, ◌≤◌, ◌/◌, ◌%◌, ◌++◌, ℕ, ap, refl, codes}
use Rattle.std.specs.Prelude.{decimal}
use Rattle.std.proofs.lemmas.Bool.{lt-ltb, le-ltb}
use Rattle.mimic_reports.specs.HumanTime.{human_time, nearest, two_units}
use Rattle.mimic_reports.proofs.human_time.human_pieces.Goals as goal

module _ (n : ℕ) where
  in_millis : nearest 1000000 n < 1000 → decimal (nearest 1000000 n) ++ codes " ms" ≡ human_time n
  unfolding human_time
  in_millis h = rw (lt-ltb _ _ h) refl

  module _ (long : 1000 ≤ nearest 1000000 n) where
    in_tenths : nearest 100000000 n < 1200
        → two_units (nearest 100000000 n / 10) (codes ".") (nearest 100000000 n % 10) (codes " s") ≡ human_time n
    unfolding human_time
    in_tenths h = rw (le-ltb _ _ long, lt-ltb _ _ h) refl

    in_seconds : 1200 ≤ nearest 100000000 n → nearest 1000000000 n < 3600
        → two_units (nearest 1000000000 n / 60) (codes " min ") (nearest 1000000000 n % 60) (codes " s") ≡ human_time n
    unfolding human_time
    in_seconds h k = rw (le-ltb _ _ long, le-ltb _ _ h, lt-ltb _ _ k) refl

    in_minutes : 1200 ≤ nearest 100000000 n → 3600 ≤ nearest 1000000000 n
        → two_units (nearest 60000000000 n / 60) (codes " h ") (nearest 60000000000 n % 60) (codes " min") ≡ human_time n
    unfolding human_time
    in_minutes h k = rw (le-ltb _ _ long, le-ltb _ _ h, le-ltb _ _ k) refl

pub returns-then-millis-lt1000 : goal.returns-then-millis-lt1000
returns-then-millis-lt1000 c = in_millis _ c.if-millis-lt1000.true ∙ ap human_time c.from-nanos.ensures

pub returns-then-tenths-lt1200 : goal.returns-then-tenths-lt1200
returns-then-tenths-lt1200 c = c.two.ensures ∙ in_tenths _ c.if-millis-lt1000.false c.if-tenths-lt1200.true ∙ ap human_time c.from-nanos.ensures

pub returns-then-seconds-lt3600 : goal.returns-then-seconds-lt3600
returns-then-seconds-lt3600 c =
    c.two-then-seconds-lt3600.ensures ∙ in_seconds _ c.if-millis-lt1000.false c.if-tenths-lt1200.false c.if-seconds-lt3600.true ∙ ap human_time c.from-nanos.ensures

pub returns : goal.returns
returns c =
    c.two-2.ensures ∙ in_minutes _ c.if-millis-lt1000.false c.if-tenths-lt1200.false c.if-seconds-lt3600.false ∙ ap human_time c.from-nanos.ensures
