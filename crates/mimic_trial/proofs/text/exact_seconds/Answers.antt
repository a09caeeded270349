use Rattle.std.proofs.Common.{rules, ◌≡◌, ◌∙◌, subst, sym, take}
use Rattle.std.specs.Str.{IsUtf8}
use Rattle.std.proofs.lemmas.Str.{IsUtf8-from_ascii}
use Rattle.mimic_trial.specs.Seconds.{IsExactSeconds, exact_seconds}
use Rattle.mimic_trial.proofs.ExactSeconds.{seconds_ascii, seconds_exact, seconds_only}
use Rattle.mimic_trial.proofs.Grouping.{utf8_ok}
use Rattle.mimic_trial.proofs.text.exact_seconds.Goals as goal

pub unwrap-requires : goal.unwrap-requires
unwrap-requires c =
    utf8_ok _ c.from_utf8.result (take c.write_seconds-len.result c.write_seconds-len.new.buf) c.from_utf8.ensures.cases
    (subst IsUtf8 (sym c.write_seconds-len.ensures.written) (IsUtf8-from_ascii _ (seconds_ascii c.args.nanos c.ranges.nanos.fits)))

pub returns-clause-exact : goal.returns-clause-exact
returns-clause-exact c =
    let text : c.unwrap.result.now ≡ exact_seconds c.args.nanos = search rules in
    subst (IsExactSeconds c.args.nanos) (sym text) (seconds_exact c.args.nanos)

pub returns-clause-only : goal.returns-clause-only
returns-clause-only c =
    let text : c.unwrap.result.now ≡ exact_seconds c.args.nanos = search rules in
    λ other h. seconds_only c.args.nanos other h ∙ sym text
