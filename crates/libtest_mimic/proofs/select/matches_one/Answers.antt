use Rattle.std.proofs.Common.{arith, rules, sym}
use Rattle.std.specs.Prelude.{string_bytes}
use Rattle.std.proofs.lemmas.List.{take_all}
use Rattle.std.proofs.lemmas.List.Elements.{All-more}
use Rattle.libtest_mimic.specs.Prelude.{MatchesTrial}
use Rattle.libtest_mimic.proofs.select.matches_one.Goals as goal

pub returns-then-matches_trial : goal.returns-then-matches_trial
returns-then-matches_trial g c =
    let found = c.matches_trial.ensures.0 (search rules) in (
      (λ _. (
        c.loop-pattern.pattern-index,
        c.pattern-item.result,
        omega arith,
        sym c.pattern-item.is,
        rw c.as_str.ensures.value at found,
      )),
      (λ _. search rules),
    )

pub loop-pattern-preserved : goal.loop-pattern-preserved
loop-pattern-preserved g c =
    let matched = rw (c.as_str.ensures.value, c.pattern-item.is) at c.matches_trial.ensures in
    All-more (λ s. ¬ MatchesTrial c.args.args.now c.args.trial.now (string_bytes s)) c.args.patterns.now
    c.loop-pattern.pattern-index c.pattern-item.result c.loop-pattern-test.true c.loop-pattern.invariant
    (λ m. let yes = matched.1 m in let no = rw c.if-matches_trial.false at yes in cc)

pub returns : goal.returns
returns g c =
    let whole = take_all c.loop-pattern.pattern-index c.args.patterns.now (omega arith) in
    let none = rw whole at c.loop-pattern.invariant in (
      (λ t. cc),
      (λ h.
          let no = none h.0 h.1 h.2 in
          absurd (rw h.3 at no h.4)),
    )
