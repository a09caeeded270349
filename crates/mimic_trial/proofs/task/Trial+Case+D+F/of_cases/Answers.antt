use Rattle.std.proofs.Common.{◌≡◌, ◌∙◌, ◌++◌, ◌∷◌, [], append_assoc, append-nil, ap, length, refl, subst, sym, rules}
use Rattle.std.proofs.lemmas.List.{nil_from_length}
use Rattle.std.specs.Vec.Iter.{into_iter_items}
use Rattle.mimic_trial.specs.Case.{AreTestsOf}
use Rattle.mimic_trial.proofs.Cases.{one_more}
use Rattle.mimic_trial.proofs.task.Trial+Case+D+F.of_cases.Goals as goal

pub loop-name-preserved : goal.loop-name-preserved
loop-name-preserved g c =
    let seen = c.loop-name.yielded in
    record {
      seen = append_assoc seen ((c.in-Some.name, c.in-Some.input) ∷ []) _ ∙ (ap (λ l. seen ++ l) (sym c.in-Some.ensures.steps.0) ∙ c.loop-name.invariant.seen);
      tests = one_more g.N.AsStr.text c.args.check seen c.loop-name.trials.items c.push.new.self.items (c.in-Some.name, c.in-Some.input) c.new.result c.loop-name.invariant.tests
          (search (rules, c.new.ensures.name, c.in_ok-name.ensures.ok, c.as_str.ensures)) c.new.ensures.runner (c.new.ensures.kind, c.new.ensures.flag, c.new.ensures.sort) c.in_ok-push.ensures.items;
      check = refl;
    }

pub returns : goal.returns
returns g c =
    let none : length (into_iter_items c.loop-name.name-iterator) ≡ 0 = sym c.loop-name.name-iterator.rest.ok.0 ∙ c.in-None.ensures.steps.0 in
    let all = sym (append-nil c.loop-name.yielded) ∙ (ap (λ l. c.loop-name.yielded ++ l) (sym (nil_from_length _ none)) ∙ c.loop-name.invariant.seen) in
    subst (λ l. AreTestsOf g.N.AsStr.text c.args.check l c.loop-name.trials.items) all c.loop-name.invariant.tests
