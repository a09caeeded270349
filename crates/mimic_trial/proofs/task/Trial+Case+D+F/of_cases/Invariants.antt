use Rattle.std.proofs.Common.{◌≡◌, ◌++◌}
use Rattle.std.specs.Vec.Iter.{into_iter_items}
use Rattle.mimic_trial.specs.Case.{AreTestsOf}
use Rattle.mimic_trial.proofs.task.Trial+Case+D+F.of_cases.Given as goal

abbrev pub invariant-loop-name : goal.invariant-loop-name
invariant-loop-name g l = record {
  seen : l.yielded ++ into_iter_items l.name-iterator ≡ l.fn.cases.items;
  tests : AreTestsOf g.N.AsStr.text l.fn.check l.yielded l.trials.items;
  check : l.check ≡ l.fn.check;
}
