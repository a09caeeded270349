use Rattle.std.proofs.Common.{◌≡◌, ℕ, Err, false, IfOk, inl, List, Ok, Result}
use Rattle.libtest_mimic.specs.Prelude.{Gives, Trial}
use Rattle.mimic_args.specs.declared.error.ArgumentsError.TheVariants.{OutOfMemory}
use Rattle.mimic_main.specs.Ended.{EndsByLine}
use Rattle.mimic_main.specs.declared.sharding.ShardError.TheVariants as ShardError
use Rattle.mimic_main.proofs.entry.run_program.Goals as goal

-- a program that is refused before it reads its line ends as one that has no memory for that
ends_unread : {R : Type 0} (gives : Gives R) (trials : List (Trial R)) (status : ℕ) → status ≡ 1 → EndsByLine gives trials status
ends_unread gives trials status e = record {
  line = Err OutOfMemory;
  read = tt;
  sharding = Err ShardError.OutOfMemory;
  variables = inl tt;
  threads = 0;
  auto = false;
  ends = e;
}

of_any : {A E : Type 0} (P : A → Type 0) (r : Result A E) → ((x : A) → P x) → IfOk r P
of_any P (Ok x) all = all x
of_any P (Err e) all = tt

pub returns-in-Err-clause-made : goal.returns-in-Err-clause-made
returns-in-Err-clause-made g c =
    of_any _ c.args.tests (λ made. ends_unread g.R.Task.gives made.items _ c.in-Err.ensures)
