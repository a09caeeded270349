-- What a request asks for.
use Rattle.std.specs.Prelude.{◌≡◌}
use Rattle.mimic_trial.specs.Promise.{Gives}
use Rattle.libtest_mimic.specs.declared.request.Request.{Request}
use Rattle.libtest_mimic.specs.declared.request.Selection.{Selection}
use Rattle.libtest_mimic.specs.Selection.{IsSelection}
use Rattle.libtest_mimic.specs.Suite.{Asked, asking, filtered_out_of}

-- these are the trials that the arguments select of those that were handed in, and how many others there were
pub record IsSelected {R : Type 0} (selection : Selection R) : Type 0 where
  pub selected : IsSelection selection.args.now selection.handed_in.value.items selection.trials.items
  pub others : selection.filtered_out ≡ filtered_out_of selection.handed_in.value.items selection.trials.items

-- what is asked by a request, of a run of such trials
abbrev pub asked_by : {R : Type 0} → Gives R → Request R → Asked R
asked_by gives request =
    asking gives request.default_threads request.auto_colours request.selection.handed_in.value.items request.selection.args.now
