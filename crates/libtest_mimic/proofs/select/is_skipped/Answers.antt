use Rattle.libtest_mimic.proofs.select.is_skipped.Goals as goal

pub returns : goal.returns
returns g c = rw c.deref.ensures.value at c.matches_one.ensures
