use Rattle.std.proofs.Common.{◌∙◌, sym}
use Rattle.std.proofs.Math.Bool.{or-false}
use Rattle.mimic_expect.proofs.Judged.{not_failed}
use Rattle.mimic_expect.proofs.judge.Judge.matters.Goals as goal

pub returns-in_default : goal.returns-in_default
returns-in_default g c = rw (not_failed _ c.in_default.not-Failed) (c.knows.ensures ∙ sym (or-false _))
