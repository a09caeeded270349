use Rattle.std.proofs.Common.{◌∙◌, ◌||◌, ap₂, sym}
use Rattle.std.proofs.lemmas.List.Folds.{list_any_at, list_any_more}
use Rattle.mimic_compare.specs.Classes.{is_other}
use Rattle.mimic_compare.proofs.messages.are_other.Goals as goal

pub returns-then-is_other : goal.returns-then-is_other
returns-then-is_other g c = λ before after old new.
    sym (list_any_at (is_other before after) c.args.fates.now c.loop-fate.fate-index c.fate-item.result c.loop-fate-test.true
    (rw (← c.fate-item.is) (sym (c.is_other.ensures before after old new) ∙ c.if-is_other.true)))

pub loop-fate-preserved : goal.loop-fate-preserved
loop-fate-preserved g c = λ before after old new.
    rw (list_any_more (is_other before after) c.args.fates.now c.loop-fate.fate-index c.fate-item.result c.loop-fate-test.true, ← c.fate-item.is)
    (ap₂ (λ x y. x || y) (c.loop-fate.invariant before after old new) (sym (c.is_other.ensures before after old new) ∙ c.if-is_other.false))
