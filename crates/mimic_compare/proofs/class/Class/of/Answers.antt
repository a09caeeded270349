use Rattle.std.proofs.Common.{◌≡◌, ◌∙◌, ap, arith, rules, sym}
use Rattle.mimic_compare.specs.Classes.{failures}
use Rattle.mimic_compare.proofs.Counting.{none_other}
use Rattle.mimic_compare.proofs.class.Class.of.Goals as goal

pub returns-then-new_failed-eq0 : goal.returns-then-new_failed-eq0
returns-then-new_failed-eq0 g c =
    let old : c.failed_in-old_failed.result ≡ failures c.args.fates.now.old = c.failed_in-old_failed.ensures ∙ ap failures c.as_slice-old.ensures in
    let new : c.failed_in-new_failed.result ≡ failures c.args.fates.now.new = c.failed_in-new_failed.ensures ∙ ap failures c.as_slice-new.ensures in
    let few : c.failed_in-old_failed.result ≡ 0 = omega (arith, c.if-new_ignored-old_ignored.false.0, c.if-new_failed-eq0.true) in
    let none = none_other c.args.fates.now.old c.args.fates.now.new (sym old ∙ few) (sym new ∙ c.if-new_failed-eq0.true) in
    search (rules, none)
