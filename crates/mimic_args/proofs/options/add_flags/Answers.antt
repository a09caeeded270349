use Rattle.std.proofs.Common.{◌∙◌, ◌∷◌, [], ap, append-nil, get_or, map, refl, subst, sym, take}
use Rattle.std.proofs.lemmas.List.{map-append, take_all, take_more}
use Rattle.std.proofs.lemmas.Result.{IfOk-weaker}
use Rattle.mimic_args.specs.CommandLine.{AddsLocal, behind, named_flag}
use Rattle.mimic_args.proofs.Declaring.{adds-more, adds-one}
use Rattle.mimic_args.proofs.options.add_flags.Goals as goal

pub loop-name-init : goal.loop-name-init
loop-name-init c = record { same = sym (append-nil _) }

pub loop-name-preserved : goal.loop-name-preserved
loop-name-preserved c =
    let named = c.args.named.now in
    let index = c.loop-name.name-index in
    let flag = get_or named index (behind [], behind []) in
    let seen = ap (map named_flag) (take_more named index _ c.loop-name-test.true) ∙ map-append named_flag (take index named) (flag ∷ []) in
    subst (λ l. AddsLocal c.args.args.now.items l c.add.new.args.items) (sym seen)
    (adds-more c.loop-name.invariant (adds-one c.flag.result c.in_ok-add.ensures c.flag.ensures.declared c.flag.ensures.local))

pub returns : goal.returns
returns c =
    let named = subst (λ l. AddsLocal c.args.args.now.items (map named_flag l) c.loop-name.args.items) (take_all _ c.args.named.now c.loop-name-test.false)
    c.loop-name.invariant in
    IfOk-weaker c.add-2.result _ _ (λ _ h. adds-more named (adds-one c.args.last h refl c.requires)) c.add-2.ensures
