use Rattle.std.proofs.Common.{◌∙◌, ◌++◌, ◌∷◌, [], ap, fold, map, subst}
use Rattle.std.proofs.lemmas.Result.{IfOk-weaker}
use Rattle.mimic_args.specs.CommandLine.{AddsLocal, declared_of, flags, named_flag, plus, valued}
use Rattle.mimic_args.proofs.Declaring.{adds-more, options-in_turn, options-none}
use Rattle.mimic_args.proofs.command_line.command_of.Goals as goal

pub returns : goal.returns
returns c =
    let start = c.new.result in
    let none = options-none start _ c.new.ensures.app c.new.ensures.empty.0 in
    let made = c.in_ok-add_valued.ensures in
    let declared = flags (declared_of c.args.test) (declared_of c.args.quiet) ++ valued made.0 made.1 made.2 in
    let all = c.add_valued.new.args.items in
    let first = subst (λ l. AddsLocal c.in_ok-args.args.items (map named_flag l ++ declared_of c.args.test ∷ []) c.add_flags.new.args.items) c.as_slice.ensures
    c.in_ok-add_flags.ensures in
    let second = subst (λ l. AddsLocal c.add_flags.new.args.items (map named_flag l ++ declared_of c.args.quiet ∷ []) c.add_flags-2.new.args.items) c.as_slice-2.ensures
    c.in_ok-add_flags-2.ensures in
    let added = subst (λ l. AddsLocal l declared all) c.in_ok-args.ensures.items (adds-more first (adds-more second made.4)) in
    IfOk-weaker c.args-2.result _ _
    (λ r h. (made.0, made.1, made.2, made.3, options-in_turn all start r h added ∙ ap (λ o. fold plus o declared) none)) c.args-2.ensures
