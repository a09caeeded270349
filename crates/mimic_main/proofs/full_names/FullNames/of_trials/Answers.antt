use Rattle.std.proofs.Common.{◌∙◌, arith, ◌++◌, ◌∷◌, [], ap, sym, take}
use Rattle.std.proofs.lemmas.List.{map-append, take_more}
use Rattle.libtest_mimic.specs.Prelude.{info_of, Trial}
use Rattle.mimic_main.specs.FullNames.{full_name_of, full_names_of}
use Rattle.mimic_main.proofs.FullNames.{one_more}
use Rattle.mimic_main.proofs.full_names.FullNames.of_trials.Goals as goal

pub loop-trial-preserved : goal.loop-trial-preserved
loop-trial-preserved g c =
    let was = c.loop-trial.invariant in
    let name = full_name_of c.info.result.now in
    let seen = take c.loop-trial.trial-index c.args.trials.now in
    let more = one_more c.loop-trial.names.items name c.push_full_name.new.names.items c.loop-trial.ends.items c.push.new.self.items c.len.result
    was.are c.in_ok-push_full_name.ensures (c.len.ensures ∙ c.push_full_name.new.names.ok.0) c.in_ok-push.ensures.items in
    let next = take_more c.args.trials.now c.loop-trial.trial-index c.trial-item.result (omega (arith, c.loop-trial-test.true)) in
    let names =
    ap (λ info. full_names_of seen ++ full_name_of info ∷ []) c.info.ensures
    ∙ sym (map-append (λ (t : Trial _). full_name_of (info_of t)) seen (c.trial-item.result ∷ []))
    ∙ ap (λ (t : Trial _). full_names_of (seen ++ t ∷ [])) c.trial-item.is ∙ ap full_names_of (sym next) in
    record { are = more.0; parts = more.1 ∙ ap (λ l. l ++ name ∷ []) was.parts ∙ names }
