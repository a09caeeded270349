use Rattle.std.proofs.Common.{◌≡◌, ◌∙◌, ◌||◌, ap, cond, not, rules, subst, sym, true, false, []}
use Rattle.std.proofs.lemmas.List.{take_all}
use Rattle.std.specs.List.{flat_map}
use Rattle.mimic_printer.specs.List.{list_line}
use Rattle.mimic_printer.specs.Sink.{Adds}
use Rattle.mimic_trial.specs.Trial.{info_of}
use Rattle.mimic_printer.proofs.Adding.{adds_next, adds_nothing, adds_rest}
use Rattle.mimic_printer.proofs.Listing.{asked, list_text-listed, listed_line}
use Rattle.mimic_printer.proofs.Printer.add_list.Goals as goal
use Rattle.mimic_printer.proofs.Printer.add_list.Goals.{then-not-ignored, then-not-ignored-via-then-not-ignored, then-not-ignored-via-else-not-ignored+then-info, else-not-ignored+else-info}

pub loop-trial-preserved : goal.loop-trial-preserved
loop-trial-preserved g c =
    let text = listed_line c.args.ignored in
    let info = c.info-info.result.now in
    let before = c.loop-trial.sink in
    let added : Adds g.W.Write.contents before c.if-not-ignored.sink (text info) = elim c.if-not-ignored.branch [
      | then-not-ignored w ↦
          let shows : (not c.args.ignored || info.is_ignored) ≡ true = elim w.then-not-ignored.branch [
            | then-not-ignored-via-then-not-ignored v ↦ search rules
            | then-not-ignored-via-else-not-ignored+then-info v ↦ search rules
          ] in
          rw (w.sink-is, ← asked c.args.ignored info shows) w.add_line.ensures
      | else-not-ignored+else-info w ↦
          let hides : (not c.args.ignored || info.is_ignored) ≡ false = search rules in
          rw (w.sink-is, ap (λ b. cond b (list_line info) []) hides) (adds_nothing before)
    ] in
    adds_next (λ t. text (info_of t)) c.args.tests.now c.loop-trial.trial-index c.trial-item.result c.loop-trial-test.true c.loop-trial.invariant
    (subst (Adds g.W.Write.contents before c.if-not-ignored.sink) (ap text (c.info-info.ensures ∙ ap info_of c.trial-item.is)) added)

pub returns-then-has_fault : goal.returns-then-has_fault
returns-then-has_fault g c =
    subst (Adds g.W.Write.contents c.args.sink.now c.loop-trial.sink) (list_text-listed c.args.ignored c.args.tests.now)
    (adds_rest (λ t. listed_line c.args.ignored (info_of t)) c.args.tests.now c.loop-trial.trial-index (sym c.has_fault.ensures ∙ c.if-has_fault.true) c.loop-trial.invariant)

pub returns-after-loop-trial : goal.returns-after-loop-trial
returns-after-loop-trial g c =
    let all = take_all c.loop-trial.trial-index c.args.tests.now c.loop-trial-test.false in
    subst (Adds g.W.Write.contents c.args.sink.now c.loop-trial.sink)
    (ap (flat_map (λ t. listed_line c.args.ignored (info_of t))) all ∙ list_text-listed c.args.ignored c.args.tests.now) c.loop-trial.invariant
