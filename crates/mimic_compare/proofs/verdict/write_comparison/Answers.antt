use Rattle.std.proofs.Common.{◌≡◌, ◌∙◌, cond, false, not, true, List, [], ap, ap₂, arith, refl, rules, sym}
use Rattle.std.specs.Prelude.{◌&&◌}
use Rattle.std.proofs.lemmas.List.Sorted.{IsPermutation-refl}
use Rattle.mimic_printer.specs.Sink.{shown}
use Rattle.mimic_printer.proofs.Adding.{puts_added}
use Rattle.mimic_printer.proofs.Appending.{Put-refl}
use Rattle.mimic_printer.specs.declared.sink.OutputFault.TheVariants.{Write}
use Rattle.mimic_events.specs.Readings.{InputRead, has_all}
use Rattle.mimic_events.proofs.Results.{at_fault}
use Rattle.mimic_compare.specs.Classes.{Compared, comparisons}
use Rattle.mimic_compare.specs.Text.{comparison_text}
use Rattle.mimic_compare.specs.Written.{Comparing, LeavesComparison, found_in, has_title, shows_nothing, text_of, verdict_of, verdict_on}
use Rattle.mimic_compare.proofs.Found.{found_both, none_kept}
use Rattle.mimic_compare.proofs.verdict.write_comparison.Given.{Over}
use Rattle.mimic_compare.proofs.verdict.write_comparison.Goals.{After-end}
use Rattle.mimic_compare.proofs.verdict.write_comparison.Goals as goal

-- what is reported of all rows
abbrev all_of : InputRead → InputRead → List Compared
all_of before after = comparisons (has_all before.ending && has_all after.ending) before.entries after.entries

-- what was compared, what is printed of it, and the verdict
whole : (g : Over) (c : After-end g) → (w : Comparing g.I.Read.remaining c.args.old c.args.new c.args.options.now)
    × (comparison_text c.args.options.now.lists_not_run c.deref-2.result.now c.deref-3.result.now ≡ text_of w)
    × (verdict_on c.in_ok-found.found.items c.in_ok-old.old c.in_ok-new.new ≡ verdict_of w.before w.after)
whole g c =
    let before : InputRead = record { entries = c.in_ok-old.ensures.0; ending = c.in_ok-old.old } in
    let after : InputRead = record { entries = c.in_ok-new.ensures.0; ending = c.in_ok-new.new } in
    let some : shows_nothing before ≡ false =
    ap (λ none. none && not (has_title before.ending)) (sym (none_kept _ _ before.entries c.with_hasher.ensures.empty c.in_ok-old.ensures.2.1))
    ∙ sym c.shows_nothing-is_refused.ensures ∙ c.if-is_refused.false in
    let judged : c.if-has_all.compare_trials ≡ (has_all before.ending && has_all after.ending) = search rules in
    let found : c.in_ok-found.found.items ≡ found_in before after =
    found_both _ _ _ before.entries after.entries _ c.in_ok-found.found.items c.with_hasher.ensures.empty c.in_ok-old.ensures.2.1 c.in_ok-new.ensures.2.1 c.in_ok-found.ensures
    ∙ ap (λ b. comparisons b before.entries after.entries) judged
    ∙ sym (ap (λ none. cond none [] (all_of before after)) some) in (
      record {
        before = before;
        after = after;
        is_old = c.in_ok-old.ensures.1;
        is_new = c.in_ok-new.ensures.1;
        ranked = c.in_ok-changes.changes.items;
        order = rw (c.deref.ensures.value, found) at c.in_ok-changes.ensures;
      },
      ap₂ (comparison_text c.args.options.now.lists_not_run) (c.deref-2.ensures.value ∙ found) c.deref-3.ensures.value
          ∙ sym (ap (λ none. cond none [] (comparison_text c.args.options.now.lists_not_run (found_in before after) c.in_ok-changes.changes.items)) some),
      ap (λ all. verdict_on all c.in_ok-old.old c.in_ok-new.new) found,
    )

pub returns-in_err-end-clause-written : goal.returns-in_err-end-clause-written
returns-in_err-end-clause-written g c =
    let w = whole g (goal.at.returns-in_err-end-clause-written g c).After-end in
    at_fault
    (LeavesComparison g.I.Read.remaining c.args.old c.args.new c.args.options.now (shown g.W.Write.contents c.args.sink.now) (shown g.W.Write.contents c.end.new.self))
    c.from_residual-in_err-end.result (Write c.in_err-end.field-0.0) c.from_residual-in_err-end.ensures.1
    (w.0, rw w.1 at (puts_added _ _ c.add_comparison.ensures c.in_err-end.ensures))

pub returns-then-is_refused-clause-written : goal.returns-then-is_refused-clause-written
returns-then-is_refused-clause-written g c =
    let before : InputRead = record { entries = c.in_ok-old.ensures.0; ending = c.in_ok-old.old } in
    let after : InputRead = record { entries = c.in_ok-new.ensures.0; ending = c.in_ok-new.new } in
    let nothing : shows_nothing before ≡ true =
    ap (λ none. none && not (has_title before.ending)) (sym (none_kept _ _ before.entries c.with_hasher.ensures.empty c.in_ok-old.ensures.2.1))
    ∙ sym c.shows_nothing-is_refused.ensures ∙ c.if-is_refused.true in
    let none : found_in before after ≡ [] = ap (λ b. cond b [] (all_of before after)) nothing in (
      record {
        before = before;
        after = after;
        is_old = c.in_ok-old.ensures.1;
        is_new = c.in_ok-new.ensures.1;
        ranked = [];
        order = rw none record { same = IsPermutation-refl []; falling = λ k d low high. absurd (omega arith); stable = λ x. refl };
      },
      rw nothing (Put-refl _),
      c.on.ensures ∙ ap (λ all. verdict_on all c.in_ok-old.old c.in_ok-new.new) (sym none),
    )

pub returns-clause-written : goal.returns-clause-written
returns-clause-written g c =
    let w = whole g (goal.at.returns-clause-written g c).After-end in (
      w.0,
      rw w.1 at (puts_added _ _ c.add_comparison.ensures c.in_ok-end.ensures),
      rw (c.on-2.ensures, c.deref-4.ensures.value) w.2,
    )
