use Rattle.std.proofs.Common.{◌∙◌, ◌∷◌, ◌++◌, [], ap, append_assoc, sym}
use Rattle.mimic_reports.proofs.Showing.{one-named}
use Rattle.mimic_reports.proofs.show.with_full_names.Goals as goal

pub loop-row-preserved : goal.loop-row-preserved
loop-row-preserved c =
    let before = c.loop-row.invariant in
    let seen = c.loop-row.yielded in
    record {
      seen = append_assoc seen (c.in-Some.row ∷ []) _ ∙ (ap (λ l. seen ++ l) (sym c.in-Some.ensures.steps.0) ∙ before.seen);
      made = one-named c.loop-row.named.items _ _ seen c.in-Some.row c.in_ok-with_full_name.ensures before.made c.in_ok-push.ensures.items;
    }
