use Rattle.std.proofs.Common.{◌∙◌, ◌∷◌, ◌++◌, [], ap, append_assoc, refl, sym}
use Rattle.mimic_reports.proofs.Showing.{one-more}
use Rattle.mimic_reports.proofs.show.rows_to_print.Goals as goal

pub loop-row-preserved : goal.loop-row-preserved
loop-row-preserved c =
    let before = c.loop-row.invariant in
    let seen = c.loop-row.yielded in
    record {
      seen = append_assoc seen (c.in-Some.row ∷ []) _ ∙ (ap (λ l. seen ++ l) (sym c.in-Some.ensures.steps.0) ∙ before.seen);
      made = one-more c.loop-row.printed.items _ _ seen c.in-Some.row refl before.made c.in_ok-push.ensures.items;
    }
