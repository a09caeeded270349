use Rattle.std.proofs.Common.{◌∙◌, ◌++◌, ◌∷◌, [], ap, sym}
use Rattle.std.proofs.lemmas.List.{map-append}
use Rattle.libtest_mimic.specs.Prelude.{counted, is_failed, row_of, rows_from}
use Rattle.mimic_printer.proofs.FailedRows.{failed-push}
use Rattle.libtest_mimic.proofs.RowsInOrder.{counts-row}
use Rattle.libtest_mimic.proofs.running.tally.Tally.record.Goals as goal

pub returns-in-Failed-clause-counted : goal.returns-in-Failed-clause-counted
returns-in-Failed-clause-counted c filtered_out rows h =
    let t = c.args.self.now in
    let row = row_of c.args.info c.args.outcome in
    record {
      counts = c.count.ensures ∙ ap (λ x. counted x c.args.outcome) h.counts ∙ sym (counts-row rows row filtered_out);
      failed = ap rows_from c.push_reserved.ensures.items
          ∙ map-append (λ p. row_of p.0 p.1) t.failures.items ((c.args.info, c.args.outcome) ∷ [])
          ∙ ap (λ l. l ++ row ∷ []) h.failed ∙ sym (failed-push rows row (ap is_failed c.in-Failed.is));
    }
