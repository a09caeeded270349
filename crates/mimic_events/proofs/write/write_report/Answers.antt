use Rattle.std.proofs.Common.{◌≡◌, arith, length, rules}
use Rattle.mimic_printer.proofs.Adding.{puts_added}
use Rattle.mimic_events.specs.Contents.{Spells}
use Rattle.mimic_events.proofs.Writing.{all_added, on_ended, read_as, same_counts, spells}
use Rattle.mimic_events.proofs.write.write_report.Goals as goal

pub returns-clause-written : goal.returns-clause-written
returns-clause-written g c =
    let count : c.len.result ≡ length c.args.report.now.rows.items = search rules in
    puts_added _ c.end.result
    (all_added c.args.report.now c.len.result c.deref.result.now c.counts_of_rows.result count c.deref.ensures.value
    (same_counts c.args.report.now _ c.counts_of_rows.result c.deref-2.ensures.value c.counts_of_rows.ensures)
    c.add_title.ensures c.add_rows.ensures.written c.add_summary.ensures)
    c.end.ensures

pub returns-clause-spelled : goal.returns-clause-spelled
returns-clause-spelled g c =
    on_ended c.add_summary.ensures c.end.ensures _ (λ e. spells c.args.report.now _ c.deref.ensures.value (c.add_rows.ensures.fits e) (omega arith) (omega arith))

pub returns-clause-reads_back : goal.returns-clause-reads_back
returns-clause-reads_back g c =
    on_ended c.add_summary.ensures c.end.ensures _
    (λ e. read_as Spells _ _ (spells c.args.report.now _ c.deref.ensures.value (c.add_rows.ensures.fits e) (omega arith) (omega arith)))
