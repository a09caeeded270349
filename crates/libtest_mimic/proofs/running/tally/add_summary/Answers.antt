use Rattle.mimic_printer.proofs.Adding.{adds_last}
use Rattle.libtest_mimic.proofs.WholeReport.{told}
use Rattle.libtest_mimic.proofs.running.tally.add_summary.Goals as goal

pub returns : goal.returns
returns g c = record {
  nanos = c.unwrap_or-nanos.result;
  elapsed = told c.args.watch.now c.stop.new.self c.stop.ensures c.elapsed.result c.unwrap_or-nanos.result c.elapsed.ensures c.unwrap_or-nanos.ensures;
  fits = c.unwrap_or-nanos.type_inv;
  text = adds_last _ c.add_summary.ensures c.add_flush.ensures;
}
