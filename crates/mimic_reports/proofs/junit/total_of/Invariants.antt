-- The numbers of the reports so far, none above 2^64 a report.
use Rattle.std.proofs.Common.{◌≡◌, ◌*◌, ◌^◌, map, take}
use Rattle.mimic_reports.specs.Junit.{numbers_of, total}
use Rattle.mimic_reports.specs.Suites.{AreWithin}
use Rattle.mimic_reports.proofs.junit.total_of.Given as goal

abbrev pub invariant-loop-suite : goal.invariant-loop-suite
invariant-loop-suite l = record {
  numbers : l.all ≡ total (map numbers_of (take l.suite-index l.suites));
  within : AreWithin (l.suite-index * 2 ^ 64) l.all;
}
