use Rattle.std.proofs.Common.{rules}
use Rattle.indexmap.specs.Entry.{map_with_value}
use Rattle.mimic_events.specs.Contents.{entry_read}
use Rattle.mimic_compare.proofs.Steps.{kept}
use Rattle.mimic_compare.proofs.trials.keep_row.Goals as goal

pub returns : goal.returns
returns g c =
    let update = c.in_ok-trials.ensures.update in
    let fates = c.push.new.self in
    search (rules, kept c.args.trials.now (map_with_value c.in_ok-trials.field-0 fates) c.args.side (entry_read c.args.row) fates, update.0 fates, update.1)
