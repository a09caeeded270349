use Rattle.libtest_mimic.specs.Prelude.{asked_by, shown}
use Rattle.mimic_main.specs.Output.{given_to}
use Rattle.mimic_main.proofs.HandedOn.{GotBeginning-from, Ran-settled, lawful_settled, shown-new}
use Rattle.mimic_main.proofs.run.run_buffered.Goals as goal

pub returns-clause-ran : goal.returns-clause-ran
returns-clause-ran g c =
    let bytes = given_to g.W.Write.contents in
    let ran = c.run_request-ran.ensures in
    let first = shown-new bytes c.new-sink.result c.args.output c.new-sink.ensures.writer c.new-sink.ensures.faults in
    let handed = rw c.into_inner.ensures at c.finish-writer.ensures.whole in
    Ran-settled (asked_by g.R.Task.gives c.args.request) c.run_request-ran.new.watch (bytes c.args.output) (shown bytes c.new-sink.result)
    (shown bytes c.run_request-ran.new.sink) (g.W.Write.contents c.finish-writer.result.0) c.run_request-ran.result c.settled.result c.finish-writer.result.1
    first handed c.settled.ensures.answered c.settled.ensures.finished (record { listed = ran.runs.listed; watched = ran.runs.watched; reported = ran.reported })

pub returns-clause-beginning : goal.returns-clause-beginning
returns-clause-beginning g c =
    let bytes = given_to g.W.Write.contents in
    let ran = c.run_request-ran.ensures in
    let first = shown-new bytes c.new-sink.result c.args.output c.new-sink.ensures.writer c.new-sink.ensures.faults in
    let handed = rw c.into_inner.ensures at c.finish-writer.ensures.beginning in
    let settled = c.settled.ensures in
    GotBeginning-from (asked_by g.R.Task.gives c.args.request) c.run_request-ran.new.watch (bytes c.args.output) (shown bytes c.new-sink.result)
    (shown bytes c.run_request-ran.new.sink) (g.W.Write.contents c.finish-writer.result.0) c.run_request-ran.result c.settled.result c.finish-writer.result.1
    first handed settled.refused settled.kept settled.cause (record { listed = ran.runs.listed; watched = ran.runs.watched; reported = ran.reported })

pub returns-clause-lawful : goal.returns-clause-lawful
returns-clause-lawful g c = lawful_settled (asked_by g.R.Task.gives c.args.request) _ c.settled.result c.settled.ensures.answered c.run_request-ran.ensures.runs
