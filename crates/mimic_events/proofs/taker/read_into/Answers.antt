use Rattle.std.proofs.Common.{◌++◌, ◌∷◌, []}
use Rattle.mimic_printer.specs.declared.sink.OutputFault.TheVariants.{OutOfMemory}
use Rattle.mimic_events.specs.Contents.{entry_read}
use Rattle.mimic_events.proofs.Counted.{few}
use Rattle.mimic_events.proofs.Results.{on_error}
use Rattle.mimic_events.proofs.RowSteps.{is_reading, none_ended, rows_before}
use Rattle.mimic_events.proofs.taker.read_into.Goals as goal

pub returns-in_err-rows : goal.returns-in_err-rows
returns-in_err-rows g c = on_error _ OutOfMemory _ _ c.from_residual.ensures.1 ([], none_ended _, c.requires.memory [] _ c.requires.first)

pub take-requires : goal.take-requires
take-requires g c =
    let come = c.loop.invariant.come in
    let came = rw c.in-Ok-Some.field-0-is at c.in-Ok-Some.ensures.rows (g.I.Read.remaining c.args.input) come.0 come.1 in
    (c.args.taker.now, come.0, come.2, few came.bytes come.0 (entry_read c.in-Ok-Some.row) came.followed.ended)

pub returns-in_err-take-in-Ok-Some : goal.returns-in_err-take-in-Ok-Some
returns-in_err-take-in-Ok-Some g c =
    let come = c.loop.invariant.come in
    let start = g.I.Read.remaining c.args.input in
    let rows = come.0 ++ entry_read c.in-Ok-Some.row ∷ [] in
    let came = rw c.in-Ok-Some.field-0-is at c.in-Ok-Some.ensures.rows start come.0 come.1 in
    on_error _ c.in_err-take-in-Ok-Some.field-0.0 _ _ c.from_residual-in_err-take-in-Ok-Some.ensures.1
    (rows, rows_before g.I.Read.remaining start _ rows came, c.in_err-take-in-Ok-Some.ensures c.args.taker.now come.0 come.2)

pub returns-in_err-finish-in-Ok-None : goal.returns-in_err-finish-in-Ok-None
returns-in_err-finish-in-Ok-None g c =
    let come = c.loop.invariant.come in
    on_error _ OutOfMemory _ _ c.from_residual-in_err-finish-in-Ok-None.ensures.1
    (come.0, rows_before g.I.Read.remaining _ c.loop.rows come.0 come.1, c.requires.memory come.0 _ come.2)

pub returns-in-Ok-None : goal.returns-in-Ok-None
returns-in-Ok-None g c =
    let come = c.loop.invariant.come in
    let start = g.I.Read.remaining c.args.input in
    let came = rw c.in-Ok-None.field-0-is at c.in-Ok-None.ensures.rows start come.0 come.1 in
    (come.0, is_reading _ _ _ (c.in_ok-finish-in-Ok-None.ensures start come.0 came), come.2)

pub returns-in-Err-Input : goal.returns-in-Err-Input
returns-in-Err-Input g c =
    let come = c.loop.invariant.come in
    (come.0, rows_before g.I.Read.remaining _ c.loop.rows come.0 come.1, come.2)

pub returns-in-Err : goal.returns-in-Err
returns-in-Err g c =
    let come = c.loop.invariant.come in
    (come.0, rows_before g.I.Read.remaining _ c.loop.rows come.0 come.1, c.requires.memory come.0 _ come.2)

pub loop-preserved : goal.loop-preserved
loop-preserved g c =
    let come = c.loop.invariant.come in
    let rows = come.0 ++ entry_read c.in-Ok-Some.row ∷ [] in
    record {
      ready = c.in-Ok-Some.ensures.ready;
      come = (
        rows,
        rw c.in-Ok-Some.field-0-is at c.in-Ok-Some.ensures.rows (g.I.Read.remaining c.args.input) come.0 come.1,
        c.in_ok-take-in-Ok-Some.ensures c.args.taker.now come.0 come.2,
      );
    }

pub returns : goal.returns
returns g c =
    let come = c.loop.invariant.come in
    (come.0, rows_before g.I.Read.remaining _ c.loop.rows come.0 come.1, come.2)
