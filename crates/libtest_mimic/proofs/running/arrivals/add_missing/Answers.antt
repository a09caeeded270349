use Rattle.std.proofs.Common.{[], ◌≡◌, ◌+◌, ◌-◌, ◌<◌, ℕ, ap, arith, drop, length, map, refl, rules, subst, sym, take}
use Rattle.std.proofs.lemmas.List.{length-drop, length-map, take_all}
use Rattle.libtest_mimic.specs.Prelude.{AddsRows, AreTimed, is_timed, IsTimed, label_of, Placed, PrintedRow, row_of, rows_at, timed_row}
use Rattle.mimic_printer.proofs.Adding.{adds_nothing}
use Rattle.libtest_mimic.proofs.ArrivedRows.{count_rows_at, next_added, place_below, row_from, shown_time}
use Rattle.libtest_mimic.proofs.running.arrivals.add_missing.Goals as goal

pub loop-number-init : goal.loop-number-init
loop-number-init g c =
    let none : c.args.first - c.args.first ≡ 0 = omega arith in
    let P : ℕ → Type 0 = λ n. AddsRows g.W.Write.contents c.args.printer.now (AreTimed (is_timed c.args.inbox.now) (take n (drop c.args.first (rows_at (map label_of c.args.infos.now) c.args.desk.now.rows)))) c.args.sink.now c.args.sink.now in
    record { from = search rules; added = subst P (sym none) ([], tt, adds_nothing c.args.sink.now) }

pub offset_bounds-infos-place : goal.offset_bounds-infos-place
offset_bounds-infos-place g c =
    let low = place_below _ _ c.loop-number.number _ c.requires.places c.row-place.ensures in search rules

pub bounds-infos-place : goal.bounds-infos-place
bounds-infos-place g c = place_below _ _ c.loop-number.number _ c.requires.places c.row-place.ensures

pub loop-number-preserved : goal.loop-number-preserved
loop-number-preserved g c =
    let asked = is_timed c.args.inbox.now in
    let rows = rows_at (map label_of c.args.infos.now) c.args.desk.now.rows in
    let info = c.index-infos-place.result in
    let o = c.row-place.result.1.now in
    let low = place_below _ _ c.loop-number.number _ c.requires.places c.row-place.ensures in
    let row = row_from c.args.infos.now c.args.desk.now.rows c.loop-number.number _ _ info c.row-place.ensures low c.index-infos-place.is c.args.first (row_of info o) c.loop-number.invariant.from in
    let within : c.loop-number.number - c.args.first < length (drop c.args.first rows) = omega (arith, c.loop-number.invariant.from, c.loop-number-test.true, ap length c.order-number-end.ensures.places, length-map c.args.desk.now.rows (λ (r : Placed). r.0), length-drop c.args.first rows, count_rows_at (map label_of c.args.infos.now) c.args.desk.now.rows) in
    let fits = shown_time asked _ _ o c.time_shown-nanos.result c.time.ensures refl c.time_shown-nanos.ensures in
    let printed : PrintedRow = timed_row info o c.time_shown-nanos.result in
    let P : PrintedRow → Type 0 = λ plain. IsTimed asked plain printed in
    let next = next_added asked c.args.printer.now (drop c.args.first rows) (c.loop-number.number - c.args.first) (row_of info o) printed within (subst P row (record { label = refl; outcome = refl; time = fits })) c.loop-number.invariant.added c.add_row.ensures in
    let more : c.loop-number.number - c.args.first + 1 ≡ c.loop-number.number + 1 - c.args.first = omega (arith, c.loop-number.invariant.from) in
    let Q : ℕ → Type 0 = λ n. AddsRows g.W.Write.contents c.args.printer.now (AreTimed asked (take n (drop c.args.first rows))) c.args.sink.now c.add_row.new.sink in
    record { from = omega (arith, c.loop-number.invariant.from); added = subst Q more next }

pub returns : goal.returns
returns g c =
    let asked = is_timed c.args.inbox.now in
    let rows = rows_at (map label_of c.args.infos.now) c.args.desk.now.rows in
    let written = c.loop-number.invariant.added in
    let all = take_all (c.loop-number.number - c.args.first) (drop c.args.first rows) (omega (arith, c.loop-number-test.false, ap length c.order-number-end.ensures.places, length-map c.args.desk.now.rows (λ (r : Placed). r.0), length-drop c.args.first rows, count_rows_at (map label_of c.args.infos.now) c.args.desk.now.rows)) in
    (written.0, subst (λ l. AreTimed asked l written.0) all written.1, written.2)
