use Rattle.std.proofs.Common.{◌∙◌, Some, ap, rules}
use Rattle.libtest_mimic.specs.Prelude.{row_of}
use Rattle.libtest_mimic.proofs.ArrivedRows.{place_below, row_by_info}
use Rattle.libtest_mimic.proofs.running.in_workers.DeskRowsShownRows.row.Goals as goal

pub offset_bounds-self-place : goal.offset_bounds-self-place
offset_bounds-self-place c =
    let low = place_below _ _ c.args.number _ c.requires.can_show c.row-place.ensures in search rules

pub bounds-self-place : goal.bounds-self-place
bounds-self-place c = place_below _ _ c.args.number _ c.requires.can_show c.row-place.ensures

pub returns : goal.returns
returns c =
    let low = place_below _ _ c.args.number _ c.requires.can_show c.row-place.ensures in
    row_by_info c.args.self.now.infos.now c.args.self.now.desk.now.rows c.args.number c.row-place.result.0 c.row-place.result.1.now c.index-self-place.result c.row-place.ensures low c.index-self-place.is
    ∙ ap (λ info. Some (row_of info c.row-place.result.1.now)) c.index-self-place.is
