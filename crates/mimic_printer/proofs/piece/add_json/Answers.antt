use Rattle.std.proofs.Common.{◌∙◌, ◌+◌, arith}
use Rattle.mimic_printer.proofs.Escaping.{added_more, added_rest, json_split, shorter}
use Rattle.mimic_trial.proofs.Escapes.{escaped-plain}
use Rattle.mimic_printer.proofs.piece.add_json.Goals as goal

pub loop-at-preserved : goal.loop-at-preserved
loop-at-preserved g c =
    let found = c.in-Some.ensures in
    let spelled = c.as_bytes.ensures.value ∙ c.as_str.ensures.text ∙ c.escape_byte.ensures in
    let rest = c.loop-at.rest.now in
    record {
      within = omega (arith, shorter rest (c.in-Some.at + 1), c.loop-at.invariant.within);
      so_far = added_more (json_split rest c.in-Some.at found.0 found.2) c.loop-at.invariant.so_far c.add.ensures (rw spelled at c.add-in-Some.ensures);
    }

pub returns : goal.returns
returns g c = added_rest (escaped-plain _ c.in_default.ensures) c.loop-at.invariant.so_far c.add-2.ensures
