use Rattle.std.proofs.Common.{◌+◌, ◌∙◌, ap, arith, length, sym}
use Rattle.std.specs.Str.{chars}
use Rattle.mimic_trial.specs.Text.{kind_part}
use Rattle.mimic_printer.proofs.Characters.{brackets_short, kind_part_chars, length-chars-le, text_small}
use Rattle.mimic_printer.proofs.columns.kind_len.Goals as goal

pub overflow_add-result : goal.overflow_add-result
overflow_add-result c =
    let few = length-chars-le c.as_str-kind.result.now c.as_str-kind.utf8 in
    let same = ap length c.as_str-kind.ensures.value in
    let short = brackets_short c.brackets.result.0.now c.as_str-kind.result.now c.brackets.result.1.now c.brackets.ensures.shown in
    omega (arith, few, same, short, text_small c.args.info.now.kind, c.char_count.ensures)

pub overflow_add-result-2 : goal.overflow_add-result-2
overflow_add-result-2 c =
    let few = length-chars-le c.as_str-kind.result.now c.as_str-kind.utf8 in
    let same = ap length c.as_str-kind.ensures.value in
    let short = brackets_short c.brackets.result.0.now c.as_str-kind.result.now c.brackets.result.1.now c.brackets.ensures.shown in
    omega (arith, few, same, short, text_small c.args.info.now.kind, c.char_count.ensures)

pub returns : goal.returns
returns c =
    let front = c.brackets.result.0.now in
    let back = c.brackets.result.1.now in
    ap (λ n. length front + n + length back) c.char_count.ensures
    ∙ sym (kind_part_chars front c.as_str-kind.result.now back c.as_str-kind.utf8 c.brackets.ensures.shown)
    ∙ ap (λ kind. length (chars (kind_part kind))) c.as_str-kind.ensures.value
