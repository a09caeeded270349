use Rattle.std.proofs.Common.{rules, ◌≡◌, ◌∙◌, ap, subst, take, sym, decimal}
use Rattle.std.specs.Str.{IsUtf8}
use Rattle.std.proofs.lemmas.Fmt.{decimal_is_IsNumeral}
use Rattle.std.proofs.lemmas.Str.{IsUtf8-from_ascii}
use Rattle.mimic_trial.specs.Text.{grouped, without_commas}
use Rattle.mimic_trial.proofs.Grouping.{utf8_ok, IsAscii-grouped, without_commas-grouped}
use Rattle.mimic_trial.proofs.text.thousands.Goals as goal

pub unwrap-requires : goal.unwrap-requires
unwrap-requires c =
    let digits = c.as_bytes.ensures.value in
    utf8_ok _ c.from_utf8.result (take c.write_grouped-len.result c.write_grouped-len.new.buf) c.from_utf8.ensures.cases
    (subst IsUtf8 (sym (c.write_grouped-len.ensures.written ∙ ap grouped digits))
    (IsUtf8-from_ascii _ (IsAscii-grouped _ c.format.ensures.ascii)))

pub returns-clause-digits : goal.returns-clause-digits
returns-clause-digits c =
    let text : c.unwrap.result.now ≡ grouped (decimal c.args.v) = search rules in
    ap without_commas text ∙ without_commas-grouped (decimal c.args.v) (decimal_is_IsNumeral c.args.v c.ranges.v.fits).0.1
