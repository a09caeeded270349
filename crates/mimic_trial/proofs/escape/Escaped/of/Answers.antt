use Rattle.std.proofs.Common.{ap, ◌∙◌, length}
use Rattle.std.proofs.lemmas.List.{take_at}
use Rattle.std.proofs.lemmas.Str.{is_utf8-from_IsUtf8}
use Rattle.std.specs.Str.{is_utf8}
use Rattle.mimic_trial.proofs.escape.Escaped.of.Goals as goal

pub invariant_of-result : goal.invariant_of-result
invariant_of-result c =
    let copied = c.copy_from_slice.ensures.after ∙ c.as_bytes.ensures.value in
    (c.requires, ap is_utf8 (take_at c.copy_from_slice.new.self _ _ (ap length copied) ∙ copied) ∙ is_utf8-from_IsUtf8 _ c.utf8.text)
