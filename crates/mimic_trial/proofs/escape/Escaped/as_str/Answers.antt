use Rattle.std.proofs.Common.{take}
use Rattle.std.proofs.lemmas.Str.{IsUtf8-from_is_utf8}
use Rattle.mimic_trial.proofs.Grouping.{utf8_ok}
use Rattle.mimic_trial.proofs.escape.Escaped.as_str.Goals as goal

pub unwrap-requires : goal.unwrap-requires
unwrap-requires c =
    utf8_ok _ c.from_utf8.result (take c.self.inside.len c.self.inside.bytes) c.from_utf8.ensures.cases
    (IsUtf8-from_is_utf8 _ c.self.invariant.1)
