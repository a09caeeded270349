-- What contracts see of a failure: an optional text.
use Rattle.std.specs.Prelude.{ℕ, Bool, true, false, List, Option, None, Some, codes, string_bytes, nat_eq}
use lib.Pointwise.{pointwise}
use Rattle.mimic_trial.specs.declared.outcome.failed.Message.{Message}
use Rattle.mimic_trial.specs.declared.outcome.failed.Message.TheVariants.{Nothing, NotMeasured, OutOfMemory, Text}

-- the message of a benchmark that returned `Ok(None)` in bench mode (the Rust crate's)
abbrev pub not_measured_text : List ℕ
not_measured_text = codes "bench runner returned `Ok(None)` in bench mode"

-- the message of a trial for which an allocation failed (our own)
abbrev pub out_of_memory_text : List ℕ
out_of_memory_text = codes "out of memory"

-- the text of a message, whichever way it is kept
abbrev pub message_text : Message → Option (List ℕ)
message_text Nothing = None
message_text NotMeasured = Some not_measured_text
message_text OutOfMemory = Some out_of_memory_text
message_text (Text s) = Some (string_bytes s)

-- two optional texts are the same
abbrev pub same_text : Option (List ℕ) → Option (List ℕ) → Bool
same_text None None = true
same_text None (Some b) = false
same_text (Some a) None = false
same_text (Some a) (Some b) = pointwise nat_eq a b
