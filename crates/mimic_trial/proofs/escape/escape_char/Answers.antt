use Rattle.mimic_trial.proofs.Escapes.{escapes_characters}
use Rattle.mimic_trial.proofs.escape.escape_char.Goals as goal

pub returns-then-is_ascii-clause-law : goal.returns-then-is_ascii-clause-law
returns-then-is_ascii-clause-law c = escapes_characters

pub returns-else-is_ascii-clause-law : goal.returns-else-is_ascii-clause-law
returns-else-is_ascii-clause-law c = escapes_characters
