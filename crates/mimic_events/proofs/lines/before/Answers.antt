use Rattle.std.proofs.lemmas.Slice.Eq.{strip_suffix_is}
use Rattle.std.proofs.lemmas.Bool.Decides.{Decides-eqb}
use Rattle.mimic_events.proofs.lines.before.Goals as goal

pub returns : goal.returns
returns c = strip_suffix_is Decides-eqb c.args.text.now c.args.back.now _ c.strip_suffix.ensures.cases
