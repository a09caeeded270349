use Rattle.std.proofs.Common.{◌∙◌, sym}
use Rattle.mimic_events.specs.Contents.{entry_read}
use Rattle.mimic_events.specs.declared.key.Key.TheVariants.{Trial}
use Rattle.mimic_expect.proofs.Judged.{known_labels}
use Rattle.mimic_expect.proofs.judge.Judge.knows.Goals as goal

pub returns : goal.returns
returns g c =
    rw (sym c.self.view_is) (c.contains.ensures ∙ (c.self.invariant (Trial c.args.row) ∙ sym (known_labels c.self.inside.known.now (entry_read c.args.row.now))))
