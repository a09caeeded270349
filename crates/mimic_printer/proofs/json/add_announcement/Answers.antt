use Rattle.std.proofs.Common.{refl, ◌++◌, List, ℕ, subst}
use Rattle.mimic_printer.specs.Json.{announcement_front, json_announcement, json_end}
use Rattle.mimic_printer.specs.Sink.{Adds}
use Rattle.mimic_printer.proofs.Labels.{label_then}
use Rattle.mimic_printer.proofs.json.add_announcement.Goals as goal

pub returns : goal.returns
unfolding json_announcement
returns g c =
    let P : List ℕ → Type 0 = λ l. Adds g.W.Write.contents c.args.sink.now c.add_pieces.new.sink (announcement_front ++ l) in
    subst P (label_then _ c.args.name.now c.args.kind.now json_end refl) c.add_pieces.ensures
