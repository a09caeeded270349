use Rattle.std.proofs.Common.{◌≡◌, ◌∙◌, length, rules, sym, vec_len}
use Rattle.mimic_main.proofs.FullNames.{length-parts}
use Rattle.mimic_main.proofs.full_names.FullNames.len.Goals as goal

pub returns : goal.returns
returns c =
    let size : vec_len c.self.inside.ends ≡ length c.self.inside.ends.items = search rules in
    let parts = length-parts c.self.inside.names.items 0 c.self.inside.ends.items in
    rw (← c.self.view_is) (c.len.ensures ∙ size ∙ sym parts)
