use Rattle.std.proofs.Common.{◌∙◌, ◌∷◌, ◌++◌, [], ap, append_assoc, map, sym}
use Rattle.std.proofs.lemmas.List.{map-append}
use Rattle.mimic_events.proofs.Pairs.{each_more}
use Rattle.mimic_join.proofs.cut.read_all.Goals as goal

pub loop-input-preserved : goal.loop-input-preserved
loop-input-preserved g c =
    let before = c.loop-input.invariant in
    let seen = c.loop-input.yielded in
    record {
      seen = append_assoc seen (c.in-Some.input ∷ []) _ ∙ (ap (λ l. seen ++ l) (sym c.in-Some.ensures.steps.0) ∙ before.seen);
      read = rw (map-append, c.in_ok-push.ensures.items)
          (each_more _ (map g.I.Read.remaining seen) c.loop-input.reads.items (g.I.Read.remaining c.in-Some.input) c.in_ok-read_rows.field-0 before.read c.in_ok-read_rows.ensures);
    }
