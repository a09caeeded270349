use Rattle.std.proofs.Common.{ℕ, [], ◌∷◌, Bor, List, map}
use Rattle.std.proofs.lemmas.Iterator.{YieldsList-from_take}
use Rattle.std.proofs.lemmas.Iterator.Consumers.{YieldsList-end, count_from_yields_List}
use Rattle.std.proofs.lemmas.Iterator.Splits.{YieldsList-from_lines}
use Rattle.std.proofs.lemmas.List.{flat_map_more, map-append}
use Rattle.mimic_printer.proofs.Adding.{adds_then}
use Rattle.mimic_watch.specs.Rows.{line_text, message_lines}
use Rattle.mimic_watch.proofs.row.add_lines.Goals as goal

pub loop-line-preserved : goal.loop-line-preserved
loop-line-preserved g c =
    let seen = map (λ (line : Bor (List ℕ)). line.now) c.loop-line.yielded in
    rw (
      map-append (λ (line : Bor (List ℕ)). line.now) c.loop-line.yielded (c.in-Some.line ∷ []),
      ← flat_map_more line_text [] seen c.in-Some.line.now,
    )
    (adds_then _ _ c.loop-line.invariant c.add_pieces.ensures)

pub returns : goal.returns
unfolding message_lines
returns g c =
    let first = YieldsList-end (YieldsList-from_take 20 (YieldsList-from_lines c.args.message.now cc) cc) c.loop-line.yielded _ c.loop-line.yielded_by _ _ c.in-None.is c.next.ensures.steps in
    let all = count_from_yields_List _ c.count.result c.count.ensures.ran (YieldsList-from_lines c.args.message.now cc) in
    rw (← first.0, ← all, ← c.saturating_sub.ensures) (adds_then _ _ c.loop-line.invariant c.add_more.ensures)
