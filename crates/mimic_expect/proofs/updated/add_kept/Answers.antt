use Rattle.std.proofs.Common.{◌<◌, ◌++◌, ◌∙◌, ◌∷◌, [], ap, append_assoc, arith, length, length-append, subst, sym, tests, rules}
use Rattle.mimic_printer.specs.Sink.{Adds}
use Rattle.mimic_printer.proofs.Adding.{adds_more, adds_then}
use Rattle.mimic_printer.proofs.Escaping.{added_rest}
use Rattle.mimic_expect.specs.Changes.{read_at}
use Rattle.mimic_expect.specs.Updated.{kept_line, kept_lines}
use Rattle.mimic_expect.proofs.KnownLines.{one_line}
use Rattle.mimic_expect.proofs.Updates.{kept_last, kept_off}
use Rattle.mimic_expect.proofs.updated.add_kept.Goals as goal

pub loop-line-preserved : goal.loop-line-preserved
loop-line-preserved g c =
    let l = c.in-Some.ensures.1 in
    let w = c.loop-line.invariant.added in
    let at = read_at c.args.changes.now in
    let off = kept_off at c.loop-line.number c.loop-line.rest.now c.in-Some.line.now c.in-Some.after.now c.in-Some.ensures.0 l in
    let line = kept_line l.front (at c.loop-line.number) in
    record {
      added = record {
        done = w.done ++ line;
        parts = w.parts ∙ (ap (λ t. w.done ++ t) off ∙ sym (append_assoc w.done line _));
        added = adds_then w.done line w.added (rw (c.without_end.ensures l.front l.parts, c.get.ensures.value) at c.add_kept_line.ensures);
      };
      small = omega (arith, c.loop-line.invariant.small, ap length c.in-Some.ensures.0, length-append c.in-Some.line.now c.in-Some.after.now, ap length l.parts, length-append l.front (10 ∷ []));
    }

pub returns-then-has_fault : goal.returns-then-has_fault
returns-then-has_fault g c =
    let w = c.loop-line.invariant.added in
    subst (Adds g.W.Write.contents c.args.sink.now c.loop-line.sink) (sym w.parts) (adds_more w.done _ (sym c.has_fault.ensures ∙ c.if-has_fault.true) w.added)

pub returns-then-not-is_empty : goal.returns-then-not-is_empty
returns-then-not-is_empty g c =
    let at = read_at c.args.changes.now in
    let some : 0 < length c.loop-line.rest.now = search (rules, tests) in
    let last = ap (kept_lines at c.loop-line.number) (one_line c.loop-line.rest.now c.in_default.ensures) ∙ kept_last at c.loop-line.number c.loop-line.rest.now some in
    added_rest last c.loop-line.invariant.added (rw c.get-then-not-is_empty.ensures.value at c.add_kept_line-then-not-is_empty.ensures)
