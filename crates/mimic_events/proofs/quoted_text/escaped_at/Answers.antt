use Rattle.std.proofs.Common.{List, ℕ, [], ◌∷◌, ◌++◌, subst}
use Rattle.mimic_events.proofs.QuotedTexts.{Reaches, starts, goes_on, goes_on_plain, is_done}
use Rattle.mimic_events.proofs.quoted_text.escaped_at.Goals as goal

pub loop-byte-init : goal.loop-byte-init
loop-byte-init c =
    let bytes = c.args.bytes.now in
    let here = subst (λ (l : List ℕ). Reaches bytes [] l) c.plain_at.ensures.parts (starts bytes) in
    rw (c.in_ok-extend_from_slice.ensures.items, c.new-text.ensures.items)
    (goes_on_plain bytes [] c.plain_at.result.0.now c.plain_at.result.1.now here c.plain_at.ensures.plain)

pub loop-byte-preserved : goal.loop-byte-preserved
loop-byte-preserved c =
    let bytes = c.args.bytes.now in
    let so_far = c.loop-byte.text.items ++ c.in-Some.byte ∷ [] in
    let one = goes_on bytes c.loop-byte.text.items c.loop-byte.rest.now c.in-Some.byte c.in-Some.after.now c.loop-byte.invariant c.in-Some.ensures.0 in
    let here = subst (λ (l : List ℕ). Reaches bytes so_far l) c.plain_at-in-Some.ensures.parts one in
    rw (c.in_ok-extend_from_slice-2.ensures.items, c.in_ok-push.ensures.items)
    (goes_on_plain bytes so_far c.plain_at-in-Some.result.0.now c.plain_at-in-Some.result.1.now here c.plain_at-in-Some.ensures.plain)

pub returns : goal.returns
returns c = is_done c.args.bytes.now c.loop-byte.text.items c.loop-byte.rest.now c.loop-byte.invariant c.in_default.ensures
