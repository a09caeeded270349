use Rattle.std.proofs.Common.{◌≡◌, ◌∙◌, ℕ, List, [], ◌∷◌, ◌++◌, append-nil, append_assoc, ap, map, refl, subst, sym}
use Rattle.std.proofs.lemmas.List.{map-append}
use Rattle.mimic_printer.specs.Json.{Entry}
use Rattle.mimic_events.specs.Contents.{entry_read}
use Rattle.mimic_events.specs.Readers.{IsSound, ReadsOn, ReadsRow, bytes_of}
use Rattle.mimic_events.proofs.Followers.{followed}
use Rattle.mimic_events.proofs.follower.Follower.keep_rows.Goals as goal

pub returns-clause-rows : goal.returns-clause-rows
returns-clause-rows c = λ taken.
    let rows = map entry_read c.loop-row.rows.items in
    let last : ReadsOn c.loop-row.self.reader c.loop-row.left.now c.next_row.new.self [] =
    rw c.in_default.is at c.in_ok-row.ensures in
    let old = c.requires c.if-self.false in
    followed _ _ rows refl (rw append-nil at (last rows (c.loop-row.invariant.read old.sound).0).0) refl

pub returns-clause-taken : goal.returns-clause-taken
returns-clause-taken c =
    let rows = map entry_read c.loop-row.rows.items in
    let last : ReadsOn c.loop-row.self.reader c.loop-row.left.now c.next_row.new.self [] =
    rw c.in_default.is at c.in_ok-row.ensures in
    let old = c.requires c.if-self.false in
    let before = c.loop-row.invariant.read old.sound in
    (refl, (rw (append-nil rows) at (last rows before.0).1) ∙ before.1)

pub loop-row-preserved : goal.loop-row-preserved
loop-row-preserved c =
    let reader = c.loop-row.self.reader in
    let rows = map entry_read c.loop-row.rows.items in
    let row : ReadsRow reader c.loop-row.left.now c.next_row.new.self c.in-Some.row c.in-Some.after.now = rw c.in-Some.is at c.in_ok-row.ensures in
    let more = ap (map entry_read) c.in_ok-push.ensures.items ∙ map-append entry_read c.loop-row.rows.items (c.in-Some.row ∷ []) in
    record {
      failed = c.loop-row.invariant.failed;
      read = λ sound.
          let before = c.loop-row.invariant.read sound in
          let after = row.read.read rows before.0 in
          subst (λ (es : List Entry). IsSound c.next_row.new.self es
          × (bytes_of c.next_row.new.self es ++ c.in-Some.after.now ≡ bytes_of c.args.self.now.reader (map entry_read c.args.rows.now.items) ++ c.args.piece.now)) (sym more) (
            after.0,
            ap (λ (x : List ℕ). x ++ c.in-Some.after.now) after.1 ∙ append_assoc (bytes_of reader rows) row.read.front c.in-Some.after.now
                ∙ ap (λ (x : List ℕ). bytes_of reader rows ++ x) (sym row.read.parts) ∙ before.1,
          );
    }
