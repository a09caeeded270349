-- The rows of an input, one after another.
use Rattle.std.proofs.Common.{◌≡◌, inl, inr, ℕ, ◌+◌, ◌-◌, ◌≤◌, true, List, [], ◌∷◌, ◌++◌, Option, Some, None, IfSome, is_some, length, length-append, length-drop, take, drop, refl, sym, ap, ap₂, subst, ◌∙◌, append_assoc, append-nil, arith}
use Rattle.std.specs.Io.KnownBytes.{Consumes}
use Rattle.std.proofs.Math.Seq.{drop-append_seam}
use Rattle.std.proofs.lemmas.List.{drop-drop, drop-take, length-take-le}
use Rattle.mimic_printer.specs.Json.{Entry, json_title}
use Rattle.mimic_events.specs.declared.report.Row.{Row}
use Rattle.mimic_events.specs.Contents.{entry_read}
use Rattle.mimic_events.specs.Reading.{Decodes}
use Rattle.mimic_events.specs.SoFar.{IsFirstWrong}
use Rattle.mimic_events.specs.Follower.{FollowsOn, FollowsRow, HasFollowed}
use Rattle.mimic_events.specs.declared.input.ReadFault.{ReadFault}
use Rattle.mimic_events.specs.declared.input.ReadFault.TheVariants.{Cut, Input, OutOfMemory, WrongLine}
use Rattle.mimic_events.specs.declared.rows.InputRows.{InputRows}
use Rattle.mimic_events.specs.Readings.{HasEndedRows, IsRead, IsReading}
use Rattle.mimic_events.specs.declared.ending.Ending.{Ending}
use Rattle.mimic_events.specs.declared.ending.Ending.TheVariants as ends
use Rattle.mimic_events.specs.RowByRow.{HasCome, HasEnded, IsReady, ReadsOn, pending}

-- what is left of a part of a list behind a front of it
pub left_at : (xs front left : List ℕ) (from to : ℕ) → from ≤ to → to ≤ length xs → take (to - from) (drop from xs) ≡ front ++ left
    → take (to - (to - length left)) (drop (to - length left) xs) ≡ left
left_at xs front left from to order within e =
    let n : ℕ = length front in
    let k : ℕ = length left in
    let long : to - from ≡ n + k = sym (length-take-le (to - from) (drop from xs) (omega (arith, order, within, length-drop from xs))) ∙ ap length e ∙ length-append front left in
    let at : to - k ≡ from + n = omega (arith, long, order) in
    let so : to - (to - k) ≡ k = omega (arith, long, order) in
    ap₂ (λ (i j : ℕ). take i (drop j xs)) so at
    ∙ ap (take k) (sym (drop-drop n from xs))
    ∙ sym (drop-take n k (drop from xs))
    ∙ ap (λ (i : ℕ). drop n (take i (drop from xs))) (sym long)
    ∙ ap (drop n) e ∙ drop-append_seam front left

-- nothing was consumed yet
pub none_gone : (o : Option (List ℕ)) → Consumes o o []
none_gone None = tt
none_gone (Some xs) = refl

no_title : (n : ℕ) (rest : List ℕ) → [] ≡ json_title n ++ rest → ⊥
unfolding json_title
no_title n rest e = absurd (cc)

-- no rows have ended in any bytes
pub none_ended : (input : Option (List ℕ)) → IfSome input (HasEndedRows [])
none_ended None = tt
none_ended (Some bytes) = record {
  front = [];
  rest = bytes;
  parts = refl;
  ended = record { begun = inl refl; longest = λ others h. absurd (no_title h.announced _ h.parts) };
}

-- what was read with no error of the reader was read
pub is_reading : (start : Option (List ℕ)) (entries : List Entry) (ending : Ending) → IfSome start (IsRead entries ending) → IfSome start (IsReading entries ending)
is_reading None entries ending h = tt
is_reading (Some bytes) entries (ends.Whole filtered_out nanos) h = h
is_reading (Some bytes) entries (ends.Cut stop) h = h
is_reading (Some bytes) entries (ends.Failed error) h = absurd h

module _ {I : Type 0} (remaining : I → Option (List ℕ)) where
  pub no_rows : (r : InputRows I) → HasFollowed r.follower [] [] → r.from ≡ 0 → r.to ≡ 0 → HasCome remaining (remaining r.input) r []
  no_rows r h f t = record {
    bytes = [];
    followed = h;
    gone = subst (Consumes (remaining r.input) (remaining r.input)) (sym (ap₂ (λ (i j : ℕ). take (i - j) (drop j r.piece.items)) t f)) (none_gone (remaining r.input));
  }

  -- a row that was followed has come
  pub row_came : (start : Option (List ℕ)) (old new : InputRows I) (items left : List ℕ) (entries : List Entry) (row : Row) → IsReady old
      → items ≡ old.piece.items → FollowsRow old.follower (take (old.to - old.from) (drop old.from items)) new.follower row left
      → new.input ≡ old.input → new.piece.items ≡ old.piece.items → new.to ≡ old.to → new.from ≡ old.to - length left
      → HasCome remaining start old entries → HasCome remaining start new (entries ++ entry_read row ∷ [])
  row_came start old new items left entries row ready is f input piece to from h =
      let parts : pending remaining old ≡ f.front ++ left = ap (λ (xs : List ℕ). take (old.to - old.from) (drop old.from xs)) (sym is) ∙ f.parts in
      let behind : pending remaining new ≡ left =
      ap₂ (λ (i j : ℕ). take (i - j) (drop j new.piece.items)) to from ∙ ap (λ (xs : List ℕ). take (old.to - (old.to - length left)) (drop (old.to - length left) xs)) piece
      ∙ left_at old.piece.items f.front left old.from old.to ready.order ready.within parts in
      record {
        bytes = h.bytes ++ f.front;
        followed = f.followed h.bytes entries h.followed;
        gone = rw (input, behind, append_assoc h.bytes f.front left, ← parts) h.gone;
      }

  -- the rows that have come have ended in what the input had
  pub rows_before : (start : Option (List ℕ)) (r : InputRows I) (entries : List Entry) → HasCome remaining start r entries → IfSome start (HasEndedRows entries)
  rows_before None r entries h = tt
  rows_before (Some all) r entries h = at (remaining r.input) h.gone
    where
      at : (rest : Option (List ℕ)) → Consumes (Some all) rest (h.bytes ++ pending remaining r) → HasEndedRows entries all
      at None gone = absurd gone
      at (Some rest) gone = record { front = h.bytes; rest = pending remaining r ++ rest; parts = gone ∙ append_assoc h.bytes (pending remaining r) rest; ended = h.followed.ended }

  -- all that was read was followed
  pub none_came : (start : Option (List ℕ)) (old new : InputRows I) (items : List ℕ) (entries : List Entry)
      → items ≡ old.piece.items → FollowsOn old.follower (take (old.to - old.from) (drop old.from items)) new.follower []
      → new.input ≡ old.input → new.from ≡ new.to → HasCome remaining start old entries
      → HasCome remaining start new entries × (pending remaining new ≡ [])
  none_came start old new items entries is f input end h =
      let all : take (old.to - old.from) (drop old.from items) ≡ pending remaining old = ap (λ (xs : List ℕ). take (old.to - old.from) (drop old.from xs)) is in
      let none : new.to - new.from ≡ 0 = omega (arith, end) in
      let empty : pending remaining new ≡ [] = ap (λ (i : ℕ). take i (drop new.from new.piece.items)) none in (
        record {
          bytes = h.bytes ++ pending remaining old;
          followed = rw (append-nil entries, all) at (f h.bytes entries h.followed);
          gone = rw (input, empty, append-nil (h.bytes ++ pending remaining old)) h.gone;
        },
        empty,
      )

  -- a line is wrong
  pub at_wrong : (start : Option (List ℕ)) (r : InputRows I) (entries : List Entry) (found : Option ℕ) → is_some found ≡ true
      → ((bytes : List ℕ) (rows : List Entry) → HasFollowed r.follower bytes rows → Decodes IsFirstWrong bytes found)
      → HasCome remaining start r entries → pending remaining r ≡ [] → HasEnded remaining start r entries
  at_wrong start r entries None is wrong h none = absurd cc
  at_wrong start r entries (Some number) is wrong h none =
      let w = wrong h.bytes entries h.followed in
      record {
        bytes = h.bytes;
        followed = h.followed;
        gone = subst (Consumes start (remaining r.input)) (ap (λ (l : List ℕ). h.bytes ++ l) none ∙ append-nil h.bytes) h.gone;
        last = inr (number, w.0);
      }

  -- a reader that failed can be read on, and what came before it has come
  pub reads_on : (old now new : InputRows I) (fault : ReadFault)
      → ((start : Option (List ℕ)) (entries : List Entry) → HasCome remaining start old entries → HasCome remaining start now entries)
      → ReadsOn remaining now new fault → ReadsOn remaining old new fault
  reads_on old now new OutOfMemory came h = tt
  reads_on old now new (Input error) came h = (h.0, λ start entries old_come. h.1 start entries (came start entries old_come))
  reads_on old now new (WrongLine number) came h = h
  reads_on old now new Cut came h = h
