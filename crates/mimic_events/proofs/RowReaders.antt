-- Pieces that were read one after another.
use Rattle.std.proofs.Common.{◌≡◌, ℕ, List, [], ◌∷◌, ◌++◌, length, refl, ap, sym, subst, ◌∙◌, append_assoc, append-nil, arith}
use Rattle.std.proofs.lemmas.List.{length-append}
use Rattle.mimic_printer.specs.Json.{Entry}
use Rattle.mimic_events.specs.declared.report.Row.{Row}
use Rattle.mimic_events.specs.declared.row_reader.RowReader.{RowReader}
use Rattle.mimic_events.specs.Contents.{entry_read}
use Rattle.mimic_events.specs.Progress.{IsLine}
use Rattle.mimic_events.specs.Readers.{PassesRows, ReadsFront, ReadsOn, ReadsRow, bytes_of}
use Rattle.mimic_events.proofs.WholeLines.{line_some}

pub nothing_read : (r : RowReader) (piece : List ℕ) → ReadsFront r piece r [] piece
nothing_read r piece = record { front = []; parts = refl; read = λ entries sound. rw (append-nil entries) (sound, sym (append-nil (bytes_of r entries))) }

-- some more
pub reads_then : (a b c : RowReader) (piece left front after : List ℕ) (es fs : List Entry) → ReadsFront a piece b es left → left ≡ front ++ after → ReadsOn b front c fs
    → ReadsFront a piece c (es ++ fs) after
reads_then a b c piece left front after es fs f e g = record {
  front = f.front ++ front;
  parts = f.parts ∙ ap (λ (x : List ℕ). f.front ++ x) e ∙ sym (append_assoc f.front front after);
  read = λ entries sound.
      let h = f.read entries sound in
      let k = g (entries ++ es) h.0 in
      rw (← append_assoc entries es fs) (k.0, k.1 ∙ ap (λ (x : List ℕ). x ++ front) h.1 ∙ append_assoc (bytes_of a entries) f.front front);
}

-- a line that ends a row
pub row_read : (a b c : RowReader) (piece left line after : List ℕ) (row : Row) → ReadsFront a piece b [] left → left ≡ line ++ after → IsLine line
    → ReadsOn b line c (entry_read row ∷ []) → ReadsRow a piece c row after
row_read a b c piece left line after row f e is g = record {
  read = reads_then a b c piece left line after [] (entry_read row ∷ []) f e g;
  shorter = omega (arith, ap length f.parts, ap length e, length-append f.front left, length-append line after, line_some line is);
}

-- all that is left
pub all_read : (a b c : RowReader) (piece left : List ℕ) (es fs : List Entry) → ReadsFront a piece b es left → ReadsOn b left c fs → ReadsOn a piece c (es ++ fs)
all_read a b c piece left es fs f g =
    let whole = reads_then a b c piece left left [] es fs f (sym (append-nil left)) g in
    subst (λ (x : List ℕ). ReadsOn a x c (es ++ fs)) (sym (whole.parts ∙ append-nil whole.front)) whole.read

-- several rows
pub passes_then : (a b c : RowReader) (piece left after : List ℕ) → PassesRows a piece b left → PassesRows b left c after → PassesRows a piece c after
passes_then a b c piece left after f g = (f.0 ++ g.0, reads_then a b c piece left g.1.front after f.0 g.0 f.1 g.1.parts g.1.read)
