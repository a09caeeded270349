-- Pieces that a tally was fed.
use Rattle.std.proofs.Common.{ℕ, List, [], ◌++◌, ap, sym, subst, arith, length, ◌≤◌}
use Rattle.std.proofs.lemmas.List.{length-append}
use Rattle.mimic_printer.specs.Json.{Entry}
use Rattle.mimic_events.specs.declared.row_reader.RowReader.{RowReader}
use Rattle.mimic_events.specs.Readers.{PassesRows, ReadsOn, bytes_of}
use Rattle.mimic_events.specs.Tally.{Forgets, HasFed, IsAlike}
use Rattle.mimic_events.proofs.Forgetting.{alike_more, alike_trans}
use Rattle.mimic_events.proofs.RowReaders.{all_read}

-- no more is left than there was
pub rows_shorter : (u v : RowReader) (left after : List ℕ) → PassesRows u left v after → length after ≤ length left
rows_shorter u v left after passes = omega (arith, ap length passes.1.parts, length-append passes.1.front after)

-- rows were passed, all that is left is read, and what changes nothing more is forgotten
pub fed_and_forgot : (t u v w : RowReader) (piece left fed : List ℕ) → PassesRows t piece u left → ReadsOn u left v [] → Forgets v w
    → HasFed t fed → HasFed w (fed ++ piece)
fed_and_forgot t u v w piece left fed f read forgets h =
    let entries : List Entry = h.entries ++ (f.0 ++ []) in
    let next = all_read t u v piece left f.0 [] f.1 read h.entries h.sound in
    let alike = alike_more fed (bytes_of t h.entries) piece h.alike in
    let kept = forgets entries next.0 in
    record {
      entries = entries;
      sound = kept.0;
      alike = alike_trans (fed ++ piece) (bytes_of v entries) (bytes_of w entries) (subst (IsAlike (fed ++ piece)) (sym next.1) alike) kept.1;
    }
