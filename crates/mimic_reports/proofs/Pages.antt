-- The parts of a page, one after another.
use Rattle.std.proofs.Common.{◌≡◌, arith, ℕ, zero, suc, ◌+◌, ◌-◌, ◌<◌, ◌≤◌, Bool, true, false, nat_lt, append_assoc, take, drop, drop-cons, get_or, List, [], ◌∷◌, ◌++◌, Option, length, map, refl, sym, ap, subst, ◌∙◌, append-nil}
use Rattle.std.proofs.lemmas.Bool.{lt-ltb, ltb-true, ltb-false}
use Rattle.std.proofs.lemmas.List.{drop_all, length-map}
use Rattle.mimic_printer.specs.Json.{Entry}
use Rattle.mimic_printer.specs.Sink.{Adds, keeps_fault}
use Rattle.mimic_printer.specs.declared.sink.Sink.{Sink}
use Rattle.mimic_printer.proofs.Adding.{adds_more, adds_then}
use Rattle.mimic_events.specs.Contents.{entry_read}
use Rattle.mimic_events.specs.declared.report.Row.{Row}
use Rattle.mimic_reports.specs.declared.page.Listing.{Listing}
use Rattle.mimic_reports.specs.declared.page.PageContents.{PageContents}
use Rattle.mimic_reports.specs.declared.page.Group.{Group}
use Rattle.mimic_reports.specs.declared.page.Group.TheVariants.{Failed, Measured, Others}
use Rattle.mimic_trial.specs.Count.{counts_of}
use Rattle.mimic_trial.specs.declared.outcome.Conclusion.{Conclusion}
use Rattle.std.specs.List.{flat_map}
use Rattle.std.specs.Prelude.{string_bytes}
use Rattle.std.proofs.lemmas.Simd.{map-map}
use Rattle.mimic_reports.specs.Page.{bar_of, counts_text, ending_text, found_after, greatest_time, group_text, header_text, heading, links_text, missing_in, note_text, rows_text, start_text, times_text, is_in, list_end, row_in, row_text, rows_after, rows_of, unlisted_text}

-- ---- a group of rows

module _ (l : Listing) where
  -- the texts of the rows that follow `found` rows of the group, and its end
  abbrev rest : ℕ → List Entry → List ℕ
  rest found entries = rows_after l.longest found (take (l.limit - found) (rows_of l.group entries))
      ++ unlisted_text ((found + length (rows_of l.group entries)) - l.limit)

  next_row : (p q : Bool) (e : Entry) (entries : List Entry) (found : ℕ) → is_in l.group e.outcome ≡ p → nat_lt found l.limit ≡ q
      → rest found (e ∷ entries) ≡ row_in l found e ++ rest (found_after l.group found e) entries
  unfolding rows_after
  next_row false q e entries found h k = rw h refl
  next_row true true e entries found h k =
      let below : found < l.limit = ltb-true found l.limit k in
      let left : l.limit - found ≡ suc (l.limit - (found + 1)) = omega (arith, below) in
      let more : suc found ≡ found + 1 = omega arith in
      let count : found + suc (length (rows_of l.group entries)) ≡ found + 1 + length (rows_of l.group entries) = omega arith in
      rw (h, k, left, count, more) (simp append_assoc)
  next_row true false e entries found h k =
      let above : l.limit ≤ found = ltb-false found l.limit k in
      let none : l.limit - found ≡ 0 = omega (arith, above) in
      let still : l.limit - (found + 1) ≡ 0 = omega (arith, above) in
      let count : found + suc (length (rows_of l.group entries)) ≡ found + 1 + length (rows_of l.group entries) = omega arith in
      rw (h, k, none, still, count) refl

  pub listed_row : (found : ℕ) (e : Entry) → is_in l.group e.outcome ≡ true → found < l.limit
      → row_text l.longest e ++ list_end (found + 1) ≡ row_in l found e
  listed_row found e h k = rw (h, lt-ltb _ _ k) refl

  module _ (rows : List Row) where
    abbrev all : List ℕ
    all = group_text l (map entry_read rows)

    abbrev from : ℕ → ℕ → List ℕ
    from at found = rest found (map entry_read (drop at rows))

    -- the heading and the rows before it were added, of which `found` are in the group
    pub record RowsAdded {W : Type 0} (contents : W → Option (List ℕ)) (old new : Sink W) (at found : ℕ) : Type 0 where
      pub within : found ≤ at
      pub done : List ℕ
      pub parts : all ≡ done ++ from at found
      pub added : Adds contents old new done

    whole : (start : List ℕ) → start ≡ heading l.group → all ≡ start ++ from 0 0
    unfolding group_text
    whole start is =
        let limit : l.limit - 0 ≡ l.limit = omega arith in
        let count : 0 + length (rows_of l.group (map entry_read rows)) ≡ length (rows_of l.group (map entry_read rows)) = omega arith in
        rw (is, limit, count, append-nil) refl

    module _ (at found : ℕ) (d : Row) (h : at < length rows) where
      abbrev entry : Entry
      entry = entry_read (get_or rows at d)

      one_row : from at found ≡ row_in l found entry ++ from (at + 1) (found_after l.group found entry)
      one_row =
          let next : suc at ≡ at + 1 = omega arith in
          ap (λ (r : List Row). rest found (map entry_read r)) (drop-cons rows at d h)
          ∙ next_row (is_in l.group entry.outcome) (nat_lt found l.limit) entry (map entry_read (drop (suc at) rows)) found refl refl
          ∙ ap (λ (n : ℕ). row_in l found entry ++ from n (found_after l.group found entry)) next

      no_more : (count : ℕ) (p : Bool) → found ≤ at → count ≡ found_after l.group found entry → is_in l.group entry.outcome ≡ p → count ≤ at + 1
      no_more count true within is e = let n : count ≡ found + 1 = is ∙ rw e refl in omega (arith, within, n)
      no_more count false within is e = let n : count ≡ found = is ∙ rw e refl in omega (arith, within, n)

    end_left : (at found : ℕ) → length rows ≤ at → from at found ≡ unlisted_text (found - l.limit)
    unfolding rows_after
    end_left at found h =
        let none : found + 0 ≡ found = omega arith in
        let empty : (n : ℕ) → take n (rows_of l.group []) ≡ [] = no_rows in
        ap (λ (r : List Row). rest found (map entry_read r)) (drop_all at rows h) ∙ rw (empty (l.limit - found), none) refl
      where
        no_rows : (n : ℕ) → take n (rows_of l.group []) ≡ []
        no_rows zero = refl
        no_rows (suc n) = refl

    module _ {W : Type 0} {contents : W → Option (List ℕ)} where
      pub none_added : {a b : Sink W} (start : List ℕ) → start ≡ heading l.group → Adds contents a b start → RowsAdded contents a b 0 0
      none_added start is p = record { within = omega arith; done = start; parts = whole start is; added = p }

      pub more_rows : {a b c : Sink W} (at found count : ℕ) (d : Row) (h : at < length rows) → count ≡ found_after l.group found (entry at found d h)
          → RowsAdded contents a b at found → Adds contents b c (row_in l found (entry at found d h)) → RowsAdded contents a c (at + 1) count
      more_rows at found count d h is w p =
          let e : Entry = entry at found d h in
          record {
            within = no_more at found d h count (is_in l.group e.outcome) w.within is refl;
            done = w.done ++ row_in l found e;
            parts = w.parts ∙ ap (λ (t : List ℕ). w.done ++ t) (one_row at found d h ∙ ap (λ n. row_in l found e ++ from (at + 1) n) (sym is))
                ∙ sym (append_assoc w.done (row_in l found e) (from (at + 1) count));
            added = adds_then w.done (row_in l found e) w.added p;
          }

      -- a fault is kept, and nothing more is added
      pub some_added : {a b : Sink W} (at found : ℕ) → keeps_fault b ≡ true → RowsAdded contents a b at found → Adds contents a b all
      some_added {a} {b} at found kept w = subst (Adds contents a b) (sym w.parts) (adds_more w.done (from at found) kept w.added)

      pub all_added : {a b c : Sink W} (at found left : ℕ) → length rows ≤ at → left ≡ found - l.limit → RowsAdded contents a b at found
          → Adds contents b c (unlisted_text left) → Adds contents a c all
      all_added {a} {c} at found left h is w p =
          subst (Adds contents a c) (ap (λ (t : List ℕ). w.done ++ t) (ap unlisted_text is ∙ sym (end_left at found h)) ∙ sym w.parts)
          (adds_then w.done (unlisted_text left) w.added p)

-- ---- all groups

module _ (rows : List Row) (most longest left : ℕ) (long : longest ≡ bar_of (greatest_time (map (λ row. row.outcome) rows)))
    (rest_of : left ≡ most - (counts_of (map (λ row. row.outcome) rows) 0).num_measured) where
  abbrev pub group_of : Group → ℕ → List ℕ
  group_of group limit = group_text (record { group = group; limit = limit; longest = longest }) (map entry_read rows)

  pub groups_are : group_of Failed (length rows) ++ (group_of Measured most ++ (group_of Others left ++ [])) ≡ rows_text most (map entry_read rows)
  unfolding rows_text
  groups_are = simp (long, rest_of, length-map, map-map)

-- ---- what comes before the rows

module _ (page : PageContents) (counts : Conclusion) (missing : ℕ) (counted : counts ≡ counts_of (map (λ row. row.outcome) page.rows.now) 0)
    (left : missing ≡ missing_in (length page.rows.now) page.ending.now) where
  pub header_is : start_text page.title.now counts page.ending.now ++ (flat_map (λ note. note_text (string_bytes note)) page.notes.now
      ++ (ending_text (length page.rows.now) page.ending.now page.cause.now ++ (times_text (map (λ row. row.nanos) page.rows.now)
      ++ (counts_text counts missing ++ (links_text counts ++ []))))) ≡ header_text page
  unfolding header_text
  header_is = simp (counted, left, length-map, map-map)
