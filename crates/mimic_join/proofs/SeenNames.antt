-- Kinds and names that were seen.
use Rattle.std.proofs.Common.{◌≡◌, ℕ, zero, suc, ◌+◌, ◌<◌, ◌≤◌, List, [], ◌∷◌, ◌++◌, length, map, take, get_or, append-nil, sym, ap, ◌∙◌, inl, inr, arith}
use Rattle.std.specs.Prelude.{All, Contains}
use Rattle.std.specs.List.{flat_map}
use Rattle.std.proofs.lemmas.Bool.{cases_lt}
use Rattle.std.proofs.lemmas.List.Elements.{All-contains, All-map, Contains-append_left, Contains-append_right}
use Rattle.mimic_printer.specs.Row.{Label}
use Rattle.mimic_events.specs.declared.report.Report.{Report}
use Rattle.mimic_events.specs.declared.report.Row.{Row}
use Rattle.mimic_events.specs.Key.{label_in}
use Rattle.mimic_join.specs.Joined.{HaveOwnNames, IsNamedTwice, labels_in}
use Rattle.std.proofs.lemmas.List.{get_or_default, take_more}
use Rattle.std.proofs.lemmas.List.Concat.{flat_map-append}

-- a kind and name in a report is among those before a later place
pub in_before : (reports : List Report) (place i : ℕ) (d : Report) (l : Label) → i < place → place ≤ length reports → Contains (labels_in (get_or reports i d)) l
    → Contains (flat_map labels_in (take place reports)) l
in_before [] place i d l lt le h = absurd (omega (arith, lt, le))
in_before (r ∷ reports) zero i d l lt le h = absurd (omega (arith, lt))
in_before (r ∷ reports) (suc place) zero d l lt le h = Contains-append_left (labels_in r) (flat_map labels_in (take place reports)) l h
in_before (r ∷ reports) (suc place) (suc i) d l lt le h =
    Contains-append_right (labels_in r) (flat_map labels_in (take place reports)) l (in_before reports place i d l (omega (arith, lt)) (omega (arith, le)) h)

-- ---- the report at a place

module _ (reports : List Report) (place : ℕ) (r : Report) (rows : List Row) (lt : place < length reports) (is : r ≡ get_or reports place r) (own : rows ≡ r.rows.items) where
  abbrev pub before_it : List Label
  before_it = flat_map labels_in (take place reports)

  same_rows : (d : Report) → rows ≡ (get_or reports place d).rows.items
  same_rows d = own ∙ ap (λ (x : Report). x.rows.items) (is ∙ get_or_default reports place r d lt)

  pub twice : (row : ℕ) → (row < length rows) × ((d : Row) → Contains before_it (label_in (get_or rows row d))) → IsNamedTwice reports place row
  twice row h = record {
    within = lt;
    row_within = λ d. rw (same_rows d) at h.0;
    again = λ d e. rw (same_rows d) at (h.1 e);
  }

  pub seen_more : before_it ++ map label_in rows ≡ flat_map labels_in (take (place + 1) reports)
  seen_more =
      sym (simp (take_more reports place r lt, flat_map-append, append-nil, ← (same_rows r)))

  pub own_more : All (λ (row : Row). ¬ Contains before_it (label_in row)) rows
      → ((i j : ℕ) (d : Report) → i < j → j < place → HaveOwnNames (get_or reports i d) (get_or reports j d))
      → (i j : ℕ) (d : Report) → i < j → j < place + 1 → HaveOwnNames (get_or reports i d) (get_or reports j d)
  own_more none pairs i j d less within l first second = elim (cases_lt j place) [
    | inl before ↦ pairs i j d less before l first second
    | inr le ↦
        let here : j ≡ place = omega (arith, le, within) in
        let P : Label → Type 0 = λ x. ¬ Contains before_it x in
        All-contains P (map label_in rows) l (All-map P label_in rows none) (rw (same_rows d, ← here) second)
        (in_before reports place i d l (omega (arith, less, here)) (omega (arith, lt)) first)
  ]
