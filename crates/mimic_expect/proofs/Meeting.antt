-- What failures meet, and the rows that answer lines.
use Rattle.std.proofs.Common.{◌≡◌, ℕ, ◌+◌, ◌<◌, Bool, true, false, cond, List, [], ◌∷◌, ◌++◌, get_or, length, map, take, refl, sym, ap, ◌∙◌, arith}
use Rattle.std.specs.Prelude.{Option, None, Some, option_map}
use Rattle.std.specs.Map.{lookup, remove_entry}
use Rattle.std.specs.Option.{is_some}
use Rattle.std.proofs.lemmas.List.{map_more}
use Rattle.std.proofs.lemmas.Simd.{map-map}
use Rattle.std.proofs.lemmas.Map.Made.{lookup-map_values}
use Rattle.mimic_printer.specs.Json.{Entry}
use Rattle.mimic_events.specs.Key.{Key, any_in, key_in, same_key}
use Rattle.mimic_expect.specs.Expect.{answers, left_by, meets, unanswered, unmet_by, without}
use Rattle.mimic_expect.specs.Known.{Expected}

module _ {X : Type 0} where
  pub keeps : (test : Key → Bool) (left : List (Key × X)) → lookup test left ≡ None → remove_entry test left ≡ left
  keeps test [] e = refl
  keeps test (x ∷ left) e = grind (arith, keeps test left, e)

  -- ---- one more failure

  pub left_by-more : (left : List (Key × X)) (rows : List Entry) (row : Entry) → left_by left (rows ++ row ∷ []) ≡ without (left_by left rows) row
  left_by-more left [] row = refl
  left_by-more left (r ∷ rows) row = left_by-more (without left r) rows row

  pub unmet_by-more : (left : List (Key × X)) (rows : List Entry) (row : Entry)
      → unmet_by left (rows ++ row ∷ []) ≡ unmet_by left rows ++ cond (is_some (meets (left_by left rows) row)) [] (row ∷ [])
  unmet_by-more left [] row = refl
  unmet_by-more left (r ∷ rows) row = grind (arith, unmet_by-more (without left r) rows row)

  -- ---- one more line

  pub unanswered-more : (rows : List (Key × X)) (lines : List Expected) (e : Expected)
      → unanswered rows (lines ++ e ∷ []) ≡ remove_entry (same_key (any_in e.entry)) (unanswered rows lines)
  unanswered-more rows [] e = refl
  unanswered-more rows (l ∷ lines) e = unanswered-more (remove_entry (same_key (any_in l.entry)) rows) lines e

  pub answers-more : (rows : List (Key × X)) (lines : List Expected) (e : Expected)
      → answers rows (lines ++ e ∷ []) ≡ answers rows lines ++ (e, lookup (same_key (any_in e.entry)) (unanswered rows lines)) ∷ []
  answers-more rows [] e = refl
  answers-more rows (l ∷ lines) e = rw (answers-more (remove_entry (same_key (any_in l.entry)) rows) lines e) refl

-- ---- items as they read

module _ {X Y : Type 0} (read : X → Y) where
  abbrev over : List (Key × X) → List (Key × Y)
  over items = map (λ (x : Key × X). (x.0, read x.1)) items

  pub removed-over : (test : Key → Bool) (items : List (Key × X)) → over (remove_entry test items) ≡ remove_entry test (over items)
  removed-over test [] = refl
  removed-over test (x ∷ items) = grind (arith, removed-over test items)

  pub read_left : (items : List (Key × X)) → map read (map (λ (x : Key × X). x.1) items) ≡ map (λ (x : Key × Y). x.1) (over items)
  read_left items = simp map-map

  pub one_more : (xs : List X) (i : ℕ) (x : X) → i < length xs → x ≡ get_or xs i x → map read (take (i + 1) xs) ≡ map read (take i xs) ++ read x ∷ []
  one_more xs i x lt is = map_more read xs i x lt ∙ ap (λ (y : X). map read (take i xs) ++ read y ∷ []) (sym is)

  abbrev own : Entry → Key → Bool
  own row = same_key (key_in row)

  abbrev any : Entry → Key → Bool
  any row = same_key (any_in row)

  -- the first one of the message is there
  pub meet_then : (left new : List (Key × X)) (row : Entry) (r : Option X) → r ≡ lookup (own row) left → new ≡ remove_entry (own row) left → is_some r ≡ true
      → (true ≡ is_some (meets (over left) row)) × (over new ≡ without (over left) row)
  meet_then left new row r found news some = at r (lookup-map_values read (own row) left ∙ ap (option_map read) (sym found)) some
    where
      at : (o : Option X) → lookup (own row) (over left) ≡ option_map read o → is_some o ≡ true
          → (true ≡ is_some (meets (over left) row)) × (over new ≡ without (over left) row)
      at None e some = absurd (cc)
      at (Some x) e some = rw e (refl, ap over news ∙ removed-over (own row) left)

  -- it is not there
  pub meet_else : (left then new : List (Key × X)) (row : Entry) (r s : Option X) → r ≡ lookup (own row) left → then ≡ remove_entry (own row) left → is_some r ≡ false
      → s ≡ lookup (any row) then → new ≡ remove_entry (any row) then → (is_some s ≡ is_some (meets (over left) row)) × (over new ≡ without (over left) row)
  meet_else left then new row None s found thens none next news =
      let same : then ≡ left = thens ∙ keeps (own row) left (sym found) in
      let e : lookup (own row) (over left) ≡ None = lookup-map_values read (own row) left ∙ ap (option_map read) (sym found) in
      rw (e, lookup-map_values read (any row) left, next, news, same) (is_read (lookup (any row) left), removed-over (any row) left)
    where
      is_read : (o : Option X) → is_some o ≡ is_some (option_map read o)
      is_read None = refl
      is_read (Some x) = refl
  meet_else left then new row (Some x) s found thens none next news = absurd (cc)
