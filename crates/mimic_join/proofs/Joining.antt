-- One more report is joined.
use Rattle.std.proofs.Common.{◌≡◌, ℕ, ◌+◌, ◌<◌, ◌≤◌, arith, get_or, length, take, List, [], ◌∷◌, ◌++◌, map, sum, refl, ap, ◌∙◌}
use Rattle.std.specs.Prelude.{IsPermutation}
use Rattle.std.specs.List.{flat_map, range_with_len}
use Rattle.std.proofs.lemmas.List.Sorted.{IsPermutation-map, IsPermutation-refl, IsPermutation-trans, IsPermutation-append_left, IsPermutation-append_right}
use Rattle.mimic_printer.specs.Json.{Entry}
use Rattle.mimic_events.specs.Contents.{entry_read}
use Rattle.mimic_trial.specs.Shard.{shard_of}
use Rattle.mimic_trial.proofs.AllShards.{parts_of_shards}
use Rattle.mimic_join.specs.Turns.{before, rounds_of, in_turn}
use Rattle.mimic_join.proofs.Turns.{joined_rounds, shards_in_turn, turns_are_all}
use Rattle.std.proofs.lemmas.List.Sums.{sum_by-append, sum_by_more_le}
use Rattle.std.specs.List.{take-map}
use Rattle.std.proofs.lemmas.List.Folds.{flat_map-map}
use Rattle.std.proofs.lemmas.Simd.{map-map}
use Rattle.std.proofs.lemmas.List.{get_or-map, length-map, map-append}
use Rattle.mimic_events.specs.declared.report.Report.{Report}
use Rattle.mimic_events.specs.declared.report.Row.{Row}
use Rattle.mimic_join.specs.Joined.{EachInSomeOrder, IsJoined, JoinsInOrder, JoinsShards, all_of, entries_in, filtered_out_of, rows_in}

abbrev pub rows_of : List Report → List Row
rows_of reports = flat_map rows_in reports

pub filtered_out-append : (xs ys : List Report) → filtered_out_of (xs ++ ys) ≡ filtered_out_of xs + filtered_out_of ys
filtered_out-append xs ys = ap sum (map-append _ xs ys) ∙ sum_by-append _ (map (λ report. report.filtered_out) xs) (map (λ report. report.filtered_out) ys)

-- what the reports up to a place filtered out is a part of it all
pub filtered_out-part : (xs : List Report) (i : ℕ) (r : Report) → i < length xs → r ≡ get_or xs i r → filtered_out_of (take i xs) + r.filtered_out ≤ filtered_out_of xs
filtered_out-part xs i r lt is =
    let out : Report → ℕ = λ report. report.filtered_out in
    let within : i < length (map out xs) = omega (arith, lt, length-map xs out) in
    simp (take-map, get_or-map out xs i r 0 lt, ← is) at (sum_by_more_le (λ n. n) (map out xs) i 0 within)

-- ---- reports of shards

module _ {X : Type 0} where
  pub concat_orders : (xss yss : List (List X)) → EachInSomeOrder xss yss → IsPermutation (all_of xss) (all_of yss)
  concat_orders [] [] h = IsPermutation-refl []
  concat_orders (xs ∷ xss) (ys ∷ yss) h =
      IsPermutation-trans _ _ _ (IsPermutation-append_left (all_of xss) xs ys h.0) (IsPermutation-append_right ys (all_of xss) (all_of yss) (concat_orders xss yss h.1))
  concat_orders xss yss h = absurd h

entries_joined : (reports : List Report) → map entry_read (rows_of reports) ≡ all_of (map entries_in reports)
entries_joined [] = refl
entries_joined (r ∷ reports) = map-append entry_read r.rows.items (rows_of reports) ∙ ap (λ (l : List Entry). entries_in r ++ l) (entries_joined reports)

-- rows in turn are all rows
in_turn-rows : (reports : List Report) → IsPermutation (in_turn (map rows_in reports)) (rows_of reports)
in_turn-rows reports = rw (flat_map-map (λ (xs : List Row). xs) rows_in reports) at (turns_are_all (map rows_in reports))

pub entries_turned : (reports : List Report) (whole : Report) → IsJoined reports whole → IsPermutation (entries_in whole) (all_of (map entries_in reports))
entries_turned reports whole joined =
    rw (joined.rows, ← entries_joined reports) (IsPermutation-map entry_read _ _ (in_turn-rows reports))

pub joins_shards : JoinsShards
joins_shards count entries reports whole some each joined =
    let shards : ℕ → List Entry = λ index. all_of (shard_of count index entries) in
    IsPermutation-trans _ _ _ (entries_turned reports whole joined)
    (IsPermutation-trans _ _ _ (concat_orders (map entries_in reports) (map shards (range_with_len 0 count)) each)
    (rw (flat_map-map (λ (es : List Entry). es) shards (range_with_len 0 count)) (parts_of_shards (λ es. es) count entries some)))

-- ---- what is made of rows, in turn

module _ {X Y : Type 0} (f : X → Y) where
  before-map : (xs : List X) (rounds : List (List X)) → map (map f) (before xs rounds) ≡ before (map f xs) (map (map f) rounds)
  before-map [] rounds = refl
  before-map (x ∷ xs) [] = ap (λ (l : List (List Y)). (f x ∷ []) ∷ l) (before-map xs [])
  before-map (x ∷ xs) (round ∷ rounds) = ap (λ (l : List (List Y)). (f x ∷ map f round) ∷ l) (before-map xs rounds)

  rounds-map : (xss : List (List X)) → map (map f) (rounds_of xss) ≡ rounds_of (map (map f) xss)
  rounds-map [] = refl
  rounds-map (xs ∷ xss) = before-map xs (rounds_of xss) ∙ ap (before (map f xs)) (rounds-map xss)

  joined-map : (rounds : List (List X)) → map f (joined_rounds rounds) ≡ joined_rounds (map (map f) rounds)
  joined-map [] = refl
  joined-map (round ∷ rounds) = map-append f round (joined_rounds rounds) ∙ ap (λ (l : List Y). map f round ++ l) (joined-map rounds)

  pub in_turn-map : (xss : List (List X)) → map f (in_turn xss) ≡ in_turn (map (map f) xss)
  in_turn-map xss = joined-map (rounds_of xss) ∙ ap joined_rounds (rounds-map xss)

pub joins_in_order : JoinsInOrder
joins_in_order count entries reports whole some each joined =
    ap (map entry_read) joined.rows ∙ (in_turn-map entry_read (map rows_in reports)
    ∙ (ap in_turn (map-map (map entry_read) rows_in reports ∙ each) ∙ shards_in_turn count entries some))
