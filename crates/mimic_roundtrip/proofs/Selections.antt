-- What is selected of the shards.
use Rattle.std.proofs.Common.{◌≡◌, List, [], ◌∷◌, map, refl, sym, ap, ap₂, subst, ◌∙◌, inl, inr}
use Rattle.std.specs.List.{AllZip}
use Rattle.std.specs.Prelude.{IsPermutation}
use Rattle.std.proofs.lemmas.List.Sorted.{IsPermutation-sym}
use Rattle.libtest_mimic.specs.Selection.{IsDropped, LeavesOut}
use Rattle.mimic_join.specs.Joined.{all_of}
use Rattle.mimic_join.specs.Turns.{in_turn}
use Rattle.mimic_join.proofs.Turns.{each-in_turn, parts-in_turn, shards_in_turn}
use Rattle.mimic_roundtrip.specs.Joined.{SelectsShards, shards_of}
use Rattle.mimic_roundtrip.proofs.JoinedRuns.{IsReportedBy, all_of-all, reported_of}

module _ {X : Type 0} (Out : X → Type 0) where
  abbrev Keeps : X → List X → Type 0
  Keeps x part = IsReportedBy Out (λ (a b : X). a ≡ b) x part

  each_itself : (xs : List X) → AllZip (λ (a b : X). a ≡ b) xs xs
  each_itself [] = tt
  each_itself (x ∷ xs) = (refl, each_itself xs)

  -- an item has one part only
  one_part : (x : X) (a b : List X) → Keeps x a → Keeps x b → a ≡ b
  one_part x a b (inl h) (inl k) = h.1 ∙ sym k.1
  one_part x a b (inl h) (inr k) = absurd (k.0 h.0)
  one_part x a b (inr h) (inl k) = absurd (h.0 k.0)
  one_part x a b (inr h) (inr k) = h.1.1 ∙ (ap (λ (y : X). y ∷ []) (sym h.1.2 ∙ k.1.2) ∙ sym k.1.1)

  one_list : (xs : List X) (ks ls : List (List X)) → AllZip Keeps xs ks → AllZip Keeps xs ls → ks ≡ ls
  one_list [] [] [] h k = refl
  one_list [] [] (b ∷ ls) h k = absurd k
  one_list [] (a ∷ ks) ls h k = absurd h
  one_list (x ∷ xs) [] ls h k = absurd h
  one_list (x ∷ xs) (a ∷ ks) [] h k = absurd k
  one_list (x ∷ xs) (a ∷ ks) (b ∷ ls) h k = ap₂ (λ (y : List X) (ys : List (List X)). y ∷ ys) (one_part x a b h.0 k.0) (one_list xs ks ls h.1 k.1)

  -- the parts of the items of each list
  abbrev AllParts : List (List X) → List (List X) → Type 0
  AllParts xss kepts = (parts : List (List (List X))) × AllZip (AllZip Keeps) xss parts × (map all_of parts ≡ kepts)

  all_parts : (xss kepts : List (List X)) → AllZip (LeavesOut Out) xss kepts → AllParts xss kepts
  all_parts [] [] h = ([], tt, refl)
  all_parts [] (k ∷ kepts) h = absurd h
  all_parts (xs ∷ xss) [] h = absurd h
  all_parts (xs ∷ xss) (kept ∷ kepts) h =
      let own = reported_of Out (λ (a b : X). a ≡ b) xs kept kept h.0 (each_itself kept) in
      let more = all_parts xss kepts h.1 in
      (own.0 ∷ more.0, (own.1, more.1), ap₂ (λ (y : List X) (ys : List (List X)). y ∷ ys) own.2 more.2)

  pub kept_in_turn : (xss kepts : List (List X)) (xs kept : List X) → in_turn xss ≡ xs → AllZip (LeavesOut Out) xss kepts → LeavesOut Out xs kept → IsPermutation (all_of kepts) kept
  kept_in_turn xss kepts xs kept same each left =
      let all = all_parts xss kepts each in
      let own = reported_of Out (λ (a b : X). a ≡ b) xs kept kept left (each_itself kept) in
      let turned : AllZip Keeps xs (in_turn all.0) = subst (λ l. AllZip Keeps l (in_turn all.0)) same (each-in_turn Keeps xss all.0 all.1) in
      let first : all_of (in_turn all.0) ≡ kept = ap all_of (one_list xs (in_turn all.0) own.0 turned own.1) ∙ own.2 in
      let last : all_of (all_of all.0) ≡ all_of kepts = sym (all_of-all all.0) ∙ ap all_of all.2 in
      IsPermutation-sym _ _ (subst (IsPermutation kept) last (subst (λ l. IsPermutation l (all_of (all_of all.0))) first (parts-in_turn (λ (part : List X). part) all.0)))

pub selects_shards : {R : Type 0} → SelectsShards R
selects_shards args count trials selected selections some each selection =
    kept_in_turn (λ t. IsDropped args t) (shards_of count trials) selections trials selected (shards_in_turn count trials some) each selection
