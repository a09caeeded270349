-- An object of fields with keys of their own has exactly these members.
use Rattle.std.proofs.Common.{◌≡◌, ◌≢◌, ℕ, Bool, true, not, ◌&&◌, List, [], ◌∷◌, Some, refl, sym, ap, ◌∙◌}
use Rattle.std.specs.List.{AllByRecursion}
use Rattle.std.specs.Str.{bytes_eq}
use Rattle.std.proofs.lemmas.Bool.{and_parts, true≢false}
use Rattle.std.proofs.lemmas.Slice.Eq.{bytes_eq-Decides}
use Rattle.serde_json.specs.Data.{Members, no_members, put}
use Rattle.serde_json.specs.Find.{get_member}
use Rattle.serde_json.proofs.Views.{get_member-put, get_member-put_other}
use Rattle.mimic_json.specs.Fields.{Field, data_of, with_fields, object_of, IsOtherKey, HaveOwnKeys, HasExactly}

-- ---- keys are distinguished by computing

abbrev pub is_other_key : List ℕ → List Field → Bool
is_other_key key [] = true
is_other_key key (f ∷ fs) = not (bytes_eq key f.0) && is_other_key key fs

abbrev pub own_keys : List Field → Bool
own_keys [] = true
own_keys (f ∷ fs) = is_other_key f.0 fs && own_keys fs

apart : (a b : List ℕ) → not (bytes_eq a b) ≡ true → a ≢ b
apart a b h e = true≢false (sym h ∙ ap not ((bytes_eq-Decides a b).1 e))

IsOtherKey-is_other_key : (key : List ℕ) (fs : List Field) → is_other_key key fs ≡ true → IsOtherKey key fs
IsOtherKey-is_other_key key [] h = tt
IsOtherKey-is_other_key key (f ∷ fs) h = let p = and_parts _ _ h in (apart key f.0 p.0, IsOtherKey-is_other_key key fs p.1)

pub HaveOwnKeys-own_keys : (fs : List Field) → own_keys fs ≡ true → HaveOwnKeys fs
HaveOwnKeys-own_keys [] h = tt
HaveOwnKeys-own_keys (f ∷ fs) h = let p = and_parts _ _ h in (IsOtherKey-is_other_key f.0 fs p.0, HaveOwnKeys-own_keys fs p.1)

-- ---- what is under a key

stays : (key : List ℕ) (fs : List Field) (found : Members) → IsOtherKey key fs → get_member key (with_fields fs found) ≡ get_member key found
stays key [] found h = refl
stays key (f ∷ fs) found h = stays key fs (put f.0 (data_of f.1) found) h.1 ∙ get_member-put_other key f.0 (data_of f.1) found h.0

each_found : (fs : List Field) (found : Members) → HaveOwnKeys fs → AllByRecursion (λ f. get_member f.0 (with_fields fs found) ≡ Some (data_of f.1)) fs
each_found [] found h = tt
each_found (f ∷ fs) found h =
    let next = put f.0 (data_of f.1) found in
    (stays f.0 fs next h.0 ∙ get_member-put f.0 (data_of f.1) found, each_found fs next h.1)

pub has_exactly : (fs : List Field) → HaveOwnKeys fs → HasExactly (object_of fs) fs
has_exactly fs h = record { each = each_found fs no_members h; others = λ key other. stays key fs no_members other }
