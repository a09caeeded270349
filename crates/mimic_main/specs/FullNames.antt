-- What trials are called, and names that are kept one after another.
use Rattle.std.specs.Prelude.{ℕ, ◌-◌, ◌≡◌, ◌≤◌, List, [], ◌∷◌, drop, map, string_bytes, take}
use Rattle.libtest_mimic.specs.Prelude.{full_name, info_of, TestInfo, Trial}

-- the full name of a trial of which this is known (the Rust crate's)
abbrev pub full_name_of : TestInfo → List ℕ
full_name_of info = full_name (string_bytes info.kind) (string_bytes info.name)

-- the full names of the trials, by place
abbrev pub full_names_of : {R : Type 0} → List (Trial R) → List (List ℕ)
full_names_of trials = map (λ t. full_name_of (info_of t)) trials

-- the parts of the text that end at these bytes, each where the next one begins, and the first at `start`
abbrev pub parts_of : List ℕ → ℕ → List ℕ → List (List ℕ)
parts_of text start [] = []
parts_of text start (end ∷ ends) = take (end - start) (drop start text) ∷ parts_of text end ends

-- such parts make up the text from `start` on, if it has this length
abbrev pub AreEnds : ℕ → ℕ → List ℕ → Type 0
AreEnds len start [] = start ≡ len
AreEnds len start (end ∷ ends) = (start ≤ end) × AreEnds len end ends
