-- What follows once an account is known: its fields, what there is room for, and the parts of all.
use Rattle.std.proofs.Common.{◌≡◌, ◌∙◌, ◌++◌, ◌+◌, ◌<◌, ◌≤◌, ℕ, [], List, ap, append-nil, arith, length, length-append}
use Rattle.mimic_pool.specs.Prelude.{Account, account, Assigned}

module _ {X : Type 0} where
  pub record HasFields (v : Account X) (parts : ℕ) (put taken : List (Assigned X)) : Type 0 where
    pub parts_are : v.parts ≡ parts
    pub put_is : v.put ≡ put
    pub taken_is : v.taken ≡ taken

  pub fields_of : (v : Account X) (parts : ℕ) (put taken : List (Assigned X)) → v ≡ account parts put taken → HasFields v parts put taken
  fields_of v parts put taken is = record {
    parts_are = ap (λ (v : Account X). v.parts) is;
    put_is = ap (λ (v : Account X). v.put) is;
    taken_is = ap (λ (v : Account X). v.taken) is;
  }

  -- one part came back, from an account that had put nothing
  pub record HasAbsorbed (new old other : Account X) : Type 0 where
    pub parts_are : new.parts ≡ old.parts + 1
    pub some_part : 0 < new.parts
    pub put_is : new.put ≡ old.put
    pub taken_is : new.taken ≡ old.taken ++ other.taken

  pub absorbed : (new old other : Account X) → new ≡ account (old.parts + other.parts) (old.put ++ other.put) (old.taken ++ other.taken) → other.parts ≡ 1 → other.put ≡ [] → HasAbsorbed new old other
  absorbed new old other is one none =
      let fields = fields_of new (old.parts + other.parts) (old.put ++ other.put) (old.taken ++ other.taken) is in
      record {
        parts_are = fields.parts_are ∙ ap (λ n. old.parts + n) one;
        some_part = omega (arith, fields.parts_are, one);
        put_is = fields.put_is ∙ ap (λ l. old.put ++ l) none ∙ append-nil old.put;
        taken_is = fields.taken_is;
      }

module _ {A : Type 0} (put taken items : List A) (room : ℕ) (fits : length put ≤ length taken + room) (all longer : List A) (same : all ≡ put) (took : longer ≡ taken ++ items) where
  -- no more can be taken than was put, so there is room for what was taken
  pub room_for : length longer ≤ length all → length items ≤ room
  room_for below = let put_len = ap length same in let taken_len = ap length took in omega (arith, length-append taken items, put_len, taken_len, fits, below)

  pub room_left : (left : ℕ) → room ≤ left + length items → length all ≤ length longer + left
  room_left left used = let put_len = ap length same in let taken_len = ap length took in omega (arith, length-append taken items, put_len, taken_len, fits, used)

-- one of those that are out came back
pub came_back : (n n' out all : ℕ) → n' ≡ n + 1 → n + (out + 1) ≡ all → n' + out ≡ all
came_back n n' out all one was = omega arith

-- none is out
pub all_back : (n all : ℕ) → n + 0 ≡ all → n ≡ all
all_back n all was = omega arith
