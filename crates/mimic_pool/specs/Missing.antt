-- The iterator over missing places.
use Rattle.std.specs.Prelude.{ℕ, ◌-◌, ◌==◌, List, filter, length, slice_index_or}
use Rattle.std.specs.List.{range_with_len}
use Rattle.mimic_pool.specs.declared.desk.Missing.{Missing}

-- of this many places from this one on, those whose number is 0
abbrev pub free_from : ℕ → ℕ → List ℕ → List ℕ
free_from place count numbers = filter (λ p. slice_index_or numbers p 0 == 0) (range_with_len place count)

-- the places that are still to come
abbrev pub missing_items : Missing → List ℕ
missing_items missing = free_from missing.next (length missing.numbers.now - missing.next) missing.numbers.now
