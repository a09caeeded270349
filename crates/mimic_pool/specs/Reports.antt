-- What was reported, and how much of it.
use Rattle.std.specs.Prelude.{ℕ, ◌≡◌, ◌+◌, List, length}
use Rattle.mimic_trial.specs.Places.{Placed}
use Rattle.mimic_pool.specs.declared.board_reports.BoardReports.{BoardReports}
use Rattle.mimic_pool.specs.declared.memory_reports.MemoryReports.{MemoryReports}

-- the rows that memory keeps, in the order of their reports
abbrev pub rows_told : MemoryReports → List Placed
rows_told reports = reports.rows.items

-- how many rows memory keeps
abbrev pub told_into : MemoryReports → ℕ
told_into reports = reports.counts.told

-- how many rows memory refused
abbrev pub refused_into : MemoryReports → ℕ
refused_into reports = reports.counts.refusals

-- unless memory refused a row, it keeps all that it was handed
abbrev pub MayHaveHeard : MemoryReports → List Placed → Type 0
MayHaveHeard reports rows = refused_into reports ≡ 0 → rows_told reports ≡ rows

module _ {R : Type 0} where
  -- how many rows were reported to a board
  abbrev pub told_to : BoardReports R → ℕ
  told_to reports = reports.counts.told

  -- how many rows a board refused
  abbrev pub refused_to : BoardReports R → ℕ
  refused_to reports = reports.counts.refusals

  -- each row that was handed over was counted, as reported or as refused
  abbrev pub HasCountedAll : BoardReports R → List Placed → Type 0
  HasCountedAll reports rows = length rows ≡ told_to reports + refused_to reports
