-- What holds of every page.
use Rattle.std.proofs.Common.{◌≡◌, ℕ, suc, ◌+◌, ◌-◌, ◌≤◌, cond, Bool, true, false, List, [], ◌∷◌, length, refl, arith}
use Rattle.std.specs.Prelude.{count_by}
use Rattle.std.proofs.lemmas.List.{take_all}
use Rattle.std.proofs.lemmas.List.Sums.{sum_by-cons}
use Rattle.mimic_trial.specs.declared.outcome.Outcome.{Outcome}
use Rattle.mimic_trial.specs.declared.outcome.Outcome.TheVariants.{Passed, Failed, Ignored, Measured}
use Rattle.mimic_trial.specs.Count.{is_measured}
use Rattle.mimic_printer.specs.Json.{Entry, outcomes_in}
use Rattle.mimic_printer.proofs.EscapeLaws.{escape_laws}
use Rattle.mimic_reports.specs.declared.page.Group.{Group}
use Rattle.mimic_reports.specs.declared.page.Group.TheVariants as group
use Rattle.mimic_reports.specs.Page.{ListsAll, ListsFailures, PageLaws, StandsOnce, is_in, rows_of}
use Rattle.mimic_reports.proofs.Ids.{id_laws}

stands_once : StandsOnce
stands_once Passed = refl
stands_once (Failed message) = refl
stands_once Ignored = refl
stands_once (Measured m) = refl

one_row : (p : Bool) (e : Entry) (some : List Entry) (all : ℕ) → length some ≤ all → length (cond p (e ∷ some) some) ≤ suc all
one_row true e some all h = omega (arith, h)
one_row false e some all h = omega (arith, h)

-- a group has at most all rows
some_rows : (g : Group) (entries : List Entry) → length (rows_of g entries) ≤ length entries
some_rows g [] = omega arith
some_rows g (e ∷ entries) = one_row (is_in g e.outcome) e (rows_of g entries) (length entries) (some_rows g entries)

-- what was measured is in another group than the others
one_more : (o : Outcome) (e : Entry) (others : List Entry) (measured all : ℕ) → length others + measured ≤ all
    → length (cond (is_in group.Others o) (e ∷ others) others) + (cond (is_measured o) 1 0 + measured) ≤ suc all
one_more Passed e others measured all h = omega (arith, h)
one_more (Failed message) e others measured all h = omega (arith, h)
one_more Ignored e others measured all h = omega (arith, h)
one_more (Measured m) e others measured all h = omega (arith, h)

others_apart : (entries : List Entry) → length (rows_of group.Others entries) + count_by is_measured (outcomes_in entries) ≤ length entries
others_apart [] = omega arith
others_apart (e ∷ entries) =
    let more : count_by is_measured (e.outcome ∷ outcomes_in entries) ≡ cond (is_measured e.outcome) 1 0 + count_by is_measured (outcomes_in entries)
    = sum_by-cons (λ (o : Outcome). cond (is_measured o) 1 0) e.outcome (outcomes_in entries) in
    rw more (one_more e.outcome e (rows_of group.Others entries) (count_by is_measured (outcomes_in entries)) (length entries) (others_apart entries))

lists_failures : ListsFailures
lists_failures most entries = take_all (length entries) (rows_of group.Failed entries) (some_rows group.Failed entries)

lists_all : ListsAll
lists_all group.Failed most entries h = lists_failures most entries
lists_all group.Measured most entries h =
    take_all most (rows_of group.Measured entries) (omega (arith, h, some_rows group.Measured entries))
lists_all group.Others most entries h =
    take_all (most - count_by is_measured (outcomes_in entries)) (rows_of group.Others entries) (omega (arith, h, others_apart entries))

pub page_laws : PageLaws
page_laws = record { once = stands_once; failures = lists_failures; all = lists_all; escapes = escape_laws; ids = id_laws }
