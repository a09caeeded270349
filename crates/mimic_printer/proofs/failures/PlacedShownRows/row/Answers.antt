use Rattle.std.proofs.Common.{◌≡◌, ◌<◌, ℕ, All, get_or, length, map, rules, subst}
use Rattle.std.proofs.lemmas.List.Elements.{All-get_or}
use Rattle.mimic_trial.specs.Places.{placed_at}
use Rattle.mimic_printer.specs.declared.failures.Placed.{Placed}
use Rattle.mimic_printer.specs.Row.{label_of, rows_at}
use Rattle.mimic_printer.proofs.FailedRows.{length-rows_at, row_is_at}
use Rattle.mimic_printer.proofs.failures.PlacedShownRows.row.Goals as goal

-- each place has an info and an outcome
abbrev HasItsPlaces : Placed → Type 0
HasItsPlaces rows = (length rows.infos.now ≡ length rows.outcomes.now) × All (λ p. p < length rows.infos.now) rows.order.now

-- the number of a row is that of its place
within-order : (rows : Placed) (k : ℕ) → HasItsPlaces rows → k < length (rows_at (map label_of rows.infos.now) (placed_at rows.order.now rows.outcomes.now)) → k < length rows.order.now
within-order rows k h w = subst (λ n. k < n) (length-rows_at rows.infos.now rows.order.now rows.outcomes.now h.0 h.1) w

-- the place has an info
within-infos : (rows : Placed) (k : ℕ) → HasItsPlaces rows → k < length rows.order.now → get_or rows.order.now k 0 < length rows.infos.now
within-infos rows k h w = All-get_or (λ p. p < length rows.infos.now) rows.order.now k 0 w h.1

pub bounds-self-number : goal.bounds-self-number
bounds-self-number c = within-order c.args.self.now c.args.number c.requires.can_show c.requires.within

pub offset_bounds-self-number : goal.offset_bounds-self-number
offset_bounds-self-number c = let within = within-order c.args.self.now c.args.number c.requires.can_show c.requires.within in search rules

pub bounds-self-place : goal.bounds-self-place
bounds-self-place c =
    let within = within-order c.args.self.now c.args.number c.requires.can_show c.requires.within in
    within-infos c.args.self.now c.args.number c.requires.can_show within

pub bounds-self-place-2 : goal.bounds-self-place-2
bounds-self-place-2 c =
    let within = within-order c.args.self.now c.args.number c.requires.can_show c.requires.within in
    let place = get_or c.args.self.now.order.now c.args.number 0 in
    subst (λ n. place < n) c.requires.can_show.0 (within-infos c.args.self.now c.args.number c.requires.can_show within)

pub returns : goal.returns
returns c =
    let rows = c.args.self.now in
    let within = within-order rows c.args.number c.requires.can_show c.requires.within in
    row_is_at rows.infos.now rows.order.now rows.outcomes.now c.args.number _ _ c.requires.can_show.0 c.requires.can_show.1 within
