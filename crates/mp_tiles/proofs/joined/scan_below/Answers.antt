use Rattle.std.proofs.Common.{ℕ, ◌+◌, ◌-◌, ◌<◌, inl, inr, length, drop, refl, sym, ap}
use Rattle.std.proofs.Common.{◌∙◌, arith}
use Rattle.mp_cuts.specs.Pairs.{has_pair}
use Rattle.mp_tiles.specs.Plans.{column_series}
use Rattle.mp_tiles.proofs.RowLemmas.{part_taken}
use Rattle.mp_tiles.proofs.JoinedLemmas.{rows_to_end, below_pairs, not_below}
use Rattle.mp_tiles.proofs.joined.scan_below.Goals as goal

pub scan_later-requires-clause-rows : goal.scan_later-requires-clause-rows
scan_later-requires-clause-rows c =
    let plan = c.args.coarse.now.plan in
    let tile = c.args.tile.now in
    c.rows_between-plan.ensures.rows
    ∙ rows_to_end plan.grid.m plan.grid.rows.now (length c.args.slots.now) tile.first_row plan.some_samples
    c.requires.places
    (omega (arith, c.requires.tile.some_rows, c.requires.tile.last_row, c.requires.places))
    ∙ ap (λ (n : ℕ). drop n plan.grid.rows.now) c.requires.group

pub returns-clause-taken : goal.returns-clause-taken
returns-clause-taken c =
    let plan = c.args.coarse.now.plan in
    let tile = c.args.tile.now in
    let w = length c.args.slots.now in
    let top = tile.first_row in
    let rows = c.rows_between-plan.ensures in
    let below = c.tile_below-below in
    let first : top < w = omega (arith, c.requires.tile.some_rows, c.requires.tile.last_row, c.requires.places) in
    part_taken (has_pair 0 below.result) (has_pair (w - 1) tile) plan.grid.m w top (w - top) (w + plan.grid.m - 1)
    plan.grid.rows.now (column_series plan) c.args.slots.now c.scan_later.new.slots plan.some_samples
    (omega (arith, first)) (omega (arith, first)) (sym c.requires.places) (omega (arith, first)) refl
    (omega (arith, c.scan_later.ensures.places))
    (λ i j _. below_pairs tile below.result w top i j first refl c.requires.later c.requires.tile.ordered
    below.ensures.first below.ensures.last below.ensures.first_row below.ensures.last_row)
    (λ i j out lt. elim out [
      | inl before ↦ not_below tile w top i j refl before
      | inr behind ↦ absurd (omega (arith, behind, lt, first))
    ])
    (rw (rows.m, rows.rows, rows.columns) at c.scan_later.ensures.taken)
