use Rattle.std.proofs.Common.{◌+◌, ◌-◌, length, arith}
use Rattle.std.specs.Prelude.{◌||◌}
use Rattle.mp_defs.specs.Profile.{windows_of}
use Rattle.mp_cuts.specs.Pairs.{on_its_diagonals}
use Rattle.mp_scans.specs.Offering.{in_block}
use Rattle.mp_tiles.specs.Plans.{row_series, column_series}
use Rattle.mp_tiles.specs.TakenLaws.{taken_places, taken_same, taken_then}
use Rattle.mp_tiles.specs.OfferingLaws.{turned}
use Rattle.mp_tiles.proofs.BlockLemmas.{both_sides}
use Rattle.mp_tiles.proofs.scans.scan_diagonals.Goals as goal

pub returns-clause-taken : goal.returns-clause-taken
returns-clause-taken c =
    let m = c.args.plan.now.grid.m in
    let a = row_series c.args.plan.now in
    let b = column_series c.args.plan.now in
    let tile = c.args.tile.now in
    let origin = c.args.origin in
    let near = origin + 1 - c.min.result in
    let far = origin + 1 - c.min-2.result in
    let from = c.saturating_sub-near.result in
    let to = c.saturating_sub-far.result in
    let mid = c.scan_earlier.new.slots in
    let before = turned (in_block near far 0 (windows_of m b)) in
    let behind = in_block from to 0 (length mid) in
    let rows = taken_places before m a b c.args.slots.now mid c.requires.places c.scan_earlier.ensures.taken in
    taken_same (λ i j. before i j || behind i j) (on_its_diagonals origin tile) m a b c.args.slots.now
    c.scan_later.new.slots
    (taken_then before behind m a b c.args.slots.now mid c.scan_later.new.slots c.scan_earlier.ensures.taken
    c.scan_later.ensures.taken)
    (λ i j lt lt'. both_sides tile origin near far from to (length mid) (windows_of m b) i j c.requires.ordered
    (omega (arith, c.min.ensures)) (omega (arith, c.min-2.ensures)) (omega (arith, c.saturating_sub-near.ensures))
    (omega (arith, c.saturating_sub-far.ensures)) (omega (arith, lt, rows)) lt')
