use Rattle.std.proofs.Common.{◌≡◌, ◌+◌, ◌-◌, ◌≤◌, ◌∙◌, ap, arith, length, refl, rules, w32, FitsSigned}
use Rattle.std.proofs.lemmas.Int.{to_z-of_z}
use Rattle.mp_sums.specs.Residues.{residue}
use Rattle.mp_sums.specs.Sums.{square_sum}
use Rattle.mp_defs.specs.Window.{windows}
use Rattle.mp_defs.specs.SeriesLaws.{series_are_of_samples}
use Rattle.mp_anytime.specs.Rounded.{core_in, rounded_in, series_in}
use Rattle.mp_anytime.proofs.Moves.{residue_at}
use Rattle.mp_anytime.proofs.NarrowLemmas.{core_moves, no_core, residue_by_sums}
use Rattle.mp_anytime.proofs.narrow.Narrow.next_core.Goals as goal

pub returns-then-m-lt-BEHIND : goal.returns-then-m-lt-BEHIND
returns-then-m-lt-BEHIND c =
    let plan = c.args.self.now.plan in
    let m = plan.grid.m in
    let x = rounded_in plan.rounding.shift (series_in plan) in
    let row = c.args.row in
    let column = row + c.args.offset in
    to_z-of_z w32 c.args.residue c.ranges.residue ∙ c.requires.residue
    ∙ ap residue (no_core m x (row + 31) (column + 31) (row + 32 + 31) (row + 32 + c.args.offset + 31)
    (omega (arith, c.if-m-lt-BEHIND.true)))

pub returns : goal.returns
returns c =
    let own = c.args.self.now in
    let plan = own.plan in
    let m = plan.grid.m in
    let x = rounded_in plan.rounding.shift (series_in plan) in
    let n = length plan.grid.rows.now in
    let count : length own.free.now ≡ windows n m =
    own.lists.marks.places ∙ series_are_of_samples.windows_are m plan.grid.rows.now in
    let row = c.args.row in
    let offset = c.args.offset in
    let column = row + offset in
    let enters : FitsSigned w32 c.block_squares-enters.result = search rules in
    let leaves : FitsSigned w32 c.block_squares-leaves.result = search rules in
    let long : 31 ≤ m = omega (arith, c.if-m-lt-BEHIND.false) in
    residue_by_sums c.args.residue c.block_squares-enters.result c.block_squares-leaves.result (core_in plan row column)
    (square_sum 32 x (row + m) x (column + m)) (square_sum 32 x (row + 31) x (column + 31))
    (square_sum (m - 31) x (row + 32 + 31) x (column + 32 + 31)) c.ranges.residue enters leaves c.requires.residue
    (c.block_squares-enters.ensures n x own.lists.narrow (omega (arith, count, c.requires.within))
    (omega (arith, count, c.requires.within)))
    (c.block_squares-leaves.ensures n x own.lists.narrow (omega (arith, count, c.requires.within, long))
    (omega (arith, count, c.requires.within, long))) (core_moves m row column x long)
    ∙ residue_at (m - 31) (m - 31) x (row + 32 + 31) (row + 32 + 31) (column + 32 + 31)
    (row + 32 + offset + 31) refl refl
    (omega arith)
