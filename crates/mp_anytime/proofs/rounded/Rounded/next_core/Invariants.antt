use Rattle.std.proofs.Common.{◌≡◌, ◌+◌, ◌-◌}
use Rattle.mp_sums.specs.Sums.{square_sum}
use Rattle.mp_sums.specs.Residues.{residue}
use Rattle.mp_anytime.specs.Rounded.{rounded_in, series_in}
use Rattle.mp_anytime.proofs.rounded.Rounded.next_core.Given as goal

abbrev pub invariant-loop-k : goal.invariant-loop-k
invariant-loop-k l =
    let plan = l.self.plan in
    let x = rounded_in plan.rounding.shift (series_in plan) in
    l.moved ≡ residue (square_sum (plan.grid.m - 31) x (l.row + 31 + l.k) x (l.row + l.offset + 31 + l.k))
