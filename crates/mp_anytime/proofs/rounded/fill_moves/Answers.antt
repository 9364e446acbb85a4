use Rattle.std.proofs.Common.{◌≡◌, ◌+◌, ◌-◌, arith, length, subst, take, drop}
use Rattle.mp_sums.specs.Residues.{AreNumbers}
use Rattle.mp_anytime.proofs.Moves.{first_numbers, part_numbers}
use Rattle.mp_anytime.proofs.rounded.fill_moves.Goals as goal

pub returns-clause-changes : goal.returns-clause-changes
returns-clause-changes c = λ x are.
    let m = c.args.m in
    let numbers = c.args.numbers.now in
    let count = length c.args.differences.now in
    let start : m ≡ 0 + m = omega arith in
    c.fill_changes.ensures.changes m x 0
    (first_numbers x count numbers are (omega (arith, c.requires.places)))
    (subst (λ q. AreNumbers x q (take (m + count - m) (drop m numbers))) start
    (part_numbers x m (m + count - m) numbers are (omega (arith, c.requires.places))))
