use Rattle.std.proofs.Common.{w32}
use Rattle.std.proofs.lemmas.Int.{wrapping_add_is, wrapping_sub_is}
use Rattle.mp_sums.proofs.residues.change_of.Goals as goal

pub returns-clause-difference : goal.returns-clause-difference
returns-clause-difference c = wrapping_sub_is w32 c.args.enters c.args.leaves c.ranges.enters c.ranges.leaves

pub returns-clause-sum : goal.returns-clause-sum
returns-clause-sum c = wrapping_add_is w32 c.args.enters c.args.leaves c.ranges.enters c.ranges.leaves
