use Rattle.std.proofs.Common.{◌+◌, arith, get_or, subst, sym}
use Rattle.std.specs.Prelude.{None}
use Rattle.mp_partial.specs.Profiled.{Profiled}
use Rattle.mp_sums.specs.Residues.{item}
use Rattle.mp_anytime.specs.Bounds.{AreTaken, IsQuiet}
use Rattle.mp_anytime.specs.Scanning.{is_pair_from}
use Rattle.mp_anytime.specs.Told.{bounded_by}
use Rattle.mp_anytime.proofs.Blocks.{for_these, still_placed}
use Rattle.mp_anytime.proofs.Quiet.{quiet_lanes}
use Rattle.mp_anytime.proofs.residue_found.ResidueFound.take_block.Goals as goal

pub refresh-requires : goal.refresh-requires
refresh-requires c =
    let narrow = c.args.narrow.now in
    let new = still_placed narrow.plan _ _ c.args.self.now c.take_residues.new.self narrow.lists.marks.places
    c.requires.places c.take_residues.ensures in
    record {
      row = omega (arith, new.sides.right, c.requires.within);
      column = omega (arith, new.sides.left, c.requires.within);
    }

pub returns-then-may_give_some : goal.returns-then-may_give_some
returns-then-may_give_some c =
    let plan = c.args.narrow.now.plan in
    let row = c.args.core.row in
    let offset = c.args.offset in
    subst (λ (f : Profiled). AreTaken plan (is_pair_from offset row (row + 32)) (bounded_by plan c.args.self.now)
    (bounded_by plan f)) (sym c.refresh.ensures)
    (subst (λ n. AreTaken plan (is_pair_from offset row (row + n)) (bounded_by plan c.args.self.now)
    (bounded_by plan c.take_residues.new.self)) c.fill_residues.ensures.places c.take_residues.ensures)

pub returns-else-may_give_some : goal.returns-else-may_give_some
returns-else-may_give_some c =
    let narrow = c.args.narrow.now in
    let plan = narrow.plan in
    let found = c.args.self.now in
    let row = c.args.core.row in
    let offset = c.args.offset in
    let residues = c.fill_residues.new.residues in
    let unrounded = sym (plan.exact narrow.lists.exact).unrounded in
    quiet_lanes plan row offset residues (bounded_by plan found) (for_these narrow found c.requires.places)
    c.requires.apart (λ k lt. c.fill_residues.ensures.residues k lt (omega (arith, lt, c.requires.within)))
    (λ k lt. subst (λ n. IsQuiet plan.grid.m n (get_or found.right (row + k) None) (item residues k)) unrounded
    (c.may_give_some.ensures.rows c.if-may_give_some.false plan.grid.m k lt))
    (λ k lt. subst (λ n. IsQuiet plan.grid.m n (get_or found.left (row + offset + k) None) (item residues k)) unrounded
    (c.may_give_some.ensures.columns c.if-may_give_some.false plan.grid.m k lt))
    c.may_give_some.ensures.lesser
