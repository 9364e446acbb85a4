use Rattle.std.proofs.Common.{◌+◌, arith}
use Rattle.mp_sums.specs.Residues.{item}
use Rattle.mp_anytime.proofs.Told.{side_long, side_quiet}
use Rattle.mp_anytime.proofs.residue_sides.ResidueSide.may_take.Goals as goal

pub are_reached_from-requires : goal.are_reached_from-requires
are_reached_from-requires c = omega (
  arith,
  c.requires,
  side_long c.self.inside.residues c.self.inside.starts.items
      c.args.self.now c.self.view_is c.self.invariant.0,
)

pub returns : goal.returns
returns c = λ is m k lt.
    let residues = c.self.inside.residues in
    let starts = c.self.inside.starts.items in
    side_quiet m (c.args.place + k) (item c.args.residues.now k) residues starts c.args.self.now c.self.view_is
    c.self.invariant.0 c.self.invariant.1 (omega (
      arith,
      lt,
      c.requires,
      side_long c.self.inside.residues c.self.inside.starts.items
          c.args.self.now c.self.view_is c.self.invariant.0,
    ))
    (c.are_reached_from.ensures is k lt)
