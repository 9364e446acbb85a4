use Rattle.std.proofs.Common.{arith}
use Rattle.mp_anytime.proofs.Told.{side_long}
use Rattle.mp_anytime.proofs.residue_sides.ResidueSide.take_lanes.Goals as goal

pub take_lanes-requires-clause-windows : goal.take_lanes-requires-clause-windows
take_lanes-requires-clause-windows c = omega (
  arith,
  c.requires.places,
  side_long c.self.inside.residues c.self.inside.starts.items c.args.self.now
      c.self.view_is c.self.invariant.0,
)
