use Rattle.std.proofs.Common.{arith}
use Rattle.mp_anytime.proofs.Told.{side_long}
use Rattle.mp_anytime.proofs.residue_sides.ResidueSide.refresh_from.Goals as goal

pub refresh_from-requires : goal.refresh_from-requires
refresh_from-requires c = omega (
  arith,
  c.requires,
  side_long c.self.inside.residues c.self.inside.starts.items
      c.args.self.now c.self.view_is c.self.invariant.0,
)
