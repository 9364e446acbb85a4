use Rattle.std.proofs.Common.{ap, arith, length}
use Rattle.mp_partial.specs.Profiled.{Profiled}
use Rattle.mp_anytime.proofs.residue_found.ResidueFound.refresh.Goals as goal

pub refresh_from-requires : goal.refresh_from-requires
refresh_from-requires c = omega (arith, c.requires.row, ap (λ (v : Profiled). length v.right) c.self.view_is)

pub refresh_from-requires-2 : goal.refresh_from-requires-2
refresh_from-requires-2 c = omega (arith, c.requires.column, ap (λ (v : Profiled). length v.left) c.self.view_is)
