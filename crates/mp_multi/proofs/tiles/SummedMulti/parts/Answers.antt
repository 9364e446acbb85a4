use Rattle.std.proofs.Common.{◌≡◌, subst, arith}
use Rattle.mp_multi.specs.Sharing.{in_parts}
use Rattle.mp_multi.specs.Tiling.{MultiTiling, multi_together}
use Rattle.mp_multi.proofs.SharedLemmas.{parts_together}
use Rattle.mp_multi.proofs.tiles.SummedMulti.parts.Goals as goal

pub returns-clause-together : goal.returns-clause-together
returns-clause-together g c =
    let parts = c.parts_within.result in
    subst (λ (multi : MultiTiling). multi_together (in_parts parts multi) ≡ multi_together multi) c.self.view_is
    (parts_together parts g.row.D c.self.inside.tiles (omega (arith, c.parts_within.ensures.some))
    c.self.invariant.tiling)
