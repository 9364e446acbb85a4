use Rattle.std.proofs.Common.{◌∙◌, ap, length, sym}
use Rattle.mp_anytime.proofs.Told.{side_long}
use Rattle.mp_anytime.proofs.residue_sides.ResidueSide.len.Goals as goal

pub returns : goal.returns
returns c =
    ap length c.as_slice.ensures.value ∙ c.self.invariant.0
    ∙ sym (side_long c.self.inside.residues c.self.inside.starts.items c.args.self.now c.self.view_is
    c.self.invariant.0)
