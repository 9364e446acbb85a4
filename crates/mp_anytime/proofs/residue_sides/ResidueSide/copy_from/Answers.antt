use Rattle.std.proofs.Common.{◌∙◌, ap, length, sym}
use Rattle.mp_anytime.proofs.Told.{side_long}
use Rattle.mp_anytime.proofs.residue_sides.ResidueSide.copy_from.Goals as goal

pub copy_from-requires : goal.copy_from-requires
copy_from-requires c =
    sym (side_long c.other.inside.residues c.other.inside.starts.items c.args.other.now c.other.view_is
    c.other.invariant.0)
    ∙ c.requires ∙ side_long c.self.inside.residues c.self.inside.starts.items c.args.self.now c.self.view_is
    c.self.invariant.0

pub copy_starts-requires : goal.copy_starts-requires
copy_starts-requires c =
    ap length c.as_slice.ensures.value ∙ c.other.invariant.0
    ∙ sym (side_long c.other.inside.residues c.other.inside.starts.items c.args.other.now c.other.view_is
    c.other.invariant.0)
    ∙ c.requires ∙ side_long c.self.inside.residues c.self.inside.starts.items c.args.self.now c.self.view_is
    c.self.invariant.0
    ∙ sym (ap length c.as_mut_slice.ensures.value ∙ c.self.invariant.0)
