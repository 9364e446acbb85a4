use Rattle.std.proofs.Common.{◌∙◌, ap, length, sym}
use Rattle.mp_anytime.proofs.Told.{side_long}
use Rattle.mp_anytime.proofs.residue_sides.ResidueSide.merge.Goals as goal

pub take_others-requires-clause-others : goal.take_others-requires-clause-others
take_others-requires-clause-others c =
    sym (side_long c.other.inside.residues c.other.inside.starts.items c.args.other.now c.other.view_is
    c.other.invariant.0)
    ∙ c.requires ∙ side_long c.self.inside.residues c.self.inside.starts.items c.args.self.now c.self.view_is
    c.self.invariant.0

pub take_others-requires-clause-other_starts : goal.take_others-requires-clause-other_starts
take_others-requires-clause-other_starts c =
    ap length c.as_slice.ensures.value ∙ c.other.invariant.0
    ∙ sym (side_long c.other.inside.residues c.other.inside.starts.items c.args.other.now c.other.view_is
    c.other.invariant.0)
    ∙ c.requires ∙ side_long c.self.inside.residues c.self.inside.starts.items c.args.self.now c.self.view_is
    c.self.invariant.0
