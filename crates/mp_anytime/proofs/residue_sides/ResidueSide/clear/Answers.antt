use Rattle.std.proofs.Common.{◌∙◌, ap, length, sym}
use Rattle.std.proofs.lemmas.List.{length-replicate}
use Rattle.std.specs.Prelude.{ℤ, pos}
use Rattle.mp_partial.specs.Values.{empty_column}
use Rattle.mp_anytime.proofs.Told.{always_slots, always_told, side_long}
use Rattle.mp_anytime.proofs.residue_sides.ResidueSide.clear.Goals as goal

pub invariant_of-self : goal.invariant_of-self
invariant_of-self c = (
  c.self.invariant.0
      ∙ sym (ap length c.clear.ensures ∙ length-replicate {A = ℤ} (length c.self.inside.residues) (pos 2147483647)),
  always_told c.clear.new.self (length c.self.inside.residues) c.clear.ensures,
)

pub returns : goal.returns
returns c =
    always_slots c.clear.new.self c.self.inside.starts.items (length c.self.inside.residues) c.clear.ensures
    c.self.invariant.0
    ∙ ap empty_column (sym (side_long c.self.inside.residues c.self.inside.starts.items c.args.self.now c.self.view_is
    c.self.invariant.0))
