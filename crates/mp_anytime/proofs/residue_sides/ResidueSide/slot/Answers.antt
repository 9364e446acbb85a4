use Rattle.std.proofs.Common.{◌∙◌, ap, arith, get_or, length, List, rules, w32, FitsSigned}
use Rattle.std.specs.Prelude.{ℕ, ℤ}
use Rattle.std.proofs.lemmas.Int.{to_z-of_z}
use Rattle.mp_sums.specs.Residues.{item}
use Rattle.mp_anytime.specs.Told.{slot_by}
use Rattle.mp_anytime.proofs.Told.{side_long, side_slot}
use Rattle.mp_anytime.proofs.residue_sides.ResidueSide.slot.Goals as goal

pub at-requires : goal.at-requires
at-requires c = omega (
  arith,
  c.requires,
  side_long c.self.inside.residues c.self.inside.starts.items c.args.self.now
      c.self.view_is c.self.invariant.0,
)

pub start_at-requires : goal.start_at-requires
start_at-requires c =
    omega (
      arith,
      c.requires,
      ap length c.as_slice.ensures.value,
      c.self.invariant.0,
      side_long c.self.inside.residues c.self.inside.starts.items c.args.self.now c.self.view_is c.self.invariant.0,
    )

pub returns : goal.returns
returns c =
    let residues = c.self.inside.residues in
    let starts = c.self.inside.starts.items in
    let place = c.args.place in
    let fits : FitsSigned w32 c.at.result = search rules in
    c.slot_of.ensures
    ∙ ap (λ (z : ℤ). slot_by z c.start_at.result) (to_z-of_z w32 c.at.result fits ∙ c.at.ensures)
    ∙ ap (slot_by (item residues place))
    (c.start_at.ensures ∙ ap (λ (xs : List ℕ). get_or xs place 0) c.as_slice.ensures.value)
    ∙ side_slot residues starts c.args.self.now place c.self.view_is c.self.invariant.0
    (omega (
      arith,
      c.requires,
      side_long residues starts c.args.self.now c.self.view_is c.self.invariant.0,
    ))
