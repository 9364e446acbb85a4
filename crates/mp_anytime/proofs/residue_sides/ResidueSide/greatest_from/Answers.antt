use Rattle.std.proofs.Common.{◌+◌, ◌≡◌, arith, rules, w32, FitsSigned, to_z, of_z}
use Rattle.std.proofs.lemmas.Int.{ints, to_z-of_z}
use Rattle.mp_anytime.proofs.Told.{side_long, side_quiet}
use Rattle.mp_anytime.proofs.residue_sides.ResidueSide.greatest_from.Goals as goal

pub greatest_from-requires : goal.greatest_from-requires
greatest_from-requires c = omega (
  arith,
  c.requires,
  side_long c.self.inside.residues c.self.inside.starts.items
      c.args.self.now c.self.view_is c.self.invariant.0,
)

pub returns : goal.returns
returns c = λ m k r lt above.
    let residues = c.self.inside.residues in
    let starts = c.self.inside.starts.items in
    let most = c.greatest_from.result in
    let fits : FitsSigned w32 most = search rules in
    let same : to_z w32 (of_z w32 most) ≡ most = to_z-of_z w32 most fits in
    let le = c.greatest_from.ensures k lt in
    side_quiet m (c.args.place + k) r residues starts c.args.self.now c.self.view_is c.self.invariant.0
    c.self.invariant.1 (omega (
      arith,
      lt,
      c.requires,
      side_long c.self.inside.residues c.self.inside.starts.items
          c.args.self.now c.self.view_is c.self.invariant.0,
    ))
    (omega (arith, ints, le, same, above))
