use Rattle.std.proofs.Common.{rules, set, subst, sym, w32, FitsSigned, to_z, of_z, ℤ}
use Rattle.std.specs.Prelude.{Some}
use Rattle.std.proofs.lemmas.Int.{to_z-of_z}
use Rattle.mp_partial.specs.Values.{Column}
use Rattle.mp_anytime.specs.Bounds.{AreBounds, IsBound}
use Rattle.mp_anytime.proofs.Quiet.{bounds_put}
use Rattle.mp_anytime.proofs.sides.Side.offer.Goals as goal

pub returns-then-comes_before-clause-bounds : goal.returns-then-comes_before-clause-bounds
returns-then-comes_before-clause-bounds c = λ m shift is bounds.
    let place = c.args.place in
    let found = c.of-found.result in
    let bound : ℤ = to_z w32 (of_z w32 c.args.bound) in
    let fits : FitsSigned w32 c.args.bound = search rules in
    subst (λ (v : Column). AreBounds m shift v c.put.new.self.bounds) (sym c.put.ensures.slots)
    (subst (AreBounds m shift (set c.args.self.now.slots place found)) (sym c.put.ensures.bounds)
    (bounds_put m shift place c.args.self.now.slots c.args.self.now.bounds found bound c.requires.place bounds
    (subst (λ s. IsBound m shift s bound) (sym c.of-found.ensures)
    (subst (IsBound m shift (Some c.args.near)) (sym (to_z-of_z w32 c.args.bound fits)) is))))
