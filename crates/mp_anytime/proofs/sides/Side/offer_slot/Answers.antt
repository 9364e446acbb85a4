use Rattle.std.proofs.Common.{rules, subst, sym, w32, FitsSigned}
use Rattle.std.proofs.lemmas.Int.{to_z-of_z}
use Rattle.mp_anytime.specs.Bounds.{IsBound}
use Rattle.mp_anytime.proofs.sides.Side.offer_slot.Goals as goal

pub returns-then-is_small-clause-bounds : goal.returns-then-is_small-clause-bounds
returns-then-is_small-clause-bounds c =
    let rounding = c.args.rounding.now in
    let bound = c.bound_of.result in
    let fits : FitsSigned w32 bound = search rules in
    c.offer.ensures.bounds rounding.m rounding.shift
    (subst (IsBound rounding.m rounding.shift _) (sym (to_z-of_z w32 bound fits))
    (c.bound_of.ensures c.in-Some.near.index)) c.requires.bounds
