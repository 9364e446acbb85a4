use Rattle.std.proofs.Common.{◌+◌, ◌∙◌, ap, arith, length, refl, rules, subst, sym, true, w32, FitsSigned}
use Rattle.std.proofs.lemmas.Int.{to_z-of_z}
use Rattle.std.proofs.lemmas.List.{length-set}
use Rattle.mp_anytime.specs.Bounds.{Bounded, IsBound, both_sides}
use Rattle.mp_anytime.specs.Scanning.{IsPairTaken}
use Rattle.mp_anytime.proofs.SlotLemmas.{sides_offered}
use Rattle.mp_anytime.proofs.found.Found.offer.Goals as goal

pub invariant_of-self : goal.invariant_of-self
invariant_of-self c =
    let rounding = c.self.inside.rounding in
    let bound = c.bound_of-bound.result in
    let fits : FitsSigned w32 bound = search rules in (
      c.offer.ensures.bounds rounding.m rounding.shift
          (subst (IsBound rounding.m rounding.shift _) (sym (to_z-of_z w32 bound fits))
          (c.bound_of-bound.ensures c.args.column)) c.self.invariant.0,
      c.offer-2.ensures.bounds rounding.m rounding.shift
          (subst (IsBound rounding.m rounding.shift _) (sym (to_z-of_z w32 bound fits))
          (c.bound_of-bound.ensures c.args.row)) c.self.invariant.1,
      ap length c.offer.ensures.slots ∙ length-set _ _ _ ∙ c.self.invariant.2
          ∙ sym (ap length c.offer-2.ensures.slots ∙ length-set _ _ _),
    )

pub returns-clause-profile : goal.returns-clause-profile
returns-clause-profile c =
    let inside = c.self.inside in
    let right = c.offer.new.self in
    let left = c.offer-2.new.self in
    let new = both_sides left.slots right.slots (left.room + right.room) in
    subst (λ (v : Bounded). IsPairTaken c.args.row c.args.column true c.args.dist v.profile new) c.self.view_is
    (sides_offered c.args.row c.args.column c.args.dist
    (both_sides inside.left.slots inside.right.slots (inside.left.room + inside.right.room)) new c.requires.order refl
    refl c.offer-2.ensures.slots c.offer.ensures.slots
    (omega (arith, c.offer.ensures.room, c.offer-2.ensures.room)) refl)
