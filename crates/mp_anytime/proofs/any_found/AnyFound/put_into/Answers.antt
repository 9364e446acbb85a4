use Rattle.std.proofs.Common.{◌∙◌, ap, length, subst, sym}
use Rattle.mp_partial.specs.Values.{merged_column}
use Rattle.mp_anytime.specs.AnyFound.{found_of}
use Rattle.mp_anytime.specs.Scanning.{AreEarlier, AreLater}
use Rattle.mp_anytime.specs.declared.any_found.AnyFound.{AnyFound}
use Rattle.mp_anytime.proofs.any_found.AnyFound.put_into.Goals as goal

pub put_into-requires-clause-places : goal.put_into-requires-clause-places
put_into-requires-clause-places c =
    c.requires.places ∙ ap (λ (f : AnyFound). length (found_of f).left) c.in-ByResidue.is

pub put_into-requires-clause-left : goal.put_into-requires-clause-left
put_into-requires-clause-left c = subst (λ (f : AnyFound). AreEarlier (found_of f).left) c.in-ByResidue.is
    c.requires.left

pub put_into-requires-clause-right : goal.put_into-requires-clause-right
put_into-requires-clause-right c =
    subst (λ (f : AnyFound). AreLater (length c.args.profile.now.all) (found_of f).right) c.in-ByResidue.is
    c.requires.right

pub returns-in-ByResidue-clause-left : goal.returns-in-ByResidue-clause-left
returns-in-ByResidue-clause-left c =
    c.put_into.ensures.left
    ∙ ap (λ (f : AnyFound). merged_column c.args.profile.now.left (found_of f).left) (sym c.in-ByResidue.is)

pub returns-in-ByResidue-clause-right : goal.returns-in-ByResidue-clause-right
returns-in-ByResidue-clause-right c =
    c.put_into.ensures.right
    ∙ ap (λ (f : AnyFound). merged_column c.args.profile.now.right (found_of f).right) (sym c.in-ByResidue.is)

pub put_into-requires-in-ByDistance-clause-places : goal.put_into-requires-in-ByDistance-clause-places
put_into-requires-in-ByDistance-clause-places c =
    c.requires.places ∙ ap (λ (f : AnyFound). length (found_of f).left) c.in-ByDistance.is

pub put_into-requires-in-ByDistance-clause-left : goal.put_into-requires-in-ByDistance-clause-left
put_into-requires-in-ByDistance-clause-left c = subst (λ (f : AnyFound). AreEarlier (found_of f).left)
    c.in-ByDistance.is c.requires.left

pub put_into-requires-in-ByDistance-clause-right : goal.put_into-requires-in-ByDistance-clause-right
put_into-requires-in-ByDistance-clause-right c =
    subst (λ (f : AnyFound). AreLater (length c.args.profile.now.all) (found_of f).right) c.in-ByDistance.is
    c.requires.right

pub returns-in-ByDistance-clause-left : goal.returns-in-ByDistance-clause-left
returns-in-ByDistance-clause-left c =
    c.put_into-in-ByDistance.ensures.left
    ∙ ap (λ (f : AnyFound). merged_column c.args.profile.now.left (found_of f).left) (sym c.in-ByDistance.is)

pub returns-in-ByDistance-clause-right : goal.returns-in-ByDistance-clause-right
returns-in-ByDistance-clause-right c =
    c.put_into-in-ByDistance.ensures.right
    ∙ ap (λ (f : AnyFound). merged_column c.args.profile.now.right (found_of f).right) (sym c.in-ByDistance.is)
