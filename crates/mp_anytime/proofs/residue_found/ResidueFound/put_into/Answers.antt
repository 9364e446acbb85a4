use Rattle.std.proofs.Common.{◌∙◌, ap, length, subst, sym}
use Rattle.mp_partial.specs.Profiled.{Profiled}
use Rattle.mp_partial.specs.Values.{Column, merged_column}
use Rattle.mp_anytime.specs.Scanning.{AreEarlier, AreLater}
use Rattle.mp_anytime.proofs.residue_found.ResidueFound.put_into.Goals as goal

pub offer_earlier-requires : goal.offer_earlier-requires
offer_earlier-requires c =
    let there = ap (λ (v : Profiled). v.left) c.self.view_is in
    record {
      places = ap length there ∙ sym c.requires.places;
      earlier = subst AreEarlier (sym there) c.requires.left;
    }

pub offer_later-requires : goal.offer_later-requires
offer_later-requires c =
    let there = ap (λ (v : Profiled). v.right) c.self.view_is in
    record {
      places = c.self.invariant ∙ ap (λ (v : Profiled). length v.left) c.self.view_is ∙ sym c.requires.places
          ∙ sym c.offer_earlier.ensures.places;
      later = subst (λ n. AreLater n c.self.inside.right) (sym c.offer_earlier.ensures.places)
          (subst (AreLater (length c.args.profile.now.all)) (sym there) c.requires.right);
    }

pub returns-clause-left : goal.returns-clause-left
returns-clause-left c =
    c.offer_later.ensures.left ∙ c.offer_earlier.ensures.left
    ∙ ap (merged_column c.args.profile.now.left) (ap (λ (v : Profiled). v.left) c.self.view_is)

pub returns-clause-right : goal.returns-clause-right
returns-clause-right c =
    c.offer_later.ensures.right
    ∙ ap (λ (v : Column). merged_column v c.self.inside.right) c.offer_earlier.ensures.right
    ∙ ap (merged_column c.args.profile.now.right) (ap (λ (v : Profiled). v.right) c.self.view_is)
