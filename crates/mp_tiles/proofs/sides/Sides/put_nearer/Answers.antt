use Rattle.std.proofs.Common.{◌∙◌, ap, sym}
use Rattle.mp_partial.specs.Values.{empty_column, merged_column}
use Rattle.mp_tiles.specs.Sides.{Sided, sides_by}
use Rattle.mp_tiles.proofs.SideLemmas.{nothing_nearer}
use Rattle.mp_tiles.proofs.sides.Sides.put_nearer.Goals as goal

pub returns-in-Some : goal.returns-in-Some
returns-in-Some c =
    c.put_none.ensures ∙ ap empty_column c.places.ensures ∙ sym (nothing_nearer c.in-Some.room.places)
    ∙ ap (λ (s : Sided). merged_column s.left s.right)
    (ap (λ room. sides_by room c.self.inside.found) (sym c.in-Some.is) ∙ c.self.view_is)
