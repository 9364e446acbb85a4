use Rattle.std.proofs.Common.{◌∙◌, refl, rules, sym}
use Rattle.mp_tiles.specs.Pieces.{two_columns}
use Rattle.mp_tiles.proofs.SideLemmas.{nothing_merged}
use Rattle.mp_tiles.proofs.sides.SidesPart.merge.Goals as goal

pub returns-else-is_none-clause-value : goal.returns-else-is_none-clause-value
returns-else-is_none-clause-value c =
    nothing_merged c.other.inside.room c.other.inside.found c.args.other.now c.args.self.now c.other.view_is
    (search rules) c.requires (sym c.len-places.ensures.right ∙ c.len-places.ensures.left)

pub returns-else-is_none-clause-is_value : goal.returns-else-is_none-clause-is_value
returns-else-is_none-clause-is_value c =
    two_columns _ _ _ refl (sym c.len-places.ensures.right ∙ c.len-places.ensures.left)
