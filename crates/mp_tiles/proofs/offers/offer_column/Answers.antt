use Rattle.std.proofs.Common.{false, refl, sym, ◌∙◌}
use Rattle.mp_defs.specs.DistanceLaws.{symmetric}
use Rattle.mp_tiles.specs.TakenLaws.{both_ways, taken_one_from, taken_outside}
use Rattle.mp_tiles.specs.PatchLaws.{taken_turned}
use Rattle.mp_tiles.proofs.offers.offer_column.Goals as goal

pub returns-then-has_column-clause-columns : goal.returns-then-has_column-clause-columns
returns-then-has_column-clause-columns c m a b lt lt' is =
    let within = c.if-has_column.ensures.0 refl in
    taken_turned _ _ m a b _ _ _
    (taken_one_from _ _ m b a _ _ _ _ lt' lt (sym (symmetric m b c.args.column a c.args.row ∙ is)) within.0 within.1
    c.offer_column.ensures.columns)

pub returns-else-has_column-clause-columns : goal.returns-else-has_column-clause-columns
returns-else-has_column-clause-columns c m a b lt lt' is =
    taken_turned _ _ m a b _ _ _
    (taken_outside _ _ m b a _ _ (λ le within. both_ways false (c.if-has_column.ensures.1 (le, within)) refl))
