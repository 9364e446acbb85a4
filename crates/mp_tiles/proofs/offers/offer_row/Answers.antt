use Rattle.std.proofs.Common.{false, refl, sym}
use Rattle.mp_tiles.specs.TakenLaws.{both_ways, taken_one_from, taken_outside}
use Rattle.mp_tiles.proofs.offers.offer_row.Goals as goal

pub returns-then-has_row-clause-rows : goal.returns-then-has_row-clause-rows
returns-then-has_row-clause-rows c m a b lt lt' is =
    let within = c.if-has_row.ensures.0 refl in
    taken_one_from _ _ m a b _ _ _ _ lt lt' (sym is) within.0 within.1 c.offer_row.ensures.rows

pub returns-else-has_row-clause-rows : goal.returns-else-has_row-clause-rows
returns-else-has_row-clause-rows c m a b lt lt' is =
    taken_outside _ _ m a b _ _ (λ le within. both_ways false (c.if-has_row.ensures.1 (le, within)) refl)
