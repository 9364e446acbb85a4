use Rattle.mp_skips.specs.Needs.{IsRowsNeed}
use Rattle.mp_skips.proofs.needs.rows_need.Given as goal

abbrev pub invariant-loop-k : goal.invariant-loop-k
invariant-loop-k g l = IsRowsNeed l.coarse (g.O.Offers.keeps_row l.into) l.first l.row l.k l.need
