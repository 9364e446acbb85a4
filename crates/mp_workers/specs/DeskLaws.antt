-- What holds of the numbers that passes drew.
use Rattle.std.specs.Prelude.{◌≡◌, ℕ, ◌<◌, List, ◌++◌}
use Rattle.std.specs.List.{range_with_len}
use Rattle.mp_partial.specs.Together.{HaveSamePieces}
use Rattle.mp_workers.specs.Desks.{Drew, HasEachBelow, past, pieces_among}

-- The pieces that a pass drew are those that its calls of `work` drew, each of which draws one number past the pieces
-- too. Two passes that are put together drew the pieces of both. A desk that is closed after a call of `work` gave each
-- piece.
pub record DeskGivesEachPiece : Type 0 where
  pub by_work : (pieces : ℕ) (old numbers : List ℕ) (last : ℕ) (new : List ℕ) → Drew pieces old numbers last new
      → pieces_among pieces new ≡ pieces_among pieces old ++ numbers
  pub past_by_work : (pieces : ℕ) (old numbers : List ℕ) (last : ℕ) (new : List ℕ) → Drew pieces old numbers last new
      → 0 < past pieces new
  pub joined : (pieces : ℕ) (xs ys : List ℕ)
      → pieces_among pieces (xs ++ ys) ≡ pieces_among pieces xs ++ pieces_among pieces ys
  pub closed : (pieces next : ℕ) (drawn : List ℕ) → HasEachBelow next drawn → 0 < past pieces drawn
      → HaveSamePieces (pieces_among pieces drawn) (range_with_len 0 pieces)
