-- Distances that were computed by hand.
use Rattle.std.specs.Prelude.{◌≡◌, ℕ, [], ◌∷◌, Option, Some, None}
use Rattle.mp_nums.specs.declared.nearest.Near.{Near}
use Rattle.mp_nums.specs.declared.nearest.Sq.{Sq}
use Rattle.mp_results.specs.Mpdist.{mpdist_of}

abbrev at : ℕ → ℕ → Option Near
at d j = Some (record { dist = record { 0 = d }; index = j })

abbrev square : ℕ → Option Sq
square d = Some (record { 0 = d })

pub record WorkedDistances : Type 0 where
  -- 1 2 3 4 and 1 2 3 4
  pub same : mpdist_of (at 0 0 ∷ at 0 1 ∷ []) (at 0 0 ∷ at 0 1 ∷ []) 4 4 ≡ square 0
  -- the place is 1: of 0, 7, 7 and 9 the second
  pub second : mpdist_of (at 9 0 ∷ at 0 1 ∷ []) (at 7 0 ∷ at 7 1 ∷ []) 4 4 ≡ square 7
  -- of 21 samples the place is 2
  pub third : mpdist_of (at 9 0 ∷ at 0 1 ∷ []) (at 7 0 ∷ at 8 1 ∷ []) 10 11 ≡ square 8
  -- the item at place 1 has no distance
  pub greatest : mpdist_of (None ∷ []) (at 4 0 ∷ []) 3 3 ≡ square 4
  pub none : mpdist_of (None ∷ None ∷ []) (None ∷ []) 4 3 ≡ None
  pub empty : mpdist_of [] [] 0 0 ≡ None
