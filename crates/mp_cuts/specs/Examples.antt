-- Cuts that were computed by hand.
use Rattle.std.specs.Prelude.{◌≡◌, [], ◌∷◌, ℕ}
use Rattle.mp_cuts.specs.declared.cuts.Tile.{Tile}
use Rattle.mp_cuts.specs.Cutting.{own_tiles, both_tiles}

abbrev tile : ℕ → ℕ → ℕ → ℕ → Tile
tile first last first_row last_row =
    record { first = first; last = last; first_row = first_row; last_row = last_row }

pub record WorkedCuts : Type 0 where
  -- of four windows, outside a zone of one, one diagonal at a time
  pub four_windows : own_tiles 4 1 1 ≡ tile 2 2 0 1 ∷ tile 3 3 0 0 ∷ []
  -- of a series with one row in the second band
  pub two_bands : own_tiles 65539 1 65536
      ≡ tile 2 65537 0 65535 ∷ tile 65538 65538 0 0 ∷ tile 2 65537 65536 65536 ∷ []
  -- of two series, the first with one row in the second band
  pub two_bands_of_two : both_tiles 65537 2 65536
      ≡ tile 0 65535 1 65535 ∷ tile 65536 65537 0 1 ∷ tile 0 65535 65536 65536 ∷ []
  -- of a series and none
  pub no_windows : both_tiles 3 0 1 ≡ []
