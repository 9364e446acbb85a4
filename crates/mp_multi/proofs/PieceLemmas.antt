-- A piece of the kernel, by its tile.
use Rattle.std.proofs.Common.{◌≡◌, ℕ, [], ◌∷◌, get_or, map, sym, ap, ◌∙◌}
use Rattle.mp_defs.specs.Series.{series_of}
use Rattle.mp_partial.specs.Values.{Column, Value, merged_column, merged_columns}
use Rattle.mp_cuts.specs.declared.cuts.Tile.{Tile}
use Rattle.mp_cuts.specs.Pairs.{has_pair, no_tile}
use Rattle.mp_multi.specs.Among.{multi_among}
use Rattle.mp_multi.specs.Tiling.{MultiTiling, multi_value}

pub piece_taken : (multi seen : MultiTiling) (n : ℕ) (tile : Tile) (old new : Column) → multi ≡ seen
    → get_or multi.tiles n no_tile ≡ tile
    → new ≡ merged_column old (multi_among (has_pair 0 tile) multi.m multi.k (map series_of multi.channels))
    → ◌≡◌ {A = Value} (new ∷ []) (merged_columns (old ∷ []) (multi_value seen n))
piece_taken multi seen n tile old new same is taken =
    ap (λ (c : Column). c ∷ []) taken
    ∙ ap (λ t. merged_columns (old ∷ [])
    (multi_among (has_pair 0 t) multi.m multi.k (map series_of multi.channels) ∷ [])) (sym is)
    ∙ ap (λ o. merged_columns (old ∷ []) (multi_value o n)) same
