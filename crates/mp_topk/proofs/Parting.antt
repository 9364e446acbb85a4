-- Parts of the tiles of a series in coarse sums.
use Rattle.std.proofs.Common.{◌≡◌, ℕ, ◌<◌, List, length, map, sym, ap, ◌∙◌}
use Rattle.mp_nums.specs.declared.samples.Sample.{Sample}
use Rattle.mp_defs.specs.Series.{series_of}
use Rattle.mp_defs.specs.Window.{windows, excl}
use Rattle.mp_results.specs.Ranks.{ranks_of}
use Rattle.mp_cuts.specs.declared.cuts.Tile.{Tile}
use Rattle.mp_cuts.specs.Cutting.{own_tiles}
use Rattle.mp_tiles.specs.PairLaws.{some_has}
use Rattle.mp_tiles.specs.Pieces.{OwnTiling}
use Rattle.mp_topk.specs.Ranking.{slots_of}
use Rattle.mp_topk.specs.Sharing.{entries_of, series_in}
use Rattle.mp_topk.specs.Tiling.{ranks_together, ranks_whole}
use Rattle.mp_topk.proofs.Entering.{parts_make_ranks}

-- they make the ranks
pub parts_are_whole : (k width : ℕ) (tiles parts : OwnTiling) (cut : List Tile) → 0 < width
    → parts.samples ≡ tiles.samples → parts.m ≡ tiles.m
    → cut ≡ own_tiles (windows (length tiles.samples) tiles.m) (excl tiles.m) width
    → ((i j : ℕ) → some_has 0 parts.tiles i j ≡ some_has 0 cut i j) → ranks_together k parts ≡ ranks_whole k parts
parts_are_whole k width tiles parts cut some samples m is same = parts_make_ranks k width parts cut some
    (is ∙ ap (λ (n : ℕ). own_tiles (windows (length tiles.samples) n) (excl n) width) (sym m)
    ∙ ap (λ (xs : List Sample). own_tiles (windows (length xs) parts.m) (excl parts.m) width) (sym samples)) same

-- and are of the same series
pub same_series : (tiles : OwnTiling) (samples : List Sample) (m : ℕ) → samples ≡ tiles.samples → m ≡ tiles.m
    → entries_of samples m ≡ series_in tiles
same_series tiles samples m e f =
    ap (λ (n : ℕ). entries_of samples n) f ∙ ap (λ (xs : List Sample). entries_of xs tiles.m) e

pub same_whole : (k : ℕ) (tiles parts : OwnTiling) → parts.samples ≡ tiles.samples → parts.m ≡ tiles.m
    → ranks_whole k parts ≡ ranks_whole k tiles
same_whole k tiles parts samples m =
    ap (λ (n : ℕ). map slots_of (ranks_of k n (series_of parts.samples))) m
    ∙ ap (λ (xs : List Sample). map slots_of (ranks_of k tiles.m (series_of xs))) samples
