use Rattle.std.proofs.Common.{◌≡◌, ℕ, ◌+◌, ◌-◌, ◌*◌, ◌<◌, length, map}
use Rattle.std.specs.List.{range_with_len}
use Rattle.mp_cuts.specs.Cutting.{bands_of, tile_at, tiles_in}
use Rattle.mp_cuts.specs.CutLaws.{tiles_below}
use Rattle.mp_cuts.proofs.cuts.Cut.tile.Given as goal

abbrev pub invariant-loop-chunks : goal.invariant-loop-chunks
invariant-loop-chunks l =
    let r = l.self-inside.region in
    record {
      placed : l.fn.k ≡ length (tiles_below r l.band) + l.place;
      band : l.band < bands_of r;
      tiles : tiles_in r l.band ≡ map (tile_at r l.band) (range_with_len l.chunks.first l.chunks.count);
      each : (k : ℕ) → k < l.chunks.count → r.first + (l.chunks.first + k) * r.width < r.end;
    }

abbrev pub decreases-loop-chunks : goal.decreases-loop-chunks
decreases-loop-chunks l = bands_of l.self-inside.region - l.band
