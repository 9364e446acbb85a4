use Rattle.std.proofs.Common.{◌≡◌, ◌+◌, ◌-◌, ◌*◌, ◌/◌, ◌<◌, map, sym, ap, subst, ◌∙◌, arith}
use Rattle.std.specs.List.{range_with_len}
use Rattle.std.specs.Int.{div_ceil}
use Rattle.mp_cuts.specs.Cutting.{tile_at}
use Rattle.mp_cuts.proofs.CutLemmas.{first_chunk, end_chunk, tiles_are, chunk_starts}
use Rattle.mp_cuts.proofs.cuts.Region.chunks_in.Goals as goal

from_is : (c : goal.After-saturating_sub-3)
    → first_chunk c.args.self.now c.args.band ≡ c.saturating_sub.result / c.args.self.now.width
from_is c =
    let r = c.args.self.now in
    let same : r.origin + 1 - (c.args.band * 65536 + 65536) - r.first ≡ c.saturating_sub.result = omega arith in
    ap (λ z. z / r.width) same

count_is : (c : goal.After-saturating_sub-3)
    → end_chunk c.args.self.now c.args.band - first_chunk c.args.self.now c.args.band ≡ c.saturating_sub-3.result
count_is c =
    let r = c.args.self.now in
    let same : r.end - c.args.band * 65536 - r.first ≡ c.saturating_sub-2.result = omega arith in
    let to : end_chunk r c.args.band ≡ c.div_ceil-to.result =
    ap (λ u. div_ceil u r.width) same ∙ sym c.div_ceil-to.ensures in
    omega (arith, to, from_is c, c.saturating_sub-3.ensures)

pub returns-clause-tiles : goal.returns-clause-tiles
returns-clause-tiles c =
    let r = c.args.self.now in
    let band = c.args.band in
    tiles_are r band c.requires.region c.requires.band
    ∙ ap (λ first. map (tile_at r band) (range_with_len first (end_chunk r band - first_chunk r band))) (from_is c)
    ∙ ap (λ n. map (tile_at r band) (range_with_len (c.saturating_sub.result / r.width) n)) (count_is c)

pub returns-clause-each : goal.returns-clause-each
returns-clause-each c = λ k lt.
    let r = c.args.self.now in
    subst (λ first. r.first + (first + k) * r.width < r.end) (from_is c)
    (chunk_starts r c.args.band k c.requires.region (omega (arith, lt, count_is c)))
