use Rattle.std.proofs.Common.{◌≡◌, ◌+◌, ◌-◌, ◌*◌, ◌≤◌, length, refl, sym, ap, ◌∙◌, arith}
use Rattle.std.specs.Prelude.{Some}
use Rattle.std.proofs.Math.Nat.{mul-le-mul_left}
use Rattle.mp_cuts.specs.CutLaws.{tiles_below}
use Rattle.mp_cuts.proofs.CutLemmas.{band_there, counted, tile_found}
use Rattle.mp_cuts.proofs.cuts.Cut.tile.Goals as goal

pub chunks_in-chunks-requires-clause-band : goal.chunks_in-chunks-requires-clause-band
chunks_in-chunks-requires-clause-band c =
    band_there c.self.inside.region 0 c.args.k c.args.k c.args.self.now c.self.view_is c.requires (omega arith)
    (omega arith)

pub chunks_in-chunks-requires-in-loop-chunks-clause-band : goal.chunks_in-chunks-requires-in-loop-chunks-clause-band
chunks_in-chunks-requires-in-loop-chunks-clause-band c =
    let r = c.self.inside.region in
    let band = c.loop-chunks.band in
    let chunks = c.loop-chunks.chunks in
    let inv = c.loop-chunks.invariant in
    let more = counted r band (length (tiles_below r band)) chunks.first chunks.count refl inv.tiles in
    band_there r (band + 1) (c.loop-chunks.place - chunks.count) c.args.k c.args.self.now c.self.view_is c.requires
    (omega (arith, inv.placed, more)) (omega (arith, inv.band))

pub loop-chunks-preserved : goal.loop-chunks-preserved
loop-chunks-preserved c =
    let r = c.self.inside.region in
    let band = c.loop-chunks.band in
    let chunks = c.loop-chunks.chunks in
    let inv = c.loop-chunks.invariant in
    let more = counted r band (length (tiles_below r band)) chunks.first chunks.count refl inv.tiles in
    let placed : c.args.k ≡ length (tiles_below r (band + 1)) + (c.loop-chunks.place - chunks.count) =
    omega (arith, inv.placed, more) in
    record {
      placed = placed;
      band = band_there r (band + 1) (c.loop-chunks.place - chunks.count) c.args.k c.args.self.now c.self.view_is
          c.requires placed (omega (arith, inv.band));
      tiles = c.chunks_in-chunks-in-loop-chunks.ensures.tiles;
      each = c.chunks_in-chunks-in-loop-chunks.ensures.each;
    }

pub overflow_add-chunks : goal.overflow_add-chunks
overflow_add-chunks c =
    let r = c.self.inside.region in
    let k = c.loop-chunks.chunks.first + c.loop-chunks.place in
    let least : k * 1 ≤ k * r.width = mul-le-mul_left k c.self.invariant.wide in
    omega (
      arith,
      least,
      c.loop-chunks.invariant.each c.loop-chunks.place (omega arith),
      c.self.invariant.few_diagonals,
    )

pub returns : goal.returns
returns c =
    let inv = c.loop-chunks.invariant in
    tile_found c.self.inside.region c.loop-chunks.band c.loop-chunks.place c.args.k c.loop-chunks.chunks.first
    c.loop-chunks.chunks.count c.args.self.now c.self.view_is inv.band inv.tiles (omega arith) inv.placed
    ∙ ap Some (sym c.tile.ensures)
