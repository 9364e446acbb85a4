use Rattle.std.proofs.Common.{◌≡◌, ◌+◌, length, ap, ◌∙◌, arith}
use Rattle.mp_cuts.specs.Cutting.{bands_of}
use Rattle.mp_cuts.specs.CutLaws.{tiles_below}
use Rattle.mp_cuts.proofs.CutLemmas.{counted, few_below, few_bands}
use Rattle.mp_cuts.proofs.cuts.Cut.count.Goals as goal

pub overflow_add-count : goal.overflow_add-count
overflow_add-count c =
    let r = c.self.inside.region in
    omega (
      arith,
      counted r c.loop-band.band c.loop-band.count c.chunks_in-count.result.first c.chunks_in-count.result.count
          c.loop-band.invariant c.chunks_in-count.ensures.tiles,
      few_below r (c.loop-band.band + 1) c.self.invariant (omega arith),
      few_bands r c.self.invariant,
    )

pub loop-band-preserved : goal.loop-band-preserved
loop-band-preserved c =
    counted c.self.inside.region c.loop-band.band c.loop-band.count c.chunks_in-count.result.first
    c.chunks_in-count.result.count c.loop-band.invariant c.chunks_in-count.ensures.tiles

pub returns : goal.returns
returns c =
    let r = c.self.inside.region in
    let all : c.loop-band.band ≡ bands_of r = omega (arith, c.bands-band-end.ensures) in
    c.loop-band.invariant ∙ ap (λ n. length (tiles_below r n)) all ∙ ap length c.self.view_is
