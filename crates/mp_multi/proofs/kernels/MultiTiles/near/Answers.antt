use Rattle.std.proofs.Common.{ap, arith}
use Rattle.mp_tiles.specs.NearLaws.{bands_count, bands_few}
use Rattle.mp_multi.specs.Tiling.{multi_size}
use Rattle.mp_multi.proofs.kernels.MultiTiles.near.Goals as goal

pub returns-clause-few : goal.returns-clause-few
returns-clause-few g c =
    let bands = c.of.result in
    omega (
      arith,
      bands_count bands,
      bands_few bands.rows bands.height c.of.ensures.high,
      c.of.ensures.all,
      c.size-windows.ensures,
      ap multi_size c.self.view_is,
      c.self.invariant.channels.samples,
    )
