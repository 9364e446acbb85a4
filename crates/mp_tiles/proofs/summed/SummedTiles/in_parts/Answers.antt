use Rattle.std.proofs.Common.{◌*◌, ap, arith}
use Rattle.mp_tiles.specs.RowPartLaws.{few_rows, parts_count, parts_have_pairs}
use Rattle.mp_tiles.proofs.RowPartLemmas.{parts_together}
use Rattle.mp_tiles.proofs.summed.SummedTiles.in_parts.Goals as goal

pub returns-clause-few : goal.returns-clause-few
returns-clause-few c =
    let parts = c.parts_within-parts.result in
    omega (
      arith,
      parts_count parts c.args.self.tiles,
      c.parts_within-parts.ensures.pieces,
      ap (λ n. n * parts) c.count.ensures.is,
    )

pub returns-clause-together : goal.returns-clause-together
returns-clause-together c =
    let own = c.args.self in
    parts_together c.parts_within-parts.result own.m own.samples own.tiles (omega (arith, c.parts_within-parts.ensures.some))
    (few_rows own.tiles c.count.ensures.low)

pub returns-clause-pairs : goal.returns-clause-pairs
returns-clause-pairs c i j =
    let own = c.args.self in
    parts_have_pairs c.parts_within-parts.result own.tiles i j (omega (arith, c.parts_within-parts.ensures.some))
    (few_rows own.tiles c.count.ensures.low)
