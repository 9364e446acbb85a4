use Rattle.std.proofs.Common.{◌≡◌, ℕ, ◌*◌, ◌%◌, ◌<◌, List, length, get_or, sym, ap, subst, ◌∙◌, arith}
use Rattle.std.proofs.Math.Nat.{div-lt_iff_lt-mul}
use Rattle.mp_cuts.specs.declared.cuts.Tile.{Tile}
use Rattle.mp_cuts.specs.Pairs.{no_tile}
use Rattle.mp_tiles.specs.RowParts.{part_height, part_of, parts_of}
use Rattle.mp_tiles.specs.RowPartLaws.{part_is, parts_count}
use Rattle.mp_multi.specs.Tiling.{MultiTiling, multi_together, multi_whole}
use Rattle.mp_multi.proofs.shared.SharedMulti.tile.Goals as goal

-- the piece is one of the parts
piece_below : (parts piece : ℕ) (tiles seen : List Tile) → parts_of parts tiles ≡ seen → piece < length seen
    → piece < length tiles * parts
piece_below parts piece tiles seen same lt = omega (arith, lt, ap length same, parts_count parts tiles)

pub tile-tile-requires : goal.tile-tile-requires
tile-tile-requires g c =
    let own = c.self.inside in (
      omega arith,
      (div-lt_iff_lt-mul c.self.invariant.cut.some).1
          (piece_below own.parts c.args.piece own.summed.now.tiles c.args.self.now.tiles
          (ap (λ (multi : MultiTiling). multi.tiles) c.self.view_is) c.requires),
    )

pub returns-clause-is : goal.returns-clause-is
returns-clause-is g c =
    let own = c.self.inside in
    let tiles = own.summed.now.tiles in
    let piece = c.args.piece in
    let parts = own.parts in
    let same : parts_of parts tiles ≡ c.args.self.now.tiles =
    ap (λ (multi : MultiTiling). multi.tiles) c.self.view_is in
    c.part_of_tile.ensures
    ∙ ap (λ h. part_of h c.tile-tile.result (piece % parts)) c.rows_in_part.ensures.is
    ∙ ap (λ t. part_of (part_height parts) t (piece % parts)) c.tile-tile.ensures.is
    ∙ sym (part_is parts tiles piece no_tile (piece_below parts piece tiles c.args.self.now.tiles same c.requires))
    ∙ ap (λ ts. get_or ts piece no_tile) same

pub returns-clause-together : goal.returns-clause-together
returns-clause-together g c =
    subst (λ (multi : MultiTiling). multi_together multi ≡ multi_whole multi) c.self.view_is c.self.invariant.together
