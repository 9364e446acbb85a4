use Rattle.std.proofs.Common.{◌≡◌, ℕ, ◌<◌, [], ◌∷◌, length, get_or, map, ap, ◌∙◌, arith}
use Rattle.mp_defs.specs.Series.{series_of}
use Rattle.mp_partial.specs.Values.{Column, merged_column, merged_columns}
use Rattle.mp_cuts.specs.declared.cuts.Tile.{Tile}
use Rattle.mp_cuts.specs.Pairs.{has_pair, no_tile}
use Rattle.mp_workers.specs.Entries.{HasMore}
use Rattle.mp_multi.specs.Among.{multi_among}
use Rattle.mp_multi.specs.Sharing.{profile_of}
use Rattle.mp_multi.specs.Tiling.{MultiTiling, multi_size, multi_together, multi_value, multi_whole}
use Rattle.mp_multi.proofs.SharedLemmas.{piece_run, within_whole}
use Rattle.mp_multi.proofs.shared.SharedMultiSharing.run.Goals as goal

-- what the worker has behind the piece
found : (own : MultiTiling) (old taken new : Column) (piece : ℕ) (tile : Tile)
    → multi_together own ≡ multi_whole own → piece < length own.tiles → length old ≡ multi_size own
    → HasMore (profile_of own) old taken → tile ≡ get_or own.tiles piece no_tile
    → new ≡ merged_column taken (multi_among (has_pair 0 tile) own.m own.k (map series_of own.channels))
    → (merged_columns (new ∷ []) (multi_value own piece) ≡ new ∷ [])
    × (merged_columns (new ∷ []) (old ∷ []) ≡ new ∷ [])
    × (merged_columns (new ∷ []) (multi_whole own) ≡ multi_whole own)
found own old taken new piece tile together lt places more is e =
    piece_run own old taken new piece together lt places more
    (e ∙ ap (λ t. merged_column taken (multi_among (has_pair 0 t) own.m own.k (map series_of own.channels))) is)

pub tell-requires : goal.tell-requires
tell-requires g c = (
  omega arith,
  (
    c.scan.ensures.size ∙ c.take.ensures.more.places ∙ c.requires.size,
    within_whole c.args.self.now c.scan.new.into.items
        (found c.args.self.now c.args.into.now.items c.take.new.into.items c.scan.new.into.items c.args.piece
        c.tile-tile.result c.tile-tile.ensures.together c.requires.piece c.requires.size c.take.ensures.more
        c.tile-tile.ensures.is
        c.scan.ensures.items).2,
  ),
)

pub returns-clause-piece : goal.returns-clause-piece
returns-clause-piece g c =
    (found c.args.self.now c.args.into.now.items c.take.new.into.items c.scan.new.into.items c.args.piece
    c.tile-tile.result c.tile-tile.ensures.together c.requires.piece c.requires.size c.take.ensures.more
    c.tile-tile.ensures.is
    c.scan.ensures.items).0

pub returns-clause-more : goal.returns-clause-more
returns-clause-more g c =
    (found c.args.self.now c.args.into.now.items c.take.new.into.items c.scan.new.into.items c.args.piece
    c.tile-tile.result c.tile-tile.ensures.together c.requires.piece c.requires.size c.take.ensures.more
    c.tile-tile.ensures.is
    c.scan.ensures.items).1

pub returns-clause-within : goal.returns-clause-within
returns-clause-within g c =
    (found c.args.self.now c.args.into.now.items c.take.new.into.items c.scan.new.into.items c.args.piece
    c.tile-tile.result c.tile-tile.ensures.together c.requires.piece c.requires.size c.take.ensures.more
    c.tile-tile.ensures.is
    c.scan.ensures.items).2
