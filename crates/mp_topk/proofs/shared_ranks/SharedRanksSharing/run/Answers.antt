use Rattle.std.proofs.Common.{◌≡◌, ℕ, ◌<◌, List, length, map, subst, ◌∙◌, arith}
use Rattle.mp_nums.specs.declared.nearest.Near.{Near}
use Rattle.mp_tiles.specs.Pieces.{OwnTiling, own_size}
use Rattle.mp_topk.specs.Ranking.{HasRanks, merged_ranks, slots_of}
use Rattle.mp_topk.specs.Sharing.{HasMore, series_in, whole_of}
use Rattle.mp_topk.specs.Tiling.{rank_value, ranks_together, ranks_whole}
use Rattle.mp_topk.proofs.Entering.{piece_run, within_whole}
use Rattle.mp_topk.proofs.shared_ranks.SharedRanksSharing.run.Goals as goal

-- what the worker has behind the piece
found : (k : ℕ) (inside own : OwnTiling) (old taken new : List (List Near)) (piece size more_size : ℕ) → inside ≡ own
    → ranks_together k inside ≡ ranks_whole k inside → piece < length own.tiles → length old ≡ own_size own
    → size ≡ length old → HasRanks k size (map slots_of old) → more_size ≡ length taken
    → HasRanks k more_size (map slots_of taken) → HasMore k (whole_of k (series_in own)) old taken
    → map slots_of new ≡ merged_ranks k (map slots_of taken) (rank_value k own piece)
    → (merged_ranks k (map slots_of new) (rank_value k own piece) ≡ map slots_of new)
    × (merged_ranks k (map slots_of new) (map slots_of old) ≡ map slots_of new)
    × (merged_ranks k (map slots_of new) (ranks_whole k own) ≡ ranks_whole k own)
found k inside own old taken new piece size more_size same together lt places told is told_more is_more more e =
    piece_run k own old taken new piece
    (subst (λ (o : OwnTiling). ranks_together k o ≡ ranks_whole k o) same together) lt
    (subst (λ n. HasRanks k n (map slots_of old)) (told ∙ places) is)
    (subst (λ n. HasRanks k n (map slots_of taken)) (told_more ∙ more.places ∙ places) is_more) more e

pub take-requires : goal.take-requires
take-requires g c = (
  omega arith,
  (
    omega arith,
    (
      c.requires.size,
      within_whole g.row.K (whole_of g.row.K (series_in c.args.self.now)) c.args.into.now.lists c.requires.within,
    ),
  ),
)

pub tell-requires : goal.tell-requires
tell-requires g c =
    let own = c.args.self.now in (
      omega arith,
      (
        omega arith,
        within_whole g.row.K (whole_of g.row.K (series_in own)) c.take_piece.new.into.lists
            (found g.row.K c.self.inside.tiles.now own c.args.into.now.lists c.take.new.into.lists
            c.take_piece.new.into.lists c.args.piece c.size-places.result c.size-same_places.result c.self.view_is
            c.self.invariant.together c.requires.piece c.requires.size c.size-places.ensures.size
            c.size-places.ensures.is_value c.size-same_places.ensures.size c.size-same_places.ensures.is_value
            c.take.ensures.more c.take_piece.ensures.value).2,
      ),
    )

pub returns-clause-piece : goal.returns-clause-piece
returns-clause-piece g c =
    (found g.row.K c.self.inside.tiles.now c.args.self.now c.args.into.now.lists c.take.new.into.lists
    c.take_piece.new.into.lists c.args.piece c.size-places.result c.size-same_places.result c.self.view_is
    c.self.invariant.together c.requires.piece c.requires.size c.size-places.ensures.size
    c.size-places.ensures.is_value c.size-same_places.ensures.size c.size-same_places.ensures.is_value
    c.take.ensures.more c.take_piece.ensures.value).0

pub returns-clause-more : goal.returns-clause-more
returns-clause-more g c =
    (found g.row.K c.self.inside.tiles.now c.args.self.now c.args.into.now.lists c.take.new.into.lists
    c.take_piece.new.into.lists c.args.piece c.size-places.result c.size-same_places.result c.self.view_is
    c.self.invariant.together c.requires.piece c.requires.size c.size-places.ensures.size
    c.size-places.ensures.is_value c.size-same_places.ensures.size c.size-same_places.ensures.is_value
    c.take.ensures.more c.take_piece.ensures.value).1

pub returns-clause-within : goal.returns-clause-within
returns-clause-within g c =
    (found g.row.K c.self.inside.tiles.now c.args.self.now c.args.into.now.lists c.take.new.into.lists
    c.take_piece.new.into.lists c.args.piece c.size-places.result c.size-same_places.result c.self.view_is
    c.self.invariant.together c.requires.piece c.requires.size c.size-places.ensures.size
    c.size-places.ensures.is_value c.size-same_places.ensures.size c.size-same_places.ensures.is_value
    c.take.ensures.more c.take_piece.ensures.value).2
