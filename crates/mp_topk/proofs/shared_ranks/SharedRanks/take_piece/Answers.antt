use Rattle.std.proofs.Common.{◌≡◌, map, sym, subst, ap, ◌∙◌, arith}
use Rattle.mp_defs.specs.Series.{series_of}
use Rattle.mp_cuts.specs.Pairs.{has_pair}
use Rattle.mp_tiles.specs.Among.{either_way}
use Rattle.mp_tiles.specs.Pieces.{own_size}
use Rattle.mp_topk.specs.Ranking.{HasRanks, merged_ranks, slots_of}
use Rattle.mp_topk.specs.RankLaws.{ranks_merge}
use Rattle.mp_topk.specs.Tiling.{among_value}
use Rattle.mp_topk.proofs.Entering.{no_row_gives_nothing}
use Rattle.mp_topk.proofs.shared_ranks.SharedRanks.take_piece.Goals as goal

pub returns-else-tile-clause-value : goal.returns-else-tile-clause-value
returns-else-tile-clause-value g c =
    let k = g.row.K in
    let own = c.args.self.now in
    let old = map slots_of c.args.into.now.lists in
    let size : c.size-places.result ≡ own_size own = c.size-places.ensures.size ∙ c.requires.size in
    sym ((ranks_merge k).unit_last (own_size own) old
    (subst (λ n. HasRanks k n old) size c.size-places.ensures.is_value))
    ∙ ap (merged_ranks k old) (sym (no_row_gives_nothing k own.m own.samples c.args.tile.now
    (omega (arith, c.if-tile.false)))
    ∙ ap (λ t. among_value k (either_way (has_pair 0 t)) own.m (series_of own.samples)) c.requires.piece)
