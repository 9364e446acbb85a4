use Rattle.std.proofs.Common.{[], ◌∷◌, ◌++◌, arith, ap, ◌∙◌}
use Rattle.mp_consensus.specs.Bounds.{least_radius}
use Rattle.mp_consensus.specs.Searchers.{series_in}
use Rattle.mp_consensus.proofs.Pieces.{none_past}
use Rattle.mp_consensus.proofs.Searching.{piece_searched}
use Rattle.mp_consensus.proofs.searchers.Searcher.work.Goals as goal

pub loop-piece-preserved : goal.loop-piece-preserved
loop-piece-preserved g c =
    let s = c.args.search.now in
    let before = c.loop-piece.invariant in
    let drawn = before.drawn in
    let piece = c.loop-piece.piece in
    let done = c.in_ok-search_piece.ensures in
    let next = c.claim-piece-in-loop-piece in
    record {
      at_work = record {
        of_desk = next.ensures.desk;
        weight = next.ensures.weight ∙ done.at_work.weight;
        of_bound = done.at_work.of_bound;
        least = done.at_work.least;
      };
      drawn = (
        drawn.0 ++ piece ∷ [],
        next.ensures.drawn
            ∙ ap (λ xs. xs ++ next.result ∷ []) (ap (λ pass. pass.drawn) done.pass ∙ drawn.1),
        none_past s.pieces drawn.0 piece drawn.2 (omega (arith, c.loop-piece-test.true)),
        record {
          sound = done.sound;
          searched = piece_searched (least_radius s.m s.list.now) s.m (series_in s) drawn.0 piece
              c.loop-piece.self.best c.search_piece.new.self.best done.leads done.searched drawn.3.searched;
        },
      );
    }
