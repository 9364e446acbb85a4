use Rattle.std.proofs.Common.{arith, ap, ◌∙◌, sym}
use Rattle.std.proofs.lemmas.List.{length-map}
use Rattle.mp_defs.specs.Series.{series_of}
use Rattle.mp_consensus.specs.Searches.{piece_of}
use Rattle.mp_consensus.specs.Searchers.{Leaves, LeavesBlock, LeavesPiece}
use Rattle.mp_consensus.proofs.Pieces.{held, if_ok, none_held, windows_there}
use Rattle.mp_consensus.proofs.searchers.Searcher.search_piece.Goals as goal

pub returns-in-Some-clause-searched : goal.returns-in-Some-clause-searched
returns-in-Some-clause-searched c =
    let s = c.args.search.now in
    let best = c.take_block.new.self.best in
    let count = length-map s.list.now series_of in
    if_ok c.take_block.result (LeavesBlock s best c.in-Some.block) (LeavesPiece s best c.args.piece)
    (λ leaves p i place window e.
    held (Leaves s best) c.block_at.result c.in-Some.block p i c.in-Some.is
    (c.block_at.ensures.holds p i (omega (arith, place, count))
    (omega (arith, window, windows_there s.m s.list.now p)) (ap (λ n. piece_of n p i) (sym count) ∙ e)) leaves)
    c.take_block.ensures.searched

pub returns-in-None-clause-searched : goal.returns-in-None-clause-searched
returns-in-None-clause-searched c = λ p i place window e.
    let s = c.args.search.now in
    let count = length-map s.list.now series_of in
    absurd (none_held c.block_at.result p i c.in-None.is
    (c.block_at.ensures.holds p i (omega (arith, place, count))
    (omega (arith, window, windows_there s.m s.list.now p)) (ap (λ n. piece_of n p i) (sym count) ∙ e)))
