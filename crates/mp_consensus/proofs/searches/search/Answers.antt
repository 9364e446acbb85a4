use Rattle.std.proofs.Common.{◌<◌, length, map, arith, subst, sym}
use Rattle.std.proofs.lemmas.List.{length-map}
use Rattle.mp_defs.specs.Series.{series_of}
use Rattle.mp_consensus.specs.Searches.{piece_of}
use Rattle.mp_consensus.proofs.Pieces.{all_drawn, windows_there}
use Rattle.mp_consensus.proofs.Searching.{best_is_centre}
use Rattle.mp_consensus.proofs.searches.search.Goals as goal

pub run_all-requires-clause-search : goal.run_all-requires-clause-search
run_all-requires-clause-search g c κs within =
    let list = c.args.list.now in
    let count = length-map list series_of in record {
      conditions = c.requires.conditions;
      pieces_are = c.in_ok-desk.ensures.pieces;
      few = c.count_pieces-pieces.ensures.few;
      all = λ p i place window.
          subst (λ n. piece_of n p i < c.count_pieces-pieces.result) (sym count)
          (c.count_pieces-pieces.ensures.all p i (omega (arith, place, count))
          (omega (arith, window, windows_there c.args.m list p)));
    }

pub returns-clause-centre : goal.returns-clause-centre
returns-clause-centre g c =
    let list = map series_of c.args.list.now in
    let count = length-map c.args.list.now series_of in
    let found = c.in_ok-best.ensures.found in
    best_is_centre c.args.m list c.in_ok-best.best found.sound
    (λ p i place window.
    found.searched p i place window
    (all_drawn c.count_pieces-pieces.result c.close-next.result c.gather.new.pass.drawn c.close-next.ensures
    c.in_ok-best.ensures.past (piece_of (length list) p i)
    (subst (λ n. piece_of n p i < c.count_pieces-pieces.result) (sym count)
    (c.count_pieces-pieces.ensures.all p i (omega (arith, place, count))
    (omega (arith, window, windows_there c.args.m c.args.list.now p))))))
