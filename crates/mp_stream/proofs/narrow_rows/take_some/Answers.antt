use Rattle.std.proofs.Common.{◌≡◌, ◌-◌, ◌∙◌, get_or, length, arith, subst, sym}
use Rattle.mp_defs.specs.LeastLaws.{grows_by_one_candidate}
use Rattle.mp_stream.specs.Limits.{limit_of}
use Rattle.mp_stream.specs.Moves.{last_moved, moved_by}
use Rattle.mp_stream.specs.Offers.{IsReady}
use Rattle.mp_stream.specs.Rows.{row_candidate}
use Rattle.mp_stream.proofs.Taken.{best_as, offered_as, offered_then}
use Rattle.mp_stream.proofs.narrow_rows.take_some.Goals as goal

pub take-requires-clause-ready : goal.take-requires-clause-ready
take-requires-clause-ready c =
    let last : last_moved c.args.moves.now ≡ length c.args.sums.now - 1 = omega (arith, c.requires.moved.places) in
    subst (λ j. IsReady limit_of j c.args.entries.now) last c.requires.ready

pub take-requires-clause-best : goal.take-requires-clause-best
take-requires-clause-best c =
    sym (grows_by_one_candidate.no_candidates
    (row_candidate c.args.moves.now.free.now (λ i. get_or c.args.sums.now i 0)))

pub take_groups-requires-clause-ready : goal.take_groups-requires-clause-ready
take_groups-requires-clause-ready c =
    let last : length c.args.sums.now - 1 ≡ last_moved c.args.moves.now = omega (arith, c.requires.moved.places) in
    subst (λ j. IsReady limit_of j c.take.new.entries) last c.take.ensures.offered.ready

pub take_groups-requires-clause-best : goal.take_groups-requires-clause-best
take_groups-requires-clause-best c =
    c.take.ensures.best
    ∙ best_as c.args.moves.now.free.now (λ i. get_or c.args.sums.now i 0) (moved_by c.args.moves.now) 1
    (λ i lt. c.requires.moved.done i lt)

pub returns-clause-offered : goal.returns-clause-offered
returns-clause-offered c =
    let moves = c.args.moves.now in
    let last : length c.args.sums.now - 1 ≡ last_moved moves = omega (arith, c.requires.moved.places) in
    offered_then limit_of moves.free.now (moved_by moves) (last_moved moves) 0 1 c.args.end _ _ _ (omega arith)
    (omega arith)
    (offered_as limit_of moves.free.now (λ i. get_or c.args.sums.now i 0) (moved_by moves) _ _ 0 1 _ _ last
    (λ i lt. c.requires.moved.done i lt) c.take.ensures.offered) c.take_groups.ensures.offered
