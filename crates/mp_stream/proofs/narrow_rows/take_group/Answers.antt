use Rattle.std.proofs.Common.{◌≡◌, ℕ, ◌-◌, ◌∙◌, ap, get_or, length, arith, subst, sym}
use Rattle.mp_stream.specs.Limits.{limit_of, StartsAtMost}
use Rattle.mp_stream.specs.Moves.{last_moved, moved_by}
use Rattle.mp_stream.specs.Offers.{IsReady}
use Rattle.mp_stream.proofs.Taken.{best_as, best_kept, best_starts, offered_as, offered_kept, same_kept, starts_more}
use Rattle.mp_stream.proofs.narrow_rows.take_group.Goals as goal

pub take-requires-clause-ready : goal.take-requires-clause-ready
take-requires-clause-ready c =
    let moves = c.args.moves.now in
    let last : last_moved moves ≡ length c.move_below-is_below.new.sums - 1 =
    omega (arith, c.requires.moved.places, c.move_below-is_below.auto.sums) in
    subst (λ j. IsReady limit_of j c.args.entries.now) last c.requires.ready

pub take-requires-clause-best : goal.take-requires-clause-best
take-requires-clause-best c =
    c.requires.best
    ∙ best_as c.args.moves.now.free.now (moved_by c.args.moves.now) (λ i. get_or c.move_below-is_below.new.sums i 0)
    c.args.first (λ i lt. sym (c.move_below-is_below.ensures.done i (omega (arith, lt))))

pub returns-then-is_below-clause-offered : goal.returns-then-is_below-clause-offered
returns-then-is_below-clause-offered c =
    let moves = c.args.moves.now in
    let last : length c.move_below-is_below.new.sums - 1 ≡ last_moved moves =
    omega (arith, c.requires.moved.places, c.move_below-is_below.auto.sums) in
    offered_as limit_of moves.free.now (λ i. get_or c.move_below-is_below.new.sums i 0)
    (moved_by moves) _ _ c.args.first
    c.args.end _ _ last (λ i lt. c.move_below-is_below.ensures.done i lt) c.take.ensures.offered

pub returns-then-is_below-clause-best : goal.returns-then-is_below-clause-best
returns-then-is_below-clause-best c =
    c.take.ensures.best
    ∙ best_as c.args.moves.now.free.now (λ i. get_or c.move_below-is_below.new.sums i 0) (moved_by c.args.moves.now)
    c.args.end (λ i lt. c.move_below-is_below.ensures.done i lt)

pub returns-else-is_below-clause-offered : goal.returns-else-is_below-clause-offered
returns-else-is_below-clause-offered c =
    let moves = c.args.moves.now in
    let ready = c.requires.ready in
    let seen = λ (i : ℕ). ap (λ list. get_or list i 0) c.as_slice-limits.ensures in
    offered_kept limit_of moves.free.now (moved_by moves) (last_moved moves) c.args.first c.args.end _ ready
    (λ i low high.
    let above = c.move_below-is_below.ensures.above c.if-is_below.false i low high in
    let each = ready.limits.each i (omega (arith, high, ready.rights)) in
    same_kept _ _ _ (moves.small i (omega (arith, high))) (omega (arith, above.0, each, seen i)) (ready.starts i))

pub returns-else-is_below-clause-best : goal.returns-else-is_below-clause-best
returns-else-is_below-clause-best c =
    let moves = c.args.moves.now in
    let best = c.args.best.now in
    let starts = subst (StartsAtMost c.args.first) (sym c.requires.best)
    (best_starts moves.free.now (moved_by moves) c.args.first) in
    best_kept moves.free.now (moved_by moves) c.args.first c.args.end best.found (omega arith) c.requires.best
    (λ i low high.
    let above = c.move_below-is_below.ensures.above c.if-is_below.false i low high in
    same_kept best.found _ i (moves.small i (omega (arith, high))) (omega (arith, above.1, best.exact))
    (starts_more best.found c.args.first i low starts))
