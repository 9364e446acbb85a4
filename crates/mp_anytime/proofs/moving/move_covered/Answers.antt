use Rattle.std.proofs.Common.{◌≡◌, ◌+◌, ◌-◌, ◌∙◌, ap, arith, get_or, subst, sym}
use Rattle.std.specs.Prelude.{List, ℕ}
use Rattle.mp_nums.specs.declared.samples.Sample.{Sample}
use Rattle.mp_defs.specs.Series.{series_of}
use Rattle.mp_defs.specs.Distance.{squared_difference}
use Rattle.mp_sums.specs.Sums.{numbers_of}
use Rattle.mp_anytime.specs.Kept.{IsSumAt}
use Rattle.mp_anytime.specs.Sums.{IsMoved, sum_in}
use Rattle.mp_anytime.proofs.Putting.{done_more, places_put, rest_more}
use Rattle.mp_anytime.proofs.Reading.{then_read}
use Rattle.mp_anytime.proofs.RowSums.{close_numbers, no_upper, sum_stepped}
use Rattle.mp_anytime.proofs.moving.move_covered.Goals as goal
use Rattle.mp_anytime.proofs.moving.move_covered.Goals.{After-move_to-own}

-- the sum before
was : (c : After-move_to-own) → IsSumAt c.args.m (series_of c.args.samples.now.items)
    (c.args.last - 1 - get_or c.args.covered.now c.loop-k.k 0) (c.args.last - 1)
    (sum_in c.loop-k.sums (get_or c.args.covered.now c.loop-k.k 0))
was c =
    let d = get_or c.args.covered.now c.loop-k.k 0 in
    subst (IsSumAt c.args.m (series_of c.args.samples.now.items) (c.args.last - 1 - d) (c.args.last - 1))
    (sym (c.loop-k.invariant.rest c.loop-k.k (omega arith) (omega arith)))
    (c.requires.sums.each c.loop-k.k (omega arith))

-- what enters the window and what leaves it
enters_is : (c : After-move_to-own) → c.move_to-own.result.enters ≡ numbers_of (series_of c.args.samples.now.items)
    (c.args.last - get_or c.args.covered.now c.loop-k.k 0 - 1 + c.args.m)
enters_is c =
    c.move_to-own.ensures.enters
    ∙ ap (λ (xs : List Sample). numbers_of (series_of xs)
    (c.args.last - get_or c.args.covered.now c.loop-k.k 0 - 1 + c.args.m)) c.loop-k.invariant.read.items

leaves_is : (c : After-move_to-own) → c.move_to-own.result.leaves ≡ numbers_of (series_of c.args.samples.now.items)
    (c.args.last - get_or c.args.covered.now c.loop-k.k 0 - 1)
leaves_is c =
    c.move_to-own.ensures.leaves
    ∙ ap (λ (xs : List Sample). numbers_of (series_of xs) (c.args.last - get_or c.args.covered.now c.loop-k.k 0 - 1))
    c.loop-k.invariant.read.items

pub loop-k-preserved : goal.loop-k-preserved
loop-k-preserved c =
    let at = (goal.at.loop-k-preserved c).After-move_to-own in
    let m = c.args.m in
    let items = c.args.samples.now.items in
    let last = c.args.last in
    let covered = c.args.covered.now in
    let k = c.loop-k.k in
    let d = get_or covered k 0 in
    let sum = c.next_sum-sum.result in
    let own = c.move_to-own.result in
    let ahead = c.move_to-ahead.result in
    let step : IsMoved (squared_difference own.enters ahead.enters) (squared_difference own.leaves ahead.leaves)
    (get_or c.loop-k.sums.lower.items d 0) sum =
    subst (λ (l : List ℕ). IsMoved (squared_difference own.enters ahead.enters)
    (squared_difference own.leaves ahead.leaves) (get_or l d 0) sum) c.as_slice.ensures c.next_sum-sum.ensures in
    let here : IsSumAt m (series_of items) (last - d) last sum =
    sum_stepped m items last d (get_or c.loop-k.sums.upper.items d 0) (get_or c.loop-k.sums.lower.items d 0) sum
    own.enters own.leaves ahead.enters ahead.leaves c.requires.shortest (c.requires.diagonals k 0 (omega arith)).1
    c.requires.within c.requires.close (enters_is at) (leaves_is at) c.move_to-ahead.ensures.enters
    c.move_to-ahead.ensures.leaves step (was at) in
    record {
      done = done_more (λ q s. IsSumAt m (series_of items) (last - q) last s) covered k sum c.loop-k.sums
          c.set_lower.new.self c.requires.distinct (omega arith) c.set_lower.ensures.put c.loop-k.invariant.done here;
      rest = λ q le lt. rest_more covered k sum q c.args.sums.now c.loop-k.sums c.set_lower.new.self
          c.requires.distinct c.set_lower.ensures.put le lt (c.loop-k.invariant.rest q (omega (arith, le)) lt);
      places = places_put (last + 1) d sum c.loop-k.sums c.set_lower.new.self c.set_lower.ensures.put
          c.loop-k.invariant.places;
      room = c.set_lower.ensures.room ∙ c.loop-k.invariant.room;
      read = then_read _ _ _ _ 2 _ (omega arith) c.loop-k.invariant.read c.move_to-own.ensures.read;
    }

pub next_sum-sum-requires-clause-enters : goal.next_sum-sum-requires-clause-enters
next_sum-sum-requires-clause-enters c =
    let m = c.args.m in
    let last = c.args.last in
    let d = get_or c.args.covered.now c.loop-k.k 0 in
    let lt = (c.requires.diagonals c.loop-k.k 0 (omega arith)).1 in
    close_numbers m c.args.samples.now.items (last - d - 1 + m) (last - 1 + m) c.move_to-own.result.enters
    c.move_to-ahead.result.enters c.requires.shortest c.requires.close (omega (arith, c.requires.within, lt))
    (omega (arith, c.requires.within, lt))
    (enters_is (goal.at.next_sum-sum-requires-clause-enters c).After-move_to-own) c.move_to-ahead.ensures.enters

pub next_sum-sum-requires-clause-leaves : goal.next_sum-sum-requires-clause-leaves
next_sum-sum-requires-clause-leaves c =
    let m = c.args.m in
    let last = c.args.last in
    let d = get_or c.args.covered.now c.loop-k.k 0 in
    let lt = (c.requires.diagonals c.loop-k.k 0 (omega arith)).1 in
    close_numbers m c.args.samples.now.items (last - d - 1) (last - 1) c.move_to-own.result.leaves
    c.move_to-ahead.result.leaves c.requires.shortest c.requires.close
    (omega (arith, c.requires.within, c.requires.shortest, lt))
    (omega (arith, c.requires.within, c.requires.shortest, lt))
    (leaves_is (goal.at.next_sum-sum-requires-clause-leaves c).After-move_to-own) c.move_to-ahead.ensures.leaves

pub set_lower-requires-clause-none : goal.set_lower-requires-clause-none
set_lower-requires-clause-none c =
    let last = c.args.last in
    let d = get_or c.args.covered.now c.loop-k.k 0 in
    let lt = (c.requires.diagonals c.loop-k.k 0 (omega arith)).1 in
    no_upper c.args.m c.args.samples.now.items (last - 1 - d) (last - 1) (get_or c.loop-k.sums.upper.items d 0)
    (get_or c.loop-k.sums.lower.items d 0) c.requires.close (omega (arith, c.requires.within, lt))
    (omega (arith, c.requires.within, lt))
    (was (goal.at.set_lower-requires-clause-none c).After-move_to-own)

pub returns-clause-sums : goal.returns-clause-sums
returns-clause-sums c = record { each = λ q lt. c.loop-k.invariant.done q (omega (arith, lt)) }
