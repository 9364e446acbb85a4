use Rattle.std.proofs.Common.{◌≡◌, ◌∙◌, ◌-◌, ◌<◌, ◌^◌, ap, arith, get_or, length, refl, subst, sym, take}
use Rattle.mp_stream.specs.Limits.{limit_of}
use Rattle.mp_stream.specs.Offers.{IsReady}
use Rattle.mp_stream.specs.Rows.{distance_from, last_place, sum_at}
use Rattle.mp_stream.proofs.Moving.{are_close, are_parts, can_move_narrow, distance_small, row_is}
use Rattle.mp_stream.proofs.Steps.{given_back}
use Rattle.mp_stream.proofs.Taken.{best_as, offered_as}
use Rattle.mp_stream.proofs.rows.next_narrow_row.Goals as goal

pub overflow_cast-first : goal.overflow_cast-first
overflow_cast-first c =
    let xs = c.args.numbers.now in
    let last : length c.as_slice.result.now - 1 ≡ last_place c.args.m xs =
    omega (arith, ap length c.as_slice.ensures, c.requires.before.places.sums_are) in
    let small = distance_small c.args.m xs (last_place c.args.m xs) 0 c.requires.close c.requires.before.long
    (omega arith) in
    omega (arith, small, c.first_sum-first.ensures, ap (sum_at xs c.args.m 0) last)

pub invariant_of-moves : goal.invariant_of-moves
invariant_of-moves c =
    let parts = are_parts _ _ _ _ _ _ _ _ _ _ _ _ c.requires.before (ap (λ list. length list - 1) c.as_slice.ensures)
    (ap (take (length c.as_slice.result.now - 1)) c.as_slice-2.ensures) refl refl refl refl c.first_sum-first.ensures in
    record {
      can = can_move_narrow _ _ _ _ _ _ _ parts c.requires.close;
      close = are_close _ _ _ _ _ _ _ c.requires.before.least parts c.requires.close;
      small = λ i le. subst (λ n. n < 2 ^ 63) (sym (row_is _ _ _ _ _ _ _ parts i le))
          (distance_small c.args.m c.args.numbers.now (last_place c.args.m c.args.numbers.now) i c.requires.close
          c.requires.before.long (omega (arith, le, parts.count)));
      frees = omega (arith, parts.count, c.requires.frees, c.requires.before.long);
    }

pub take_row-best-requires-clause-ready : goal.take_row-best-requires-clause-ready
take_row-best-requires-clause-ready c =
    let parts = are_parts _ _ _ _ _ _ _ _ _ _ _ _ c.requires.before (ap (λ list. length list - 1) c.as_slice.ensures)
    (ap (take (length c.as_slice.result.now - 1)) c.as_slice-2.ensures) refl refl refl refl c.first_sum-first.ensures in
    subst (λ j. IsReady limit_of j c.args.entries.now) (sym parts.count) c.requires.ready

pub returns-clause-turned : goal.returns-clause-turned
returns-clause-turned c =
    let parts = are_parts _ _ _ _ _ _ _ _ _ _ _ _ c.requires.before (ap (λ list. length list - 1) c.as_slice.ensures)
    (ap (take (length c.as_slice.result.now - 1)) c.as_slice-2.ensures) refl refl refl refl c.first_sum-first.ensures in
    let long = c.take_row-best.auto.sums ∙ ap length c.as_mut_slice.ensures.value in
    let back = given_back c.swap.new.x.items c.args.narrow.now.next.items c.take_row-best.new.sums
    (ap (λ x. x.items) c.swap.ensures.x_after) long in
    let places = c.requires.before.places in
    record {
      row = λ i lt. ap (λ list. get_or list i 0) back
          ∙ c.take_row-best.ensures.row i (omega (arith, lt, ap length back, c.take_row-best.auto.sums))
          ∙ row_is _ _ _ _ _ _ _ parts i (omega (
            arith,
            lt,
            ap length back,
            long,
            places.next_are,
            parts.count,
            c.requires.before.long,
          ));
      places = record {
        sums_are = ap length back ∙ long ∙ places.next_are;
        next_are = ap (λ y. length y.items) c.swap.ensures.y_after ∙ places.sums_are;
      };
      room = omega (arith, ap (λ x. x.spare) c.swap.ensures.x_after, ap (λ y. y.spare) c.swap.ensures.y_after);
    }

pub returns-clause-offered : goal.returns-clause-offered
returns-clause-offered c =
    let parts = are_parts _ _ _ _ _ _ _ _ _ _ _ _ c.requires.before (ap (λ list. length list - 1) c.as_slice.ensures)
    (ap (take (length c.as_slice.result.now - 1)) c.as_slice-2.ensures) refl refl refl refl c.first_sum-first.ensures in
    offered_as limit_of c.args.free.now _
    (distance_from c.args.m c.args.numbers.now (last_place c.args.m c.args.numbers.now)) _ _ 0 c.args.end _ _
    parts.count
    (λ i lt. row_is _ _ _ _ _ _ _ parts i (omega (arith, lt, parts.count, c.requires.within)))
    c.take_row-best.ensures.offered

pub returns-clause-best : goal.returns-clause-best
returns-clause-best c =
    let parts = are_parts _ _ _ _ _ _ _ _ _ _ _ _ c.requires.before (ap (λ list. length list - 1) c.as_slice.ensures)
    (ap (take (length c.as_slice.result.now - 1)) c.as_slice-2.ensures) refl refl refl refl c.first_sum-first.ensures in
    c.take_row-best.ensures.best ∙ best_as _ _
    (distance_from c.args.m c.args.numbers.now (last_place c.args.m c.args.numbers.now)) c.args.end
    (λ i lt. row_is _ _ _ _ _ _ _ parts i (omega (arith, lt, parts.count, c.requires.within)))
