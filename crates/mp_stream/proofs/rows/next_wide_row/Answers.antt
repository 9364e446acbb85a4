use Rattle.std.proofs.Common.{◌∙◌, ◌-◌, ap, arith, get_or, length, refl, take}
use Rattle.mp_stream.specs.Rows.{last_place}
use Rattle.mp_stream.proofs.Moving.{are_close_wide, are_parts, can_move_wide, row_is, sums_small}
use Rattle.mp_stream.proofs.Steps.{given_back}
use Rattle.mp_stream.proofs.rows.next_wide_row.Goals as goal

pub move_sums-requires-clause-can : goal.move_sums-requires-clause-can
move_sums-requires-clause-can c =
    let parts = are_parts _ _ _ _ _ _ _ _ _ _ _ _ c.requires.before (ap (λ list. length list - 1) c.as_slice.ensures)
    (ap (take (length c.as_slice.result.now - 1)) c.as_slice-2.ensures) refl refl refl refl c.first_sum-first.ensures in
    can_move_wide _ _ c.args.range.now _ _ _ _ _ c.sums_fit-is_coarse.ensures.small c.requires.before.width parts
    c.requires.range

pub move_sums-requires-clause-close : goal.move_sums-requires-clause-close
move_sums-requires-clause-close c = λ is.
    let parts = are_parts _ _ _ _ _ _ _ _ _ _ _ _ c.requires.before (ap (λ list. length list - 1) c.as_slice.ensures)
    (ap (take (length c.as_slice.result.now - 1)) c.as_slice-2.ensures) refl refl refl refl c.first_sum-first.ensures in
    are_close_wide _ _ c.args.range.now _ _ _ _ _ (c.sums_fit-is_close.ensures.fit.0 is) parts c.requires.range

pub returns-clause-row : goal.returns-clause-row
returns-clause-row c = λ i lt.
    let parts = are_parts _ _ _ _ _ _ _ _ _ _ _ _ c.requires.before (ap (λ list. length list - 1) c.as_slice.ensures)
    (ap (take (length c.as_slice.result.now - 1)) c.as_slice-2.ensures) refl refl refl refl c.first_sum-first.ensures in
    let long = c.move_sums.auto.sums ∙ ap length c.as_mut_slice-next.ensures.value in
    let back = given_back c.swap.new.x.items c.args.wide.now.next.items c.move_sums.new.sums
    (ap (λ x. x.items) c.swap.ensures.x_after) long in
    ap (λ list. get_or list i 0) back ∙ c.move_sums.ensures i (omega (arith, lt, ap length back, c.move_sums.auto.sums))
    ∙ row_is _ _ _ _ _ _ _ parts i (omega (
      arith,
      lt,
      ap length back,
      long,
      parts.count,
      c.requires.before.places.next_are,
      c.requires.before.long,
    ))

pub returns-clause-small : goal.returns-clause-small
returns-clause-small c = λ is.
    let before = c.requires.before in
    let long = c.move_sums.auto.sums ∙ ap length c.as_mut_slice-next.ensures.value in
    let back = given_back c.swap.new.x.items c.args.wide.now.next.items c.move_sums.new.sums
    (ap (λ x. x.items) c.swap.ensures.x_after) long in
    sums_small c.args.range.now c.args.m c.args.numbers.now (last_place c.args.m c.args.numbers.now) c.swap.new.x.items
    (c.sums_fit-is_coarse.ensures.fit.0 is) before.long
    (ap length back ∙ long ∙ before.places.next_are) c.requires.range (returns-clause-row c)
