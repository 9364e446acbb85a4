use Rattle.std.proofs.Common.{◌≡◌, ℕ, ◌-◌, ◌∙◌, List, ap, arith, drop}
use Rattle.std.proofs.Common.{get_or, length, sym, subst, take}
use Rattle.mp_series.specs.Samples.{numbers_in}
use Rattle.mp_anytime.specs.Offers.{IsMovedSum}
use Rattle.mp_anytime.specs.Sums.{IsMoved, square_behind}
use Rattle.mp_anytime.proofs.RowSums.{close_part, part_long, sum_moved}
use Rattle.mp_anytime.proofs.Windows.{written_back}
use Rattle.mp_anytime.proofs.moving.move_sums.Goals as goal

pub move_each-requires-clause-entering : goal.move_each-requires-clause-entering
move_each-requires-clause-entering c =
    close_part c.args.m c.args.samples.now.items c.from.result c.args.last c.parts.result.0.now c.requires.shortest
    c.requires.close (omega (arith, c.requires.within, c.from.ensures)) c.parts.ensures.first

pub move_each-requires-clause-leaving : goal.move_each-requires-clause-leaving
move_each-requires-clause-leaving c =
    close_part c.args.m c.args.samples.now.items 0 c.args.last c.parts.result.1.now c.requires.shortest
    c.requires.close (omega (arith, c.requires.within)) c.parts.ensures.second

pub returns-clause-sums : goal.returns-clause-sums
returns-clause-sums c = λ d lt h.
    let m = c.args.m in
    let items = c.args.samples.now.items in
    let last = c.args.last in
    let old = c.args.sums.now in
    let new = c.move_each.new.sums in
    let enters = c.parts.result.0.now in
    let leaves = c.parts.result.1.now in
    let entering = c.parts.ensures.first ∙ ap (λ n. take last (drop n (numbers_in items))) c.from.ensures in
    let long : length enters ≡ last = part_long items m last enters (omega (arith, c.requires.within)) entering in
    let back =
    written_back new old.lower.items (c.move_each.ensures.places ∙ ap length c.as_mut_slice.ensures.value) in
    let step : IsMoved (square_behind enters d) (square_behind leaves d) (get_or old.lower.items d 0) (get_or new d 0) =
    subst (λ (l : List ℕ). IsMoved (square_behind enters d) (square_behind leaves d) (get_or l d 0) (get_or new d 0))
    c.as_mut_slice.ensures.value (c.move_each.ensures.moved d (omega (arith, lt, long))) in
    subst (λ (l : List ℕ). IsMovedSum m items last d (get_or old.upper.items d 0) (get_or l d 0)) (sym back)
    (sum_moved m items last d enters leaves (get_or old.upper.items d 0) (get_or old.lower.items d 0) (get_or new d 0)
    c.requires.shortest lt c.requires.within entering c.parts.ensures.second c.requires.close step h)
