use Rattle.std.proofs.Common.{◌≡◌, ◌+◌, ◌*◌, ◌^◌, ◌<◌, ◌≤◌, ◌∙◌, ap, arith, length, get_or, pos, ℤ, subst}
use Rattle.std.proofs.lemmas.List.{get_or_default}
use Rattle.std.proofs.lemmas.Nat.{mul-le}
use Rattle.mp_defs.specs.Distance.{squared_difference}
use Rattle.mp_sums.specs.Sums.{numbers_of}
use Rattle.mp_sums.specs.SumLaws.{is_sum_of_more, is_sum_of_none}
use Rattle.mp_anytime.specs.Kept.{IsSumAt}
use Rattle.mp_anytime.proofs.RowSums.{near_square, square_fits}
use Rattle.mp_anytime.proofs.extending.near_sum.Goals as goal

pub loop-k-init : goal.loop-k-init
loop-k-init c = record { small = λ range within others. omega arith; sum = λ a i j f g. is_sum_of_none _ _ _ _ }

pub close_square-sum-requires : goal.close_square-sum-requires
close_square-sum-requires c =
    let first = c.args.first.now in
    let second = c.args.second.now in
    let k = c.loop-k.k in
    let x : ℤ = c.index-first-k.result in
    let y : ℤ = c.index-second-k.result in
    let lt : k < length first = omega (arith, c.loop-k-test.true) in
    let near = c.requires.near in
    square_fits (length first) (squared_difference near.range.greatest near.range.least) _ c.requires.some near.fits
    (near_square first second k x y near.range near.within near.others_within lt c.requires.same
    (c.index-first-k.is ∙ get_or_default first k x (pos 0) lt)
    (c.index-second-k.is ∙ get_or_default second k y (pos 0) (omega (arith, lt, c.requires.same))))

pub overflow_add-sum : goal.overflow_add-sum
overflow_add-sum c =
    let first = c.args.first.now in
    let second = c.args.second.now in
    let k = c.loop-k.k in
    let x : ℤ = c.index-first-k.result in
    let y : ℤ = c.index-second-k.result in
    let lt : k < length first = omega (arith, c.loop-k-test.true) in
    let near = c.requires.near in
    let most = squared_difference near.range.greatest near.range.least in
    let square = near_square first second k x y near.range near.within near.others_within lt c.requires.same
    (c.index-first-k.is ∙ get_or_default first k x (pos 0) lt)
    (c.index-second-k.is ∙ get_or_default second k y (pos 0) (omega (arith, lt, c.requires.same))) in
    let before : c.loop-k.sum ≤ k * most = c.loop-k.invariant.small near.range near.within near.others_within in
    let with_this : (k + 1) * most ≤ length first * most =
    mul-le (k + 1) most (length first) most (omega (arith, lt)) (omega arith) in
    let fits : length first * most < 2 ^ 63 = near.fits in
    omega (arith, square, before, with_this, fits, c.close_square-sum.ensures)

pub loop-k-preserved : goal.loop-k-preserved
loop-k-preserved c =
    let first = c.args.first.now in
    let second = c.args.second.now in
    let k = c.loop-k.k in
    let x : ℤ = c.index-first-k.result in
    let y : ℤ = c.index-second-k.result in
    let lt : k < length first = omega (arith, c.loop-k-test.true) in
    let x_is : x ≡ get_or first k (pos 0) = c.index-first-k.is ∙ get_or_default first k x (pos 0) lt in
    let y_is : y ≡ get_or second k (pos 0) =
    c.index-second-k.is ∙ get_or_default second k y (pos 0) (omega (arith, lt, c.requires.same)) in
    let near = c.requires.near in
    let small : squared_difference x y < 2 ^ 62 =
    square_fits (length first) (squared_difference near.range.greatest near.range.least) _ c.requires.some near.fits
    (near_square first second k x y near.range near.within near.others_within lt c.requires.same x_is y_is) in
    record {
      small = λ range within others.
          omega (
            arith,
            c.loop-k.invariant.small range within others,
            near_square first second k x y range within others lt c.requires.same x_is y_is,
            c.close_square-sum.ensures,
          );
      sum = λ a i j f g. is_sum_of_more k (numbers_of a) i (numbers_of a) j _ _ (c.loop-k.invariant.sum a i j f g)
          (c.close_square-sum.ensures ∙ ap (λ z. squared_difference z y) (x_is ∙ f k lt)
          ∙ ap (squared_difference (numbers_of a (i + k))) (y_is ∙ g k lt))
          (omega (arith, small, c.close_square-sum.ensures));
    }

pub returns : goal.returns
returns c = λ a i j f g.
    let done : c.loop-k.k ≡ length c.args.first.now = omega (arith, c.loop-k-test.false, c.loop-k.auto.k-end) in
    subst (λ n. IsSumAt n a i j c.loop-k.sum) done (c.loop-k.invariant.sum a i j f g)
