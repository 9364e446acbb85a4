use Rattle.std.proofs.Common.{◌≡◌, ◌+◌, ◌<◌, ◌∙◌, ap, arith, length, get_or, pos, ℤ, subst}
use Rattle.std.proofs.lemmas.List.{get_or_default}
use Rattle.mp_defs.specs.Distance.{squared_difference}
use Rattle.mp_sums.specs.Sums.{numbers_of}
use Rattle.mp_sums.specs.SumLaws.{is_sum_of_more, is_sum_of_none}
use Rattle.mp_anytime.specs.Kept.{IsSumAt}
use Rattle.mp_anytime.proofs.extending.sum_between.Goals as goal

pub loop-k-init : goal.loop-k-init
loop-k-init c = record { small = omega arith; sum = λ a i j f g. is_sum_of_none _ _ _ _ }

pub overflow_add-sum : goal.overflow_add-sum
overflow_add-sum c =
    omega (
      arith,
      c.loop-k.invariant.small,
      c.requires.few,
      c.square-sum.ensures.small,
      c.loop-k-test.true,
    )

pub loop-k-preserved : goal.loop-k-preserved
loop-k-preserved c =
    let first = c.args.first.now in
    let second = c.args.second.now in
    let k = c.loop-k.k in
    let x : ℤ = c.index-first-k.result in
    let y : ℤ = c.index-second-k.result in
    let lt : k < length first = omega (arith, c.loop-k-test.true) in
    let x_is : x ≡ get_or first k (pos 0) = c.index-first-k.is ∙ get_or_default first k x (pos 0) lt in
    let y_is : y ≡ get_or second k (pos 0) =
    c.index-second-k.is ∙ get_or_default second k y (pos 0) (omega (arith, lt, c.requires.same)) in
    record {
      small = omega (arith, c.loop-k.invariant.small, c.square-sum.ensures.small);
      sum = λ a i j f g. is_sum_of_more k (numbers_of a) i (numbers_of a) j _ _ (c.loop-k.invariant.sum a i j f g)
          (c.square-sum.ensures.square ∙ ap (λ z. squared_difference z y) (x_is ∙ f k lt)
          ∙ ap (squared_difference (numbers_of a (i + k))) (y_is ∙ g k lt))
          c.square-sum.ensures.small;
    }

pub returns : goal.returns
returns c = λ a i j f g.
    let done : c.loop-k.k ≡ length c.args.first.now = omega (arith, c.loop-k-test.false, c.loop-k.auto.k-end) in
    subst (λ n. IsSumAt n a i j c.loop-k.sum) done (c.loop-k.invariant.sum a i j f g)
