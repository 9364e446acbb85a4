use Rattle.std.proofs.Common.{length, ◌*◌, ◌+◌, ◌/◌, ◌<◌, arith, subst, sym}
use Rattle.mp_consensus.proofs.Scanning.{few_pieces, is_piece}
use Rattle.mp_consensus.proofs.blocks.count_pieces.Goals as goal

pub overflow_mul-result : goal.overflow_mul-result
overflow_mul-result c =
    let few = few_pieces c.loop-place.most c.count.result c.loop-place.invariant.few
    (omega (arith, c.count.ensures, c.requires.conditions.few)) in
    omega (arith, few)

pub returns-clause-few : goal.returns-clause-few
returns-clause-few c =
    few_pieces c.loop-place.most c.count.result c.loop-place.invariant.few
    (omega (arith, c.count.ensures, c.requires.conditions.few))

pub returns-clause-all : goal.returns-clause-all
returns-clause-all c = λ p i lt window.
    subst (λ n. i / 64 * length c.args.list.now + p < c.loop-place.most * n) (sym c.count.ensures)
    (is_piece c.loop-place.most _ p i lt
    (c.loop-place.invariant.all p i (omega (arith, lt, c.loop-place-test.false, c.count-place-end.ensures)) window))
