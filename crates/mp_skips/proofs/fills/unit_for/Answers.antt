use Rattle.std.proofs.Common.{◌/◌, ◌<◌, arith, subst, sym}
use Rattle.mp_skips.proofs.FillLemmas.{bits_of, units_few, bits_short, bits_hold, one_shifted, some_power, unit_fits}
use Rattle.mp_skips.proofs.fills.unit_for.Goals as goal

pub overflow_shl-size : goal.overflow_shl-size
overflow_shl-size c =
    let units = c.args.most / c.from.result in
    omega (arith, bits_short units (units_few c.args.most c.from.result c.from.ensures c.requires))

pub invariant_of-result-clause-short : goal.invariant_of-result-clause-short
invariant_of-result-clause-short c =
    bits_short (c.args.most / c.from.result) (units_few c.args.most c.from.result c.from.ensures c.requires)

pub invariant_of-result-clause-power : goal.invariant_of-result-clause-power
invariant_of-result-clause-power c =
    let units = c.args.most / c.from.result in
    one_shifted (bits_of units) (bits_short units (units_few c.args.most c.from.result c.from.ensures c.requires))

pub invariant_of-result-clause-some : goal.invariant_of-result-clause-some
invariant_of-result-clause-some c =
    let units = c.args.most / c.from.result in
    some_power _ (bits_of units)
    (one_shifted (bits_of units) (bits_short units (units_few c.args.most c.from.result c.from.ensures c.requires)))

pub returns : goal.returns
returns c =
    let units = c.args.most / c.from.result in
    let few = units_few c.args.most c.from.result c.from.ensures c.requires in
    unit_fits c.args.most c.from.result _ c.from.ensures
    (subst (λ n. units < n) (sym (one_shifted (bits_of units) (bits_short units few))) (bits_hold units few))
