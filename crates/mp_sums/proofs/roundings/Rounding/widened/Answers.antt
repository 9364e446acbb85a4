use Rattle.std.proofs.Common.{◌+◌, ◌*◌, ◌/◌, ◌%◌, ◌^◌, ◌<◌, arith, rules}
use Rattle.mp_sums.proofs.ThresholdLemmas.{all_below, widened_is}
use Rattle.mp_sums.proofs.roundings.Rounding.widened.Goals as goal

all : (c : goal.After-weight-weight) → c.args.units + c.args.units / 2 ^ c.weight-weight.result + 1 + c.from-m.result
    + (c.from-m.result * 2 ^ c.weight-weight.result) % 2 ^ 64 < 2 ^ 64
all c =
    let small : c.args.self.now.m < 2 ^ 32 = search rules in
    all_below c.args.units c.args.self.now.m c.from-m.result c.weight-weight.result c.requires small c.from-m.ensures
    c.weight-weight.ensures.small

pub overflow_add-result : goal.overflow_add-result
overflow_add-result c = record { fits = omega (arith, all c) }

pub overflow_add-result-2 : goal.overflow_add-result-2
overflow_add-result-2 c = record { fits = omega (arith, all c) }

pub overflow_add-result-3 : goal.overflow_add-result-3
overflow_add-result-3 c = record { fits = omega (arith, all c) }

pub overflow_add-result-4 : goal.overflow_add-result-4
overflow_add-result-4 c = record { fits = all c }

pub returns : goal.returns
returns c =
    let small : c.args.self.now.m < 2 ^ 32 = search rules in
    widened_is c.args.units c.args.self.now.m c.from-m.result c.weight-weight.result c.from-m.ensures
    c.weight-weight.ensures.weight
    c.weight-weight.ensures.small small
