use Rattle.std.proofs.Common.{◌+◌, ◌-◌, arith}
use Rattle.mp_anytime.proofs.Marks.{none_among}
use Rattle.mp_anytime.proofs.bits.is_none_marked.Goals as goal

pub returns : goal.returns
returns c = λ none place behind before.
    none_among c.args.words.now c.args.first c.args.count place (c.args.first + c.args.count - c.args.first)
    (omega arith) (λ k lt. c.are_zero.ensures none k (omega (arith, lt, c.requires))) behind before
