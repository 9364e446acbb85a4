use Rattle.mp_anytime.proofs.Marks.{mark_set}
use Rattle.mp_anytime.proofs.bits.set_bit.Goals as goal

pub returns : goal.returns
returns c =
    mark_set c.args.words.now c.args.place c.with_bit.result c.args.is_on c.requires c.with_bit.ensures.same
    c.with_bit.ensures.other
