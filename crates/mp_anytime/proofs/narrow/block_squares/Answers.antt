use Rattle.mp_anytime.proofs.NarrowLemmas.{each_narrow, lanes_are, wide_fits}
use Rattle.mp_anytime.proofs.narrow.block_squares.Goals as goal

pub overflow_cast-wide : goal.overflow_cast-wide
overflow_cast-wide c = each_narrow _ (λ x lt. wide_fits x lt) _ _

pub returns : goal.returns
returns c = λ n x are row column.
    lanes_are n x c.args.numbers.now c.args.row c.args.column are row column c.requires.row c.requires.column
