use Rattle.mp_skips.proofs.TotalLemmas.{square_of_sum}
use Rattle.mp_skips.proofs.laws.square_of_sum_is_below.Goals as goal

pub returns : goal.returns
returns c = square_of_sum
