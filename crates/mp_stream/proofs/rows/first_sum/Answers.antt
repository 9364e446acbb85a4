use Rattle.std.proofs.Common.{◌∙◌, length, refl}
use Rattle.mp_stream.proofs.Moving.{ends_sum}
use Rattle.mp_stream.proofs.rows.first_sum.Goals as goal

pub returns : goal.returns
returns c =
    let xs = c.args.numbers.now in
    c.window_sum.ensures.sum
    ∙ ends_sum c.args.m xs _ _ c.args.m (length xs) c.args.last refl refl c.requires.long refl refl
