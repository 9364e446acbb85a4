use Rattle.std.proofs.Common.{◌≡◌, ◌+◌, ◌*◌, Bool, arith, false, true}
use Rattle.std.proofs.Math.Bool.{not}
use Rattle.mp_anytime.proofs.Choosing.{marked_anew}
use Rattle.mp_anytime.proofs.waiting.mark.Goals as goal

is_true : (b : Bool) → not b ≡ false → b ≡ true
is_true true e = cc
is_true false e = absurd (cc)

pub returns : goal.returns
returns c =
    marked_anew c.args.places.now c.args.marks.now c.args.block (not c.is_none_marked.result) c.requires.marks
    c.requires.block
    (λ none k lt. c.is_none_marked.ensures (is_true c.is_none_marked.result none) (512 * c.args.block + k)
    (omega arith) (omega (arith, lt)))
