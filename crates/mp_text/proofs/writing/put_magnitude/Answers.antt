use Rattle.std.proofs.Common.{arith}
use Rattle.mp_text.proofs.WritingLemmas.{unit-positive, whole-short}
use Rattle.mp_text.proofs.writing.put_magnitude.Goals as goal

pub nonzero_div-magnitude : goal.nonzero_div-magnitude
nonzero_div-magnitude c = grind (arith, unit-positive c.args.scale)

pub put_whole-requires : goal.put_whole-requires
put_whole-requires c = grind (arith, whole-short c.args.magnitude c.args.scale)

pub put-requires : goal.put-requires
put-requires c = grind (arith, whole-short c.args.magnitude c.args.scale)

pub put_last_digits-requires : goal.put_last_digits-requires
put_last_digits-requires c = grind (arith, whole-short c.args.magnitude c.args.scale)
