use Rattle.std.proofs.Common.{◌∙◌, arith}
use Rattle.std.specs.Prelude.{None}
use Rattle.std.proofs.lemmas.List.{ext_get_or, get_or_default}
use Rattle.mp_tiles.proofs.ColumnLemmas.{copied_next}
use Rattle.mp_tiles.proofs.columns.copy_slots.Goals as goal

pub loop-k-preserved : goal.loop-k-preserved
loop-k-preserved c =
    copied_next c.loop-k.k c.loop-k.slots c.args.others.now c.copy.result (omega arith) c.loop-k.invariant
    (c.copy.ensures ∙ c.index-others-k.is
    ∙ get_or_default c.args.others.now c.loop-k.k c.index-others-k.result None (omega arith))

pub returns : goal.returns
returns c =
    ext_get_or None c.loop-k.slots c.args.others.now (omega arith)
    (λ q lt. c.loop-k.invariant q (omega (arith, lt)))
