use Rattle.std.proofs.Common.{◌-◌, arith, refl}
use Rattle.mp_pan.proofs.Entries.{all_windows, none_yet, one_earlier}
use Rattle.mp_pan.proofs.extremes.find_extremes.Goals as goal

pub loop-i-init : goal.loop-i-init
loop-i-init c = none_yet c.args.windows c.args.k c.args.windows c.args.slots.now refl

pub loop-i-preserved : goal.loop-i-preserved
loop-i-preserved c =
    one_earlier c.args.windows c.args.k c.loop-i.i (c.loop-i.i - 1) c.args.slots.now _ c.loop-i.found
    c.with-found.result c.loop-i.auto.i (omega (arith, c.loop-i-test.true)) refl c.loop-i.invariant
    c.with-found.ensures

pub returns : goal.returns
returns c = all_windows c.args.windows c.args.k c.loop-i.i c.args.slots.now c.loop-i.found (omega arith)
    c.loop-i.invariant
