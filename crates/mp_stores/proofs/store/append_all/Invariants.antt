use Rattle.std.proofs.Common.{take}
use Rattle.mp_stores.specs.Channels.{KeptHasGrown}
use Rattle.mp_stores.proofs.store.append_all.Given as goal

abbrev pub invariant-loop-sample : goal.invariant-loop-sample
invariant-loop-sample l = KeptHasGrown (take l.sample-index l.samples) l.initial.kept l.kept
