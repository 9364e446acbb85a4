use Rattle.std.proofs.Common.{◌+◌, ◌≤◌, take}
use Rattle.mp_stores.specs.Channels.{PartHasGrown}
use Rattle.mp_stores.proofs.store.extend.Given as goal

abbrev pub invariant-loop-sample : goal.invariant-loop-sample
invariant-loop-sample l = record {
  grown : PartHasGrown (take l.sample-index l.samples) l.initial.part l.part;
  spare : l.initial.part.spare ≤ l.part.spare + l.sample-index;
}
