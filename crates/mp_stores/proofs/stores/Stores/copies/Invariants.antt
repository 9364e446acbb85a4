use Rattle.std.proofs.Common.{take}
use Rattle.mp_stores.proofs.CopyLemmas.{AreCopied}
use Rattle.mp_stores.proofs.stores.Stores.copies.Given as goal

abbrev pub invariant-loop-at : goal.invariant-loop-at
invariant-loop-at l = AreCopied l.initial.self (take l.at-index l.refs) l.bundle l.self
