use Rattle.std.proofs.Common.{◌≡◌, length}
use Rattle.mp_multi.specs.Among.{TakesAmong}
use Rattle.mp_multi.proofs.ScanLemmas.{before_diagonal}
use Rattle.mp_multi.proofs.scans.scan_multi.Given as goal

abbrev pub invariant-loop-apart : goal.invariant-loop-apart
invariant-loop-apart g l = record {
  items : TakesAmong (before_diagonal l.fn.tile l.apart) l.fn.m l.fn.k l.fn.channels l.fn.into.items l.into.items;
  places : length l.into.items ≡ length l.fn.into.items;
  spare : l.into.spare ≡ l.fn.into.spare;
}
