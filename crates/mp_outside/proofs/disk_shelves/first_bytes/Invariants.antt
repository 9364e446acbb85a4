use Rattle.std.proofs.Common.{◌≡◌, ◌+◌, vec_len}
use Rattle.std.specs.Io.KnownBytes.{Consumes}
use Rattle.mp_outside.specs.declared.disk_shelves.TheConstants.{PIECE}
use Rattle.mp_outside.proofs.disk_shelves.first_bytes.Given as goal

abbrev pub invariant-loop-left : goal.invariant-loop-left
invariant-loop-left g l = record {
  counted : vec_len l.bytes + l.left ≡ l.count;
  taken : Consumes (g.F.Read.remaining l.initial.file) (g.F.Read.remaining l.file) l.bytes.items;
  room : vec_len l.piece ≡ PIECE;
}

abbrev pub decreases-loop-left : goal.decreases-loop-left
decreases-loop-left g l = l.left
