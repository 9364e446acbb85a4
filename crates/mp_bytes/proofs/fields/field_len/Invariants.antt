use Rattle.std.proofs.Common.{◌≡◌, ℕ, ◌<◌, false}
use Rattle.std.specs.Prelude.{slice_index}
use Rattle.mp_bytes.specs.Bytes.{is_blank}
use Rattle.mp_bytes.proofs.fields.field_len.Given as goal

abbrev pub invariant-loop-k : goal.invariant-loop-k
invariant-loop-k l = (q : ℕ) → q < l.k → is_blank (slice_index l.text q) ≡ false
