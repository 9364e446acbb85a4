use Rattle.std.proofs.Common.{◌≡◌, ℕ, ◌<◌, length}
use Rattle.std.specs.Prelude.{slice_index_or}
use Rattle.mp_workers.proofs.workers.hand_on.Given as goal

abbrev pub invariant-loop-part : goal.invariant-loop-part
invariant-loop-part g l =
    let part = g.P.Part in
    record {
      count : length l.part-items ≡ length l.fn.parts.items;
      alike : (k : ℕ) (d : _) → k < l.part-index →
          (part.size_of (slice_index_or l.part-items k d) ≡ part.size_of l.found)
          × (part.value (slice_index_or l.part-items k d) ≡ part.value l.found);
      sizes : (k : ℕ) (d : _) → k < length l.part-items
          → part.size_of (slice_index_or l.part-items k d) ≡ part.size_of l.found;
    }
