use Rattle.std.proofs.Common.{◌≡◌, ℕ, ◌+◌, ◌<◌, length, get_or}
use Rattle.std.specs.Prelude.{None, slice_index}
use Rattle.mp_tiles.specs.Compact.{slot_of_word}
use Rattle.std.specs.Mem.Slots.{slots_items}
use Rattle.mp_topk.proofs.closed_words.slots_from.Given as goal

abbrev pub invariant-loop-rank : goal.invariant-loop-rank
invariant-loop-rank g l = (length l.slots ≡ g.row.K) × ((r : ℕ) → r < l.rank
    → get_or l.slots r None ≡ slot_of_word (slice_index (slots_items l.words.words) (l.first + r)))
