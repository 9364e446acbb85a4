-- How often a line reads samples where they are added, and whether it puts other channels into a slot.
use Rattle.std.specs.Prelude.{ℕ, ◌+◌, ◌*◌, ◌==◌, Bool, false, length, if◌then◌else◌}
use Rattle.mp_defs.specs.Window.{windows}
use Rattle.mp_replies.specs.Command.{OpenAnew, KeepLast, Load, LoadLazy, Append, Advance}
use Rattle.mp_replies.specs.Line.{Asked, Asks}
use Rattle.mp_requests.specs.Reads.{most_lent}
use Rattle.mp_stores.specs.Stores.{Held, Kept, Lazy, Stored, count_in, slot_at, streams_in}

-- the most reads of an append of so many items: for each of them four times the windows of each channel and the samples
-- of one, and in a kept slot four times the samples that are kept and those of a window
abbrev pub reads_for_items : ℕ → Held → ℕ → ℕ
reads_for_items m (Kept kept) items = items * (4 * (kept.keep + m))
reads_for_items m (Lazy part) items = items * (4 * (windows (length part.items + items) m + m))
reads_for_items m held items =
    length (streams_in held) * (items * (4 * (windows (count_in (streams_in held) + items) m + m)))

-- and to one of several slots
abbrev pub append_reads : Stored → ℕ → ℕ → ℕ
append_reads held slot items = reads_for_items held.m (slot_at held slot) items

-- the most reads of a slot's samples when samples are added
abbrev pub most_added : Stored → Asked → ℕ → ℕ
most_added held (Asks (Append at items)) slot = if slot == at then append_reads held at (length items) else 0
most_added held other slot = 0

-- the most by which a line may raise the count of reads of a slot that it puts no other channels into and of which it
-- covers no diagonals
abbrev pub most_reads : Stored → Asked → ℕ → ℕ
most_reads held asked slot = most_lent held asked slot + most_added held asked slot

-- whether a line puts other channels into a slot, where it is accepted
abbrev pub renews : Asked → ℕ → Bool
renews (Asks (OpenAnew at channels)) slot = slot == at
renews (Asks (KeepLast at keep)) slot = slot == at
renews (Asks (Load at file columns header)) slot = slot == at
renews (Asks (LoadLazy at file column header)) slot = slot == at
renews other slot = false

-- whether a line covers diagonals of a slot, where it is accepted
abbrev pub advances : Asked → ℕ → Bool
advances (Asks (Advance at count)) slot = slot == at
advances other slot = false
