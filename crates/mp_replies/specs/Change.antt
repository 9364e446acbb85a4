-- What an accepted line changes in the slots.
use Rattle.std.specs.Prelude.{ℕ, List, [], ◌∷◌, ◌++◌, length, slice_index_or, slice_set}
use Rattle.mp_defs.specs.Series.{Series}
use Rattle.mp_defs.specs.Window.{windows}
use Rattle.mp_results.specs.Covering.{advanced}
use Rattle.mp_replies.specs.State.{Store, Closed, Open, Kept, Lazy, store_at}

pub data Change : Type 0 where
  Keep : Change
  -- channels in place of what stood in a slot
  PutChannels : (slot : ℕ) (channels : List Series) → Change
  -- an empty channel in place of what stood in a slot, of which so many samples are kept
  PutKept : (slot keep : ℕ) → Change
  -- a channel whose profile is made in parts, with no diagonal covered, in place of what stood in a slot
  PutLazy : (slot : ℕ) (series : Series) → Change
  -- samples behind those of each channel of a slot
  AddSamples : (slot : ℕ) (added : List Series) → Change
  -- so many more diagonals covered in a slot
  CoverNext : (slot count : ℕ) → Change

-- samples behind those of each channel, in their order
abbrev pub extended : {A : Type 0} → List (List A) → List (List A) → List (List A)
extended [] added = []
extended (channel ∷ channels) [] = channel ∷ channels
extended (channel ∷ channels) (samples ∷ added) = (channel ++ samples) ∷ extended channels added

-- and behind those of a slot. One that isn't open has one channel
abbrev pub grown : Store → List Series → Store
grown Closed added = Closed
grown (Open channels) added = Open (extended channels added)
grown (Kept keep series) added = Kept keep (series ++ slice_index_or added 0 [])
grown (Lazy series covered) added = Lazy (series ++ slice_index_or added 0 []) covered

-- the next diagonals of a slot are covered, so many of them or all that are left
abbrev pub covered_further : ℕ → ℕ → Store → Store
covered_further m count Closed = Closed
covered_further m count (Open channels) = Open channels
covered_further m count (Kept keep series) = Kept keep series
covered_further m count (Lazy series covered) = Lazy series (advanced m (windows (length series) m) count covered)

-- at a window length
abbrev pub changed : ℕ → List Store → Change → List Store
changed m stores Keep = stores
changed m stores (PutChannels slot channels) = slice_set stores slot (Open channels)
changed m stores (PutKept slot keep) = slice_set stores slot (Kept keep [])
changed m stores (PutLazy slot series) = slice_set stores slot (Lazy series [])
changed m stores (AddSamples slot added) = slice_set stores slot (grown (store_at stores slot) added)
changed m stores (CoverNext slot count) = slice_set stores slot (covered_further m count (store_at stores slot))
