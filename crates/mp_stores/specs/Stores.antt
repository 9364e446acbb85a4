-- What is seen of slots, and the stores that they stand for.
use Rattle.std.specs.Prelude.{◌≡◌, ◌≢◌, ℕ, ◌+◌, ◌*◌, ◌<◌, ◌≤◌, ◌==◌, if◌then◌else◌, List, [], ◌∷◌, All, length, map}
use Rattle.std.specs.Prelude.{sum_by, Bool, true, false}
use Rattle.std.specs.Prelude.{slice_index_or, Option, Some, None, Vec}
use Rattle.std.specs.List.{AllZip}
use Rattle.std.specs.declared.alloc.Global.{Global}
use Rattle.mp_nums.specs.declared.samples.Sample.{Sample}
use Rattle.mp_defs.specs.Limits.{max_samples, max_window, min_window}
use Rattle.mp_defs.specs.Series.{Series, series_of}
use Rattle.mp_defs.specs.Window.{windows}
use Rattle.mp_results.specs.Covering.{Covering}
use Rattle.mp_replies.specs.Change.{Change, changed}
use Rattle.mp_replies.specs.Limits.{max_channels, slot_count}
use Rattle.mp_replies.specs.State as states
use Rattle.mp_replies.specs.State.{Store, store_at}
use Rattle.mp_replies.specs.declared.refs.Ref.{Ref}
use Rattle.mp_defs.specs.Limits.{max_appended}
use Rattle.mp_stream.specs.Kept.{Keeping, StandsFor}
use Rattle.mp_stream.specs.Streams.{Streamed}

-- what stands in a slot
pub data Held : Type 0 where
  Closed : Held
  -- channels of the same length
  Open : (channels : List Streamed) → Held
  -- one channel, of which the last samples are kept
  Kept : (kept : Keeping) → Held
  -- one channel, whose profile is made in parts
  Lazy : (part : Covering) → Held

-- the slots, and the window length of all channels
pub record Stored : Type 0 where
  pub m : ℕ
  pub slots : List Held

-- what stands for a channel that isn't there
abbrev pub nothing : Streamed
nothing = record { items = []; m = 0; reads = 0; spare = 0; changed = [] }

-- ---- channels

abbrev pub items_in : List Streamed → List (List Sample)
items_in channels = map (λ channel. channel.items) channels

abbrev pub series_in : List Streamed → List Series
series_in channels = map (λ channel. series_of channel.items) channels

-- how many samples the first of some lists has
abbrev pub count_of : List (List Sample) → ℕ
count_of [] = 0
count_of (samples ∷ lists) = length samples

-- how many samples the first channel has
abbrev pub count_in : List Streamed → ℕ
count_in channels = count_of (items_in channels)

-- how often samples were read, of all together
abbrev pub reads_in : List Streamed → ℕ
reads_in channels = sum_by (λ channel. channel.reads) channels

-- at most so many, and each has as many samples as the first
pub record AreAlike (lists : List (List Sample)) : Type 0 where
  pub few : length lists ≤ max_channels
  pub same : All (λ samples. length samples ≡ count_of lists) lists

abbrev pub AreChannels : List Streamed → Type 0
AreChannels channels = AreAlike (items_in channels)

-- each has this window length
abbrev pub HaveWindow : ℕ → List Streamed → Type 0
HaveWindow m channels = All (λ channel. channel.m ≡ m) channels

-- a slot can be open with them
pub record CanOpen (m : ℕ) (channels : List Streamed) : Type 0 where
  pub some : 0 < length channels
  pub alike : AreChannels channels
  pub window : HaveWindow m channels

-- what is kept of some samples, of which there are not too many, can stand in a slot
pub record CanKeep (m : ℕ) (kept : Keeping) : Type 0 where
  pub window : kept.m ≡ m
  pub few : kept.count ≤ max_appended
  pub samples : List Sample
  pub stands : StandsFor samples kept

-- a series whose profile is made in parts can stand in a slot
pub record CanCover (m : ℕ) (part : Covering) : Type 0 where
  pub window : part.m ≡ m
  pub few : length part.items ≤ max_samples

-- ---- slots

-- the channels of a slot of which all is kept, none where it isn't open
abbrev pub streams_in : Held → List Streamed
streams_in Closed = []
streams_in (Open channels) = channels
streams_in (Kept kept) = []
streams_in (Lazy part) = []

-- how many channels a slot has
abbrev pub channel_count : Held → ℕ
channel_count Closed = 0
channel_count (Open channels) = length channels
channel_count (Kept kept) = 1
channel_count (Lazy part) = 1

-- how many samples each of them has, or were ever appended to it
abbrev pub sample_count : Held → ℕ
sample_count Closed = 0
sample_count (Open channels) = count_in channels
sample_count (Kept kept) = kept.count
sample_count (Lazy part) = length part.items

-- how many samples of a slot are kept, none where all are
abbrev pub keep_of : Held → Option ℕ
keep_of Closed = None
keep_of (Open channels) = None
keep_of (Kept kept) = Some kept.keep
keep_of (Lazy part) = None

-- whether its profile is made in parts
abbrev pub is_lazy : Held → Bool
is_lazy Closed = false
is_lazy (Open channels) = false
is_lazy (Kept kept) = false
is_lazy (Lazy part) = true

-- a channel, with nothing in it where there is none
abbrev pub stream_in : Held → ℕ → Streamed
stream_in held channel = slice_index_or (streams_in held) channel nothing

-- how often samples of a slot were read
abbrev pub reads_of : Held → ℕ
reads_of Closed = 0
reads_of (Open channels) = reads_in channels
reads_of (Kept kept) = kept.reads
reads_of (Lazy part) = part.reads

-- what stands in a slot may stand there
abbrev pub IsHeld : ℕ → Held → Type 0
IsHeld m Closed = Unit {0}
IsHeld m (Open channels) = CanOpen m channels
IsHeld m (Kept kept) = CanKeep m kept
IsHeld m (Lazy part) = CanCover m part

-- what is kept is kept of some samples
abbrev pub IsOfSamples : Held → Type 0
IsOfSamples (Kept kept) = (samples : List Sample) × StandsFor samples kept
IsOfSamples held = Unit {0}

abbrev pub slot_at : Stored → ℕ → Held
slot_at stored slot = slice_index_or stored.slots slot Closed

abbrev pub streams_at : Stored → ℕ → List Streamed
streams_at stored slot = streams_in (slot_at stored slot)

abbrev pub reads_at : Stored → ℕ → ℕ
reads_at stored slot = reads_of (slot_at stored slot)

abbrev pub channel_at : Stored → Ref → Streamed
channel_at stored at = stream_in (slot_at stored at.slot) at.channel

-- the series of a channel
abbrev pub channel_series : Stored → Ref → Series
channel_series stored at = series_of (channel_at stored at).items

-- the slot is open, if it has channels
abbrev pub IsOpenSlot : Stored → Ref → Type 0
IsOpenSlot stored at = channel_count (slot_at stored at.slot) ≡ length (streams_at stored at.slot)

-- there is such a channel, of which all samples are kept
pub record IsChannel (stored : Stored) (at : Ref) : Type 0 where
  pub slot : at.slot < slot_count
  pub channel : at.channel < length (streams_at stored at.slot)

pub record AreStores (stored : Stored) : Type 0 where
  pub shortest : min_window ≤ stored.m
  pub longest : stored.m ≤ max_window
  pub count : length stored.slots ≡ slot_count
  pub each : (slot : ℕ) → IsHeld stored.m (slot_at stored slot)

-- ---- the stores that slots stand for

-- what is kept of some samples stands for the store of all of them. It does so for each list of samples of which the
-- same would be kept, since it doesn't hold those that were dropped
pub record StandsForAll (kept : Keeping) (store : Store) : Type 0 where
  pub samples : List Sample
  pub store_is : store ≡ states.Kept kept.keep (series_of samples)
  pub stands : StandsFor samples kept

-- a closed slot stands for a closed store, an open one for the series of its channels, a kept one for each series of
-- which it may be what is kept, and a lazy one for its series and the diagonals that are covered
abbrev pub StandForStore : Held → Store → Type 0
StandForStore Closed states.Closed = Unit {0}
StandForStore (Open channels) (states.Open series) = series ≡ series_in channels
StandForStore (Kept kept) store = StandsForAll kept store
StandForStore (Lazy part) store = store ≡ states.Lazy (series_of part.items) part.covered
StandForStore held store = ⊥

-- slots stand for as many stores, each for its own
pub record StandFor (stored : Stored) (stores : List Store) : Type 0 where
  pub as_many : length stores ≡ length stored.slots
  pub each : (slot : ℕ) → StandForStore (slot_at stored slot) (store_at stores slot)

-- of all stores that slots stood for a change makes stores that they stand for now
abbrev pub StandChanged : Change → Stored → Stored → Type 0
StandChanged change old new =
    (stores : List Store) → StandFor old stores → StandFor new (changed old.m stores change)

-- ---- what lasts

-- a channel, reads and room aside
abbrev pub lasting : Streamed → Streamed
lasting channel = record channel { reads = 0; spare = 0; changed = [] }

-- the same of a series whose profile is made in parts
abbrev pub lasting_part : Covering → Covering
lasting_part part = record part { reads = 0; spare = 0 }

-- reads and room aside, a slot holds what it held
abbrev pub HoldsAsBefore : Held → Held → Type 0
HoldsAsBefore Closed Closed = Unit {0}
HoldsAsBefore (Open old) (Open new) = map lasting new ≡ map lasting old
HoldsAsBefore (Kept old) (Kept new) = new ≡ old
HoldsAsBefore (Lazy old) (Lazy new) = lasting_part new ≡ lasting_part old
HoldsAsBefore old new = ⊥

-- and each of several does. So they stand for the stores that they stood for
pub record StandAsBefore (old new : Stored) : Type 0 where
  pub window_is : new.m ≡ old.m
  pub as_many : length new.slots ≡ length old.slots
  pub each : (slot : ℕ) → HoldsAsBefore (slot_at old slot) (slot_at new slot)

-- ---- changes

abbrev pub lists_in : List (Vec Sample Global) → List (List Sample)
lists_in added = map (λ samples. samples.items) added

-- a channel without its room
abbrev pub without_room : Streamed → Streamed
without_room channel = record channel { spare = 0 }

-- nothing but room was changed
abbrev pub RoomWasMade : List Streamed → List Streamed → Type 0
RoomWasMade old new = map without_room new ≡ map without_room old

-- there is room for these samples
pub record HasRoomFor (channel : Streamed) (samples : List Sample) : Type 0 where
  pub room : length samples ≤ channel.spare
  pub fits : length channel.items + length samples ≤ max_samples

-- there are samples for each channel, and room for them
abbrev pub HaveRoom : List Streamed → List (List Sample) → Type 0
HaveRoom channels added = AllZip HasRoomFor channels added

-- there is one list of samples for the channel of a kept slot, which may still be appended
pub record CanAppend (kept : Keeping) (added : List (List Sample)) : Type 0 where
  pub one : length added ≡ 1
  pub fits : kept.count + count_of added ≤ max_appended

-- there is one list of samples for the series of a lazy slot, and room for it
pub record CanExtend (part : Covering) (added : List (List Sample)) : Type 0 where
  pub one : length added ≡ 1
  pub room : count_of added ≤ part.spare
  pub fits : length part.items + count_of added ≤ max_samples

-- a slot has channels, and there is room for these samples
abbrev pub HasRoomIn : Held → List (List Sample) → Type 0
HasRoomIn Closed added = ⊥
HasRoomIn (Open channels) added = HaveRoom channels added
HasRoomIn (Kept kept) added = CanAppend kept added
HasRoomIn (Lazy part) added = CanExtend part added

-- so many more samples take no memory. A kept slot needs none for them
abbrev pub HasSpare : ℕ → Held → Type 0
HasSpare more Closed = Unit {0}
HasSpare more (Open channels) = All (λ channel. more ≤ channel.spare) channels
HasSpare more (Kept kept) = Unit {0}
HasSpare more (Lazy part) = more ≤ part.spare

-- each of these lists has as many samples
pub record AreEven (added : List (List Sample)) : Type 0 where
  pub count : ℕ
  pub each : All (λ samples. length samples ≡ count) added

-- ---- reads

-- samples of a slot were read so often at the most, and nothing else was changed
pub record WasReadIn (most : ℕ) (old new : Held) : Type 0 where
  pub holds : HoldsAsBefore old new
  pub rise : reads_of old ≤ reads_of new
  pub most_reads : reads_of new ≤ reads_of old + most

-- the same of one of several slots
pub record WasRead (old new : Stored) (slot most : ℕ) : Type 0 where
  pub stands : StandAsBefore old new
  pub read : WasReadIn most (slot_at old slot) (slot_at new slot)
  pub others : (other : ℕ) → other ≢ slot → slot_at new other ≡ slot_at old other

-- the reads of a channel whose samples are lent once, each of its n samples n times
abbrev pub lent_of : Held → ℕ → ℕ
lent_of held channel = length (stream_in held channel).items * length (stream_in held channel).items

-- and in one of several slots
abbrev pub lent_once : Stored → Ref → ℕ → ℕ
lent_once stored at slot = if slot == at.slot then lent_of (slot_at stored at.slot) at.channel else 0

-- the most by which samples that are added raise the count of a slot: for each of them four times the windows of each
-- of its channels and the samples of one, and in a kept slot four times the samples that are kept and those of a window
abbrev pub added_reads : ℕ → Held → List (List Sample) → ℕ
added_reads m (Kept kept) added = count_of added * (4 * (kept.keep + m))
added_reads m (Lazy part) added = count_of added * (4 * (windows (length part.items + count_of added) m + m))
added_reads m held added =
    length added
    * (count_of added
    * (4 * (windows (count_in (streams_in held) + count_of added) m + m)))

-- and in one of several slots
abbrev pub reads_to_add : Stored → ℕ → List (List Sample) → ℕ
reads_to_add stored slot added = added_reads stored.m (slot_at stored slot) added
