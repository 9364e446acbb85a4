-- What is prepared for a line before anything changes, and the change.
use Rattle.std.specs.Prelude.{◌≡◌, ℕ, ◌<◌, ◌==◌, Bool, true, false, List, [], All, length, map}
use Rattle.std.specs.Prelude.{Option, Some, None, if◌then◌else◌, Result, IfOk, OnErr}
use Rattle.mp_nums.specs.declared.samples.Sample.{Sample}
use Rattle.mp_defs.specs.Series.{series_of}
use Rattle.mp_stream.specs.Kept.{Keeping, StandsFor}
use Rattle.mp_stream.specs.Streams.{Streamed}
use Rattle.mp_text.specs.Table.{Fault, BadField, NoField, TooManyRows}
use Rattle.mp_replies.specs.declared.causes.Cause.{Cause}
use Rattle.mp_replies.specs.declared.causes.Cause.TheVariants as causes
use Rattle.mp_replies.specs.Change as change
use Rattle.mp_replies.specs.Command as asked
use Rattle.mp_replies.specs.Limits.{slot_count}
use Rattle.mp_replies.specs.Line.{Asked, Asks, is_end}
use Rattle.mp_replies.specs.State.{Files, State, Store}
use Rattle.mp_replies.specs.Step.{change_in, fetches_by, verdict_of}
use Rattle.mp_outside.specs.Counts.{Rose, raised}
use Rattle.mp_outside.specs.declared.shelves.Shelf as shelves
use Rattle.mp_stores.specs.Stores.{Stored, AreEven, CanOpen, HasRoomIn, StandFor, lists_in, series_in, slot_at}
use Rattle.mp_requests.specs.declared.context.Context.{Context}
use Rattle.mp_requests.specs.Answering.{IsAnswer, IsUnrefused, state_over}
use Rattle.mp_results.specs.Covering.{Covering}
use Rattle.mp_requests.specs.Requests.{IsLazySlot, NamesChannels, is_accepted, is_ended, kind_by, mode_asked}
use Rattle.mp_requests.specs.Requests.{mode_named}
use Rattle.mp_commands.specs.declared.prepared.Change.{Change}
use Rattle.mp_commands.specs.declared.prepared.Change.TheVariants.{Keep, PutChannels, PutKept, PutLazy}
use Rattle.mp_commands.specs.declared.prepared.Change.TheVariants.{AddSamples, Advance}
use Rattle.mp_commands.specs.declared.prepared.Prepared.{Prepared}
use Rattle.mp_commands.specs.Reads.{advances, renews}

-- where a line asks for a file, the shelf tells these files
abbrev pub ToldFor : Option Files → State → Asked → Files → Type 0
ToldFor told state asked files = fetches_by state asked ≡ true → told ≡ Some files

-- ---- the change

abbrev pub changed_by : Change → change.Change
changed_by Keep = change.Keep
changed_by (PutChannels slot channels) = change.PutChannels slot (series_in channels.items)
changed_by (PutKept slot kept) = change.PutKept slot kept.keep
changed_by (PutLazy slot part) = change.PutLazy slot (series_of part.items)
changed_by (AddSamples slot added) = change.AddSamples slot (map series_of (lists_in added.items))
changed_by (Advance slot count) = change.CoverNext slot count

-- what was prepared for a line: its answer, and its change
pub record IsPrepared (state : State) (files : Files) (asked : Asked) (prepared : Prepared) : Type 0 where
  pub answer_is : IsAnswer state files asked prepared.answer
  pub change_is : changed_by prepared.change ≡ change_in (verdict_of state files asked)

-- whether a change puts channels into a slot
abbrev pub puts : Change → ℕ → Bool
puts Keep slot = false
puts (PutChannels at channels) slot = slot == at
puts (PutKept at kept) slot = slot == at
puts (PutLazy at part) slot = slot == at
puts (AddSamples at added) slot = false
puts (Advance at count) slot = false

-- whether it adds samples to a slot
abbrev pub adds : Change → ℕ → Bool
adds Keep slot = false
adds (PutChannels at channels) slot = false
adds (PutKept at kept) slot = false
adds (PutLazy at part) slot = false
adds (AddSamples at added) slot = slot == at
adds (Advance at count) slot = false

-- whether it covers diagonals of a slot
abbrev pub covers : Change → ℕ → Bool
covers Keep slot = false
covers (PutChannels at channels) slot = false
covers (PutKept at kept) slot = false
covers (PutLazy at part) slot = false
covers (AddSamples at added) slot = false
covers (Advance at count) slot = slot == at

-- samples are added by an append alone, as many to each channel as it has items
abbrev pub AddsAsAsked : Asked → Change → Type 0
AddsAsAsked line Keep = Unit {0}
AddsAsAsked line (PutChannels slot channels) = Unit {0}
AddsAsAsked line (PutKept slot kept) = Unit {0}
AddsAsAsked line (PutLazy slot part) = Unit {0}
AddsAsAsked line (Advance slot count) = Unit {0}
AddsAsAsked (Asks (asked.Append at items)) (AddSamples slot added) =
    (slot ≡ at) × All (λ samples. length samples ≡ length items) (lists_in added.items)
AddsAsAsked other (AddSamples slot added) = ⊥

-- nothing is changed where the line isn't accepted
abbrev pub KeepsUnlessAccepted : Prepared → Type 0
KeepsUnlessAccepted prepared = is_accepted (kind_by prepared.answer) ≡ false → prepared.change ≡ Keep

-- ---- a load

-- why a table with this fault is refused
abbrev pub cause_by : Fault → Cause
cause_by (BadField number column fault) = causes.Record number
cause_by (NoField number column) = causes.Record number
cause_by TooManyRows = causes.Rows

-- ---- what is there for the change

-- channels without a sample, of which nothing was read
pub record IsEmpty (channel : Streamed) : Type 0 where
  pub items_are : channel.items ≡ []
  pub unread : channel.reads ≡ 0

abbrev pub AreEmpty : List Streamed → Type 0
AreEmpty channels = All IsEmpty channels

-- channels that a slot can be open with
pub record CanPut (m slot : ℕ) (channels : List Streamed) : Type 0 where
  pub within : slot < slot_count
  pub are : CanOpen m channels

-- a channel without a sample, of which nothing was read, and of which the last samples can be kept in a slot
pub record CanPutKept (m slot : ℕ) (kept : Keeping) : Type 0 where
  pub within : slot < slot_count
  pub window : kept.m ≡ m
  pub empty : StandsFor [] kept
  pub unread : kept.reads ≡ 0

-- a series whose profile is made in parts, of which nothing is covered, that can stand in a slot
pub record CanPutLazy (m slot : ℕ) (part : Covering) : Type 0 where
  pub within : slot < slot_count
  pub window : part.m ≡ m
  pub uncovered : part.covered ≡ []

-- as many samples for each channel, for which there is room
pub record CanAdd (held : Stored) (slot : ℕ) (added : List (List Sample)) : Type 0 where
  pub within : slot < slot_count
  pub room : HasRoomIn (slot_at held slot) added
  pub even : AreEven added

-- the change can be made. It needs no memory but for that of an advance
abbrev pub CanMake : Stored → Change → Type 0
CanMake held Keep = Unit {0}
CanMake held (PutChannels slot channels) = CanPut held.m slot channels.items
CanMake held (PutKept slot kept) = CanPutKept held.m slot kept
CanMake held (PutLazy slot part) = CanPutLazy held.m slot part
CanMake held (AddSamples slot added) = CanAdd held slot (lists_in added.items)
CanMake held (Advance slot count) = IsLazySlot held slot

-- ---- a line

-- whatever stores the slots stand for, it is prepared as the definitions say, by the files that the shelf tells, and
-- what it lacks is wanting only where nothing refuses it without a file
pub record IsTaken {E : Type 0} (told : Option Files) (context : Context) (what : Asked) (held : Stored)
    (result : Result Prepared E) : Type 0 where
  pub ok : (stores : List Store) (files : Files) → StandFor held stores
      → ToldFor told (state_over context held stores) what files
      → IfOk result (IsPrepared (state_over context held stores) files what)
  pub stop : (stores : List Store) → StandFor held stores
      → OnErr result (IsUnrefused (state_over context held stores) what)

-- by some files, which no shelf needs to tell, it is prepared as the definitions say, whatever stores the slots stand
-- for
pub record IsPreparedBySome (context : Context) (what : Asked) (held : Stored) (prepared : Prepared) : Type 0 where
  pub files : Files
  pub is : (stores : List Store) → StandFor held stores
      → IsPrepared (state_over context held stores) files what prepared

-- Its change can be made in these slots, puts channels and covers diagonals where the line asks for it alone, and is
-- none where the line isn't accepted. Its answer names channels of theirs, ends the run where the line asks for that,
-- and names a mode where it accepts one that the line asks for
pub record IsReady (what : Asked) (held : Stored) (prepared : Prepared) : Type 0 where
  pub can : CanMake held prepared.change
  pub kept : KeepsUnlessAccepted prepared
  pub renewed : (slot : ℕ) → puts prepared.change slot ≡ true → renews what slot ≡ true
  pub advanced : (slot : ℕ) → covers prepared.change slot ≡ true → advances what slot ≡ true
  pub adds : AddsAsAsked what prepared.change
  pub names : NamesChannels held prepared.answer
  pub ends : is_ended (kind_by prepared.answer) ≡ is_end what
  pub mode : mode_named prepared.answer
      ≡ (if is_accepted (kind_by prepared.answer) then mode_asked what else None)

-- whether it asks for a file where the slots stand for some stores
pub record NeedsFile (context : Context) (what : Asked) (held : Stored) (file : Bool) : Type 0 where
  pub stores : List Store
  pub stand : StandFor held stores
  pub is : fetches_by (state_over context held stores) what ≡ file

-- The shelf tells the files that it told. Its faults rise exactly where it failed. It is asked once where a file is
-- needed, and isn't asked where none is
pub record IsAsked {H : Type 0} (shelf : shelves.Ghosts H) (needs : Bool → Type 0) (failed : Type 0) (old new : H)
    : Type 0 where
  pub files : shelf.files new ≡ shelf.files old
  pub fault : failed → Rose (shelf.faults old) (shelf.faults new)
  pub calm : ¬ failed → shelf.faults new ≡ shelf.faults old
  pub fetched : needs true → shelf.fetches new ≡ raised 1 (shelf.fetches old)
  pub unfetched : needs false → new ≡ old
  pub no_fault : needs false → failed → ⊥
