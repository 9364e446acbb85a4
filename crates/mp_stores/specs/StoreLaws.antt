-- What is read of the stores is read of the slots.
use Rattle.std.specs.Prelude.{◌≡◌, ◌↔◌, ◌==◌, ℕ, ◌<◌, List, [], ◌∷◌, length, map, slice_index_or}
use Rattle.std.specs.Prelude.{None, false}
use Rattle.std.proofs.Common.{zero, suc, refl, ap, ◌∙◌, sym, arith, subst}
use Rattle.std.proofs.lemmas.Bool.Decides.{nat_tests}
use Rattle.std.proofs.lemmas.List.{length-map}
use Rattle.std.proofs.lemmas.Simd.{map-map}
use Rattle.mp_defs.specs.Series.{Series, reading_of, series_of}
use Rattle.mp_nums.specs.declared.samples.Sample.{Sample}
use Rattle.mp_replies.specs.declared.refs.Ref.{Ref}
use Rattle.mp_replies.specs.State as states
use Rattle.mp_replies.specs.State.{Store, channels_at, channels_in, is_closed, keep_at, keep_in}
use Rattle.mp_replies.specs.State.{samples_in, series_at, store_at}
use Rattle.mp_stores.specs.Stores.{Held, Closed, Open, Kept, Lazy, HoldsAsBefore, IsChannel, StandAsBefore, StandFor}
use Rattle.mp_stores.specs.Stores.{StandForStore, StandsForAll, Stored, channel_at, channel_count, channel_series}
use Rattle.mp_stores.specs.Stores.{count_in, count_of, items_in, keep_of, lasting, nothing, sample_count, series_in}
use Rattle.mp_stores.specs.Stores.{is_lazy, slot_at, streams_at, streams_in}
use Rattle.mp_results.specs.Covering.{Covering}
use Rattle.mp_stream.specs.Kept.{Keeping}
use Rattle.mp_stream.specs.Streams.{Streamed}

-- ---- one slot

-- as many channels
channels_counted : (held : Held) (store : Store) → StandForStore held store
    → length (channels_in store) ≡ channel_count held
channels_counted Closed states.Closed stands = refl
channels_counted Closed (states.Open series) stands = absurd stands
channels_counted Closed (states.Kept keep series) stands = absurd stands
channels_counted Closed (states.Lazy series covered) stands = absurd stands
channels_counted (Open channels) states.Closed stands = absurd stands
channels_counted (Open channels) (states.Open series) stands =
    ap length stands ∙ length-map channels (λ (c : Streamed). series_of c.items)
channels_counted (Open channels) (states.Kept keep series) stands = absurd stands
channels_counted (Open channels) (states.Lazy series covered) stands = absurd stands
channels_counted (Kept kept) store stands = ap (λ (s : Store). length (channels_in s)) stands.store_is
channels_counted (Lazy part) store stands = ap (λ (s : Store). length (channels_in s)) stands

-- as many of its samples are kept
keep_counted : (held : Held) (store : Store) → StandForStore held store → keep_in store ≡ keep_of held
keep_counted Closed states.Closed stands = refl
keep_counted Closed (states.Open series) stands = absurd stands
keep_counted Closed (states.Kept keep series) stands = absurd stands
keep_counted Closed (states.Lazy series covered) stands = absurd stands
keep_counted (Open channels) states.Closed stands = absurd stands
keep_counted (Open channels) (states.Open series) stands = refl
keep_counted (Open channels) (states.Kept keep series) stands = absurd stands
keep_counted (Open channels) (states.Lazy series covered) stands = absurd stands
keep_counted (Kept kept) store stands = ap keep_in stands.store_is
keep_counted (Lazy part) store stands = ap keep_in stands

-- its profile is made in parts
lazy_counted : (held : Held) (store : Store) → StandForStore held store → states.is_lazy store ≡ is_lazy held
lazy_counted Closed states.Closed stands = refl
lazy_counted Closed (states.Open series) stands = absurd stands
lazy_counted Closed (states.Kept keep series) stands = absurd stands
lazy_counted Closed (states.Lazy series covered) stands = absurd stands
lazy_counted (Open channels) states.Closed stands = absurd stands
lazy_counted (Open channels) (states.Open series) stands = refl
lazy_counted (Open channels) (states.Kept keep series) stands = absurd stands
lazy_counted (Open channels) (states.Lazy series covered) stands = absurd stands
lazy_counted (Kept kept) store stands = ap states.is_lazy stands.store_is
lazy_counted (Lazy part) store stands = ap states.is_lazy stands

-- where all is kept, its channels and its samples are those of the channels
pub open_counted : (held : Held) → keep_of held ≡ None → is_lazy held ≡ false
    → channel_count held ≡ length (streams_in held)
open_counted Closed all whole = refl
open_counted (Open channels) all whole = refl
open_counted (Kept kept) all whole = absurd (cc all)
open_counted (Lazy part) all whole = absurd (cc whole)

pub open_sampled : (held : Held) → keep_of held ≡ None → is_lazy held ≡ false
    → sample_count held ≡ count_in (streams_in held)
open_sampled Closed all whole = refl
open_sampled (Open channels) all whole = refl
open_sampled (Kept kept) all whole = absurd (cc all)
open_sampled (Lazy part) all whole = absurd (cc whole)

-- the channels of an open slot
channels_are : (held : Held) (store : Store) → 0 < length (streams_in held) → StandForStore held store
    → channels_in store ≡ series_in (streams_in held)
channels_are Closed store some stands = absurd (omega (arith, some))
channels_are (Open channels) states.Closed some stands = absurd stands
channels_are (Open channels) (states.Open series) some stands = stands
channels_are (Open channels) (states.Kept keep series) some stands = absurd stands
channels_are (Open channels) (states.Lazy series covered) some stands = absurd stands
channels_are (Kept kept) store some stands = absurd (omega (arith, some))
channels_are (Lazy part) store some stands = absurd (omega (arith, some))

first_counted : (channels : List Streamed) → samples_in (series_in channels) ≡ count_in channels
first_counted [] = refl
first_counted (channel ∷ channels) = length-map channel.items reading_of

samples_counted : (held : Held) (store : Store) → StandForStore held store
    → samples_in (channels_in store) ≡ sample_count held
samples_counted Closed states.Closed stands = refl
samples_counted Closed (states.Open series) stands = absurd stands
samples_counted Closed (states.Kept keep series) stands = absurd stands
samples_counted Closed (states.Lazy series covered) stands = absurd stands
samples_counted (Open channels) states.Closed stands = absurd stands
samples_counted (Open channels) (states.Open series) stands = ap samples_in stands ∙ first_counted channels
samples_counted (Open channels) (states.Kept keep series) stands = absurd stands
samples_counted (Open channels) (states.Lazy series covered) stands = absurd stands
samples_counted (Kept kept) store stands =
    ap (λ (s : Store). samples_in (channels_in s)) stands.store_is
    ∙ (length-map stands.samples reading_of ∙ stands.stands.count)
samples_counted (Lazy part) store stands =
    ap (λ (s : Store). samples_in (channels_in s)) stands ∙ length-map part.items reading_of

closed_by_count : (held : Held) (store : Store)
    → (streams_in held ≡ [] → keep_of held ≡ None → is_lazy held ≡ false → held ≡ Closed)
    → StandForStore held store → is_closed store ≡ (channel_count held == 0)
closed_by_count Closed states.Closed none stands = refl
closed_by_count Closed (states.Open series) none stands = absurd stands
closed_by_count Closed (states.Kept keep series) none stands = absurd stands
closed_by_count Closed (states.Lazy series covered) none stands = absurd stands
closed_by_count (Open channels) states.Closed none stands = absurd stands
closed_by_count (Open []) (states.Open series) none stands = absurd (cc (none refl refl refl))
closed_by_count (Open (channel ∷ channels)) (states.Open series) none stands = grind (arith, nat_tests)
closed_by_count (Open channels) (states.Kept keep series) none stands = absurd stands
closed_by_count (Open channels) (states.Lazy series covered) none stands = absurd stands
closed_by_count (Kept kept) store none stands = ap is_closed stands.store_is
closed_by_count (Lazy part) store none stands = ap is_closed stands

closed_for_closed : (held : Held) (store : Store) → StandForStore held store
    → held ≡ Closed ↔ (store ≡ states.Closed)
closed_for_closed Closed states.Closed stands = (λ h. refl, λ h. refl)
closed_for_closed Closed (states.Open series) stands = absurd stands
closed_for_closed Closed (states.Kept keep series) stands = absurd stands
closed_for_closed Closed (states.Lazy series covered) stands = absurd stands
closed_for_closed (Open channels) states.Closed stands = absurd stands
closed_for_closed (Open channels) (states.Open series) stands = (λ h. absurd (cc h), λ h. absurd (cc h))
closed_for_closed (Open channels) (states.Kept keep series) stands = absurd stands
closed_for_closed (Open channels) (states.Lazy series covered) stands = absurd stands
closed_for_closed (Kept kept) store stands =
    (λ h. absurd (cc h), λ h. absurd (not_closed kept.keep (series_of stands.samples) (sym stands.store_is ∙ h)))
  where
    not_closed : (keep : ℕ) (series : Series) → states.Kept keep series ≡ states.Closed → ⊥
    not_closed keep series h = cc
closed_for_closed (Lazy part) store stands =
    (λ h. absurd (cc h), λ h. absurd (not_closed (series_of part.items) part.covered (sym stands ∙ h)))
  where
    not_closed : (series : Series) (covered : List ℕ) → states.Lazy series covered ≡ states.Closed → ⊥
    not_closed series covered h = cc

pub series_in_channel : (channels : List Streamed) (k : ℕ)
    → slice_index_or (series_in channels) k [] ≡ series_of (slice_index_or channels k nothing).items
series_in_channel [] k = refl
series_in_channel (channel ∷ channels) zero = refl
series_in_channel (channel ∷ channels) (suc k) = series_in_channel channels k

-- ---- several

pub count_stands : (stored : Stored) (stores : List Store) (slot : ℕ) → StandFor stored stores
    → length (channels_at stores slot) ≡ channel_count (slot_at stored slot)
count_stands stored stores slot stand =
    channels_counted (slot_at stored slot) (store_at stores slot) (stand.each slot)

-- how many samples each channel of a slot has
pub samples_stand : (stored : Stored) (stores : List Store) (slot : ℕ) → StandFor stored stores
    → samples_in (channels_at stores slot) ≡ sample_count (slot_at stored slot)
samples_stand stored stores slot stand =
    samples_counted (slot_at stored slot) (store_at stores slot) (stand.each slot)

pub is_closed_stands : (stored : Stored) (stores : List Store) (slot : ℕ) → StandFor stored stores
    → (streams_at stored slot ≡ [] → keep_of (slot_at stored slot) ≡ None
    → is_lazy (slot_at stored slot) ≡ false → slot_at stored slot ≡ Closed)
    → is_closed (store_at stores slot) ≡ (channel_count (slot_at stored slot) == 0)
is_closed_stands stored stores slot stand none =
    closed_by_count (slot_at stored slot) (store_at stores slot) none (stand.each slot)

-- how many samples of a slot are kept
pub keep_stands : (stored : Stored) (stores : List Store) (slot : ℕ) → StandFor stored stores
    → keep_at stores slot ≡ keep_of (slot_at stored slot)
keep_stands stored stores slot stand = keep_counted (slot_at stored slot) (store_at stores slot) (stand.each slot)

-- whether the profile of a slot is made in parts
pub lazy_stands : (stored : Stored) (stores : List Store) (slot : ℕ) → StandFor stored stores
    → states.is_lazy (store_at stores slot) ≡ is_lazy (slot_at stored slot)
lazy_stands stored stores slot stand = lazy_counted (slot_at stored slot) (store_at stores slot) (stand.each slot)

-- what a lazy slot stands for
pub part_stands : (stored : Stored) (stores : List Store) (slot : ℕ) (part : Covering) → StandFor stored stores
    → slot_at stored slot ≡ Lazy part → store_at stores slot ≡ states.Lazy (series_of part.items) part.covered
part_stands stored stores slot part stand is =
    subst (λ (h : Held). StandForStore h (store_at stores slot)) is (stand.each slot)

-- what a kept slot stands for
pub kept_stands : (stored : Stored) (stores : List Store) (slot : ℕ) (kept : Keeping) → StandFor stored stores
    → slot_at stored slot ≡ Kept kept → StandsForAll kept (store_at stores slot)
kept_stands stored stores slot kept stand is =
    subst (λ (h : Held). StandForStore h (store_at stores slot)) is (stand.each slot)

pub closed_stands : (stored : Stored) (stores : List Store) (slot : ℕ) → StandFor stored stores
    → slot_at stored slot ≡ Closed ↔ (store_at stores slot ≡ states.Closed)
closed_stands stored stores slot stand =
    closed_for_closed (slot_at stored slot) (store_at stores slot) (stand.each slot)

pub channels_stand : (stored : Stored) (stores : List Store) (slot : ℕ) → StandFor stored stores
    → 0 < length (streams_at stored slot) → channels_at stores slot ≡ series_in (streams_at stored slot)
channels_stand stored stores slot stand some =
    channels_are (slot_at stored slot) (store_at stores slot) some (stand.each slot)

-- the series of a channel
pub series_stands : (stored : Stored) (stores : List Store) (at : Ref)
    → StandFor stored stores → IsChannel stored at
    → series_at stores at ≡ channel_series stored at
series_stands stored stores at stand there =
    let some = there.channel in
    ap (λ (ss : List Series). slice_index_or ss at.channel [])
    (channels_stand stored stores at.slot stand (omega (arith, some)))
    ∙ series_in_channel (streams_at stored at.slot) at.channel

-- ---- what lasts

pub holds_still : (held : Held) → HoldsAsBefore held held
holds_still Closed = tt
holds_still (Open channels) = refl
holds_still (Kept kept) = refl
holds_still (Lazy part) = refl

-- slots that aren't touched
pub stand_still : (stored : Stored) → StandAsBefore stored stored
stand_still stored =
    record { window_is = refl; as_many = refl; each = λ slot. holds_still (slot_at stored slot) }

holds_on : (a b c : Held) → HoldsAsBefore a b → HoldsAsBefore b c → HoldsAsBefore a c
holds_on Closed Closed c one two = two
holds_on Closed (Open b) c one two = absurd one
holds_on Closed (Kept b) c one two = absurd one
holds_on Closed (Lazy b) c one two = absurd one
holds_on (Open a) Closed c one two = absurd one
holds_on (Open a) (Open b) Closed one two = absurd two
holds_on (Open a) (Open b) (Open c) one two = two ∙ one
holds_on (Open a) (Open b) (Kept c) one two = absurd two
holds_on (Open a) (Open b) (Lazy c) one two = absurd two
holds_on (Open a) (Kept b) c one two = absurd one
holds_on (Open a) (Lazy b) c one two = absurd one
holds_on (Kept a) Closed c one two = absurd one
holds_on (Kept a) (Open b) c one two = absurd one
holds_on (Kept a) (Kept b) Closed one two = absurd two
holds_on (Kept a) (Kept b) (Open c) one two = absurd two
holds_on (Kept a) (Kept b) (Kept c) one two = two ∙ one
holds_on (Kept a) (Kept b) (Lazy c) one two = absurd two
holds_on (Kept a) (Lazy b) c one two = absurd one
holds_on (Lazy a) Closed c one two = absurd one
holds_on (Lazy a) (Open b) c one two = absurd one
holds_on (Lazy a) (Kept b) c one two = absurd one
holds_on (Lazy a) (Lazy b) Closed one two = absurd two
holds_on (Lazy a) (Lazy b) (Open c) one two = absurd two
holds_on (Lazy a) (Lazy b) (Kept c) one two = absurd two
holds_on (Lazy a) (Lazy b) (Lazy c) one two = two ∙ one

pub stand_on : (a b c : Stored) → StandAsBefore a b → StandAsBefore b c → StandAsBefore a c
stand_on a b c one two = record {
  window_is = two.window_is ∙ one.window_is;
  as_many = two.as_many ∙ one.as_many;
  each = λ slot. holds_on (slot_at a slot) (slot_at b slot) (slot_at c slot) (one.each slot) (two.each slot);
}

-- as many channels, with the same samples
pub record LastAsBefore (old new : List Streamed) : Type 0 where
  pub count : length new ≡ length old
  pub items : items_in new ≡ items_in old
  pub series : series_in new ≡ series_in old

pub last_as_before : (old new : List Streamed) → map lasting new ≡ map lasting old → LastAsBefore old new
last_as_before old new same =
    let items : (channels : List Streamed) → items_in (map lasting channels) ≡ items_in channels =
    map-map (λ (c : Streamed). c.items) lasting in
    let series : (channels : List Streamed) → series_in (map lasting channels) ≡ series_in channels =
    map-map (λ (c : Streamed). series_of c.items) lasting in
    record {
      count = sym (length-map new lasting) ∙ (ap length same ∙ length-map old lasting);
      items = sym (items new) ∙ (ap items_in same ∙ items old);
      series = sym (series new) ∙ (ap series_in same ∙ series old);
    }

stands_as_before : (old new : Held) (store : Store) → HoldsAsBefore old new → StandForStore old store
    → StandForStore new store
stands_as_before Closed Closed store same stands = stands
stands_as_before Closed (Open new) store same stands = absurd same
stands_as_before Closed (Kept new) store same stands = absurd same
stands_as_before Closed (Lazy new) store same stands = absurd same
stands_as_before (Open old) Closed store same stands = absurd same
stands_as_before (Open old) (Open new) states.Closed same stands = absurd stands
stands_as_before (Open old) (Open new) (states.Open series) same stands =
    stands ∙ sym (last_as_before old new same).series
stands_as_before (Open old) (Open new) (states.Kept keep series) same stands = absurd stands
stands_as_before (Open old) (Open new) (states.Lazy series covered) same stands = absurd stands
stands_as_before (Open old) (Kept new) store same stands = absurd same
stands_as_before (Open old) (Lazy new) store same stands = absurd same
stands_as_before (Kept old) Closed store same stands = absurd same
stands_as_before (Kept old) (Open new) store same stands = absurd same
stands_as_before (Kept old) (Kept new) store same stands =
    subst (λ (k : Keeping). StandsForAll k store) (sym same) stands
stands_as_before (Kept old) (Lazy new) store same stands = absurd same
stands_as_before (Lazy old) Closed store same stands = absurd same
stands_as_before (Lazy old) (Open new) store same stands = absurd same
stands_as_before (Lazy old) (Kept new) store same stands = absurd same
stands_as_before (Lazy old) (Lazy new) store same stands =
    stands ∙ ap (λ (part : Covering). states.Lazy (series_of part.items) part.covered) (sym same)

-- slots that hold what they held stand for the stores that they stood for
pub stand_as_before : (old new : Stored) (stores : List Store) → StandAsBefore old new → StandFor old stores
    → StandFor new stores
stand_as_before old new stores same stand = record {
  as_many = stand.as_many ∙ sym same.as_many;
  each = λ slot.
      stands_as_before (slot_at old slot) (slot_at new slot) (store_at stores slot) (same.each slot) (stand.each slot);
}

lasts_in : (old new : Held) → HoldsAsBefore old new → LastAsBefore (streams_in old) (streams_in new)
lasts_in Closed Closed same = record { count = refl; items = refl; series = refl }
lasts_in Closed (Open new) same = absurd same
lasts_in Closed (Kept new) same = absurd same
lasts_in Closed (Lazy new) same = absurd same
lasts_in (Open old) Closed same = absurd same
lasts_in (Open old) (Open new) same = last_as_before old new same
lasts_in (Open old) (Kept new) same = absurd same
lasts_in (Open old) (Lazy new) same = absurd same
lasts_in (Kept old) Closed same = absurd same
lasts_in (Kept old) (Open new) same = absurd same
lasts_in (Kept old) (Kept new) same = record { count = refl; items = refl; series = refl }
lasts_in (Kept old) (Lazy new) same = absurd same
lasts_in (Lazy old) Closed same = absurd same
lasts_in (Lazy old) (Open new) same = absurd same
lasts_in (Lazy old) (Kept new) same = absurd same
lasts_in (Lazy old) (Lazy new) same = record { count = refl; items = refl; series = refl }

-- the channels of a slot
pub last_at : (old new : Stored) (slot : ℕ) → StandAsBefore old new
    → LastAsBefore (streams_at old slot) (streams_at new slot)
last_at old new slot same = lasts_in (slot_at old slot) (slot_at new slot) (same.each slot)

-- the samples of a channel
pub items_last : (old new : Stored) (at : Ref) → StandAsBefore old new
    → (channel_at new at).items ≡ (channel_at old at).items
items_last old new at same =
    let last = last_at old new at.slot same in
    sym (items_in_channel (streams_at new at.slot) at.channel)
    ∙ (ap (λ (lists : List (List Sample)). slice_index_or lists at.channel []) last.items
    ∙ items_in_channel (streams_at old at.slot) at.channel)
  where
    items_in_channel : (channels : List Streamed) (k : ℕ)
        → slice_index_or (items_in channels) k [] ≡ (slice_index_or channels k nothing).items
    items_in_channel [] k = refl
    items_in_channel (channel ∷ channels) zero = refl
    items_in_channel (channel ∷ channels) (suc k) = items_in_channel channels k

-- a channel stays
pub channel_lasts : (old new : Stored) (at : Ref) → StandAsBefore old new → IsChannel old at → IsChannel new at
channel_lasts old new at same there =
    let count = (last_at old new at.slot same).count in
    let inside = there.channel in
    record { slot = there.slot; channel = omega (arith, inside, count) }

-- ---- what is counted in a slot lasts

pub record SlotLasts (old new : Held) : Type 0 where
  pub channels : channel_count new ≡ channel_count old
  pub samples : sample_count new ≡ sample_count old
  pub keep : keep_of new ≡ keep_of old
  pub lazy : is_lazy new ≡ is_lazy old
  pub kept : (kept : Keeping) → new ≡ Kept kept → old ≡ Kept kept

slot_lasts_in : (old new : Held) → HoldsAsBefore old new → SlotLasts old new
slot_lasts_in Closed Closed same =
    record { channels = refl; samples = refl; keep = refl; lazy = refl; kept = λ kept is. is }
slot_lasts_in Closed (Open new) same = absurd same
slot_lasts_in Closed (Kept new) same = absurd same
slot_lasts_in Closed (Lazy new) same = absurd same
slot_lasts_in (Open old) Closed same = absurd same
slot_lasts_in (Open old) (Open new) same =
    let last = last_as_before old new same in
    record {
      channels = last.count;
      samples = ap count_of last.items;
      keep = refl;
      lazy = refl;
      kept = λ kept is. absurd (cc is);
    }
slot_lasts_in (Open old) (Kept new) same = absurd same
slot_lasts_in (Open old) (Lazy new) same = absurd same
slot_lasts_in (Kept old) Closed same = absurd same
slot_lasts_in (Kept old) (Open new) same = absurd same
slot_lasts_in (Kept old) (Kept new) same = record {
  channels = refl;
  samples = ap (λ (k : Keeping). k.count) same;
  keep = ap (λ (k : Keeping). keep_of (Kept k)) same;
  lazy = refl;
  kept = λ kept is. ap Kept (sym same) ∙ is;
}
slot_lasts_in (Kept old) (Lazy new) same = absurd same
slot_lasts_in (Lazy old) Closed same = absurd same
slot_lasts_in (Lazy old) (Open new) same = absurd same
slot_lasts_in (Lazy old) (Kept new) same = absurd same
slot_lasts_in (Lazy old) (Lazy new) same = record {
  channels = refl;
  samples = ap (λ (part : Covering). length part.items) same;
  keep = refl;
  lazy = refl;
  kept = λ kept is. absurd (cc is);
}

pub slot_lasts : (old new : Stored) (slot : ℕ) → StandAsBefore old new
    → SlotLasts (slot_at old slot) (slot_at new slot)
slot_lasts old new slot same = slot_lasts_in (slot_at old slot) (slot_at new slot) (same.each slot)
