-- One slot of several, changed.
use Rattle.std.proofs.Common.{◌≡◌, ◌≢◌, ℕ, zero, suc, ◌+◌, ◌-◌, ◌*◌, ◌<◌, ◌≤◌, List, [], ◌∷◌, ◌++◌, length, get_or}
use Rattle.std.proofs.Common.{set, map, refl, ap, ◌∙◌, sym, arith, subst, Vec, append_assoc, replicate, lit≤, ⊎_elim}
use Rattle.std.specs.Prelude.{All, take, drop, slice_get, Option, Some, None, is_some, IfSome, IfNone}
use Rattle.std.specs.Prelude.{false, Result, Ok, Err, IfOk, OnErr, OnOk}
use Rattle.std.specs.List.{take-map, drop-map}
use Rattle.std.specs.declared.alloc.Global.{Global}
use Rattle.std.proofs.lemmas.Bool.{cases_eq}
use Rattle.std.proofs.lemmas.List.{map-set, map-append, get_or-map, get_or-set_same, get_or-set_other, get_or_default}
use Rattle.std.proofs.lemmas.List.{length-map, length-set, length-append}
use Rattle.std.proofs.lemmas.List.Elements.{All-get_or, All-nil, All-cons, All-head, All-tail}
use Rattle.std.proofs.lemmas.List.Sums.{sum_by-cons, sum_by-set}
use Rattle.std.proofs.lemmas.Simd.{map-map}
use Rattle.std.proofs.lemmas.Slice.Zip.{AllZip-long}
use Rattle.std.proofs.Math.Seq.{map-set_same}
use Rattle.mp_nums.specs.declared.samples.Sample.{Sample}
use Rattle.mp_defs.specs.Limits.{max_samples, max_window, min_window}
use Rattle.mp_defs.specs.Series.{Series, reading_of, series_of}
use Rattle.mp_replies.specs.AppendCommand.{most_samples}
use Rattle.mp_replies.specs.Change.{CoverNext, covered_further, extended, grown as added_to}
use Rattle.mp_results.specs.Covering.{Covering, advanced as advanced_of}
use Rattle.mp_defs.specs.Window.{windows}
use Rattle.mp_replies.specs.State as states
use Rattle.mp_replies.specs.State.{Store, store_at}
use Rattle.mp_stream.specs.Kept.{Keeping}
use Rattle.mp_stream.specs.Streams.{Streamed}
use Rattle.mp_stores.specs.declared.store.Store.{Store as Kept}
use Rattle.mp_stores.specs.declared.store.Store.TheVariants as program
use Rattle.mp_stores.specs.Channels.{HasAdvanced, HasGrownBy, HaveGrown, KeptHasGrown, PartHasGrown}
use Rattle.mp_stores.specs.Seen.{held_of}
use Rattle.mp_stores.specs.StoreLaws.{holds_still, last_as_before}
use Rattle.mp_stores.specs.Stores as held
use Rattle.mp_stores.specs.Stores.{Held, Closed, Open, Lazy, AreAlike, AreChannels, AreEven, AreStores, CanAppend}
use Rattle.mp_stores.specs.Stores.{CanCover, CanExtend, CanKeep, CanOpen, HasRoomFor, HasSpare, channel_count}
use Rattle.mp_stores.specs.Stores.{StandAsBefore, StandChanged, is_lazy, sample_count}
use Rattle.mp_stores.specs.Stores.{HasRoomIn, HaveRoom, HaveWindow, HoldsAsBefore, IsHeld, IsOfSamples, RoomWasMade}
use Rattle.mp_stores.specs.Stores.{StandFor, StandForStore, StandsForAll, added_reads, keep_of}
use Rattle.mp_stores.specs.Stores.{Stored, WasRead, WasReadIn, count_in, count_of, items_in, lasting, lent_of}
use Rattle.mp_stores.specs.Stores.{lists_in, nothing, reads_at, reads_in, reads_of, series_in, slot_at, stream_in}
use Rattle.mp_stores.specs.Stores.{streams_at, streams_in, without_room}
use Rattle.mp_stores.proofs.GroupLemmas.{HaveRisen, extended_from, risen_from, window_kept}

-- ---- one of several slots is set

abbrev pub with_slot : Stored → ℕ → Held → Stored
with_slot stored slot new = record stored { slots = set stored.slots slot new }

-- a fact of what is set, and of the rest
in_set : (P : Held → Type 0) (slots : List Held) (slot k : ℕ) (new : Held) → P new → P (get_or slots k Closed)
    → P (get_or (set slots slot new) k Closed)
in_set P [] slot k new here there = there
in_set P (held ∷ slots) zero zero new here there = here
in_set P (held ∷ slots) zero (suc k) new here there = there
in_set P (held ∷ slots) (suc slot) zero new here there = there
in_set P (held ∷ slots) (suc slot) (suc k) new here there = in_set P slots slot k new here there

-- a fact of what was there and what is set, where the rest stays
from_set : (R : Held → Held → Type 0) → ((held : Held) → R held held) → (slots : List Held) (slot k : ℕ) (new : Held)
    → R (get_or slots slot Closed) new → R (get_or slots k Closed) (get_or (set slots slot new) k Closed)
from_set R same [] slot k new here = same Closed
from_set R same (held ∷ slots) zero zero new here = here
from_set R same (held ∷ slots) zero (suc k) new here = same (get_or slots k Closed)
from_set R same (held ∷ slots) (suc slot) zero new here = same held
from_set R same (held ∷ slots) (suc slot) (suc k) new here = from_set R same slots slot k new here

-- a fact of slots and stores, where both are set
in_both : (R : Held → Store → Type 0) (slots : List Held) (stores : List Store) (slot k : ℕ) (new : Held)
    (store : Store) → length stores ≡ length slots → R new store → R (get_or slots k Closed) (store_at stores k)
    → R (get_or (set slots slot new) k Closed) (store_at (set stores slot store) k)
in_both R [] [] slot k new store long here there = there
in_both R [] (s ∷ stores) slot k new store long here there = absurd (omega (arith, long))
in_both R (held ∷ slots) [] slot k new store long here there = absurd (omega (arith, long))
in_both R (held ∷ slots) (s ∷ stores) zero zero new store long here there = here
in_both R (held ∷ slots) (s ∷ stores) zero (suc k) new store long here there = there
in_both R (held ∷ slots) (s ∷ stores) (suc slot) zero new store long here there = there
in_both R (held ∷ slots) (s ∷ stores) (suc slot) (suc k) new store long here there =
    in_both R slots stores slot k new store (omega (arith, long)) here there

slots_set : (stored : Stored) (slot : ℕ) (new : Held) → AreStores stored → IsHeld stored.m new
    → AreStores (with_slot stored slot new)
slots_set stored slot new are is = record {
  shortest = are.shortest;
  longest = are.longest;
  count = length-set stored.slots slot new ∙ are.count;
  each = λ k. in_set (IsHeld stored.m) stored.slots slot k new is (are.each k);
}

slot_set : (stored : Stored) (slot : ℕ) (new : Held) → AreStores stored → slot < 8
    → slot_at (with_slot stored slot new) slot ≡ new
slot_set stored slot new are within =
    get_or-set_same stored.slots slot new Closed (omega (arith, are.count, within))

set_stand : (stored : Stored) (stores : List Store) (slot : ℕ) (new : Held) (store : Store) → StandFor stored stores
    → StandForStore new store → StandFor (with_slot stored slot new) (set stores slot store)
set_stand stored stores slot new store stand here = record {
  as_many = length-set stores slot store ∙ (stand.as_many ∙ sym (length-set stored.slots slot new));
  each = λ k. in_both StandForStore stored.slots stores slot k new store stand.as_many here (stand.each k);
}

-- ---- samples of it were read

window_like : (m : ℕ) (old new : List Streamed) → map lasting new ≡ map lasting old → HaveWindow m old
    → HaveWindow m new
window_like m old [] same have = All-nil (λ (c : Streamed). c.m ≡ m)
window_like m [] (n ∷ new) same have = absurd (cc same)
window_like m (o ∷ old) (n ∷ new) same have =
    let here : lasting n ≡ lasting o = cc in
    let rest : map lasting new ≡ map lasting old = cc in
    All-cons (λ (c : Streamed). c.m ≡ m) n new
    (ap (λ (c : Streamed). c.m) here ∙ All-head (λ (c : Streamed). c.m ≡ m) o old have)
    (window_like m old new rest (All-tail (λ (c : Streamed). c.m ≡ m) o old have))

held_as_before : (m : ℕ) (old new : Held) → HoldsAsBefore old new → IsHeld m old → IsHeld m new
held_as_before m Closed Closed same is = tt
held_as_before m (Open old) (Open new) same is =
    let last = last_as_before old new same in
    let some = is.some in
    record {
      some = omega (arith, some, last.count);
      alike = subst AreAlike (sym last.items) is.alike;
      window = window_like m old new same is.window;
    }
held_as_before m (held.Kept old) (held.Kept new) same is = subst (CanKeep m) (sym same) is
held_as_before m (Lazy old) (Lazy new) same is = record {
  window = ap (λ (part : Covering). part.m) same ∙ is.window;
  few = subst (λ (part : Covering). length part.items ≤ max_samples) (sym same) is.few;
}
held_as_before m old new same is = absurd same

-- the slots behind that
pub record IsReadSlot (old new : Stored) (slot : ℕ) (held : Held) (most : ℕ) : Type 0 where
  pub are : AreStores new
  pub here : slot_at new slot ≡ held
  pub read : WasRead old new slot most

read_set : (stored : Stored) (slot : ℕ) (new : Held) (most : ℕ) → AreStores stored → slot < 8
    → WasReadIn most (slot_at stored slot) new → IsReadSlot stored (with_slot stored slot new) slot new most
read_set stored slot new most are within read =
    let here = slot_set stored slot new are within in
    record {
      are = slots_set stored slot new are (held_as_before stored.m (slot_at stored slot) new read.holds (are.each
          slot));
      here = here;
      read = record {
        stands = record {
          window_is = refl;
          as_many = length-set stored.slots slot new;
          each = λ k. from_set HoldsAsBefore holds_still stored.slots slot k new read.holds;
        };
        read = subst (WasReadIn most (slot_at stored slot)) (sym here) read;
        others = λ other apart. get_or-set_other stored.slots slot other new Closed apart;
      };
    }

-- no sample was
pub none_read_at : (old new : Stored) (slot other : ℕ) → WasRead old new slot 0
    → reads_at new other ≡ reads_at old other
none_read_at old new slot other read =
    ⊎_elim
    (λ (same : other ≡ slot).
    let low = read.read.rise in
    let high = read.read.most_reads in
    subst (λ (k : ℕ). reads_at new k ≡ reads_at old k) (sym same) (omega (arith, low, high)))
    (λ (apart : other ≢ slot). ap reads_of (read.others other apart))
    (cases_eq other slot)

one_read : (old : List Streamed) (k : ℕ) (x new : Streamed) → k < length old → x ≡ get_or old k nothing
    → new.items ≡ x.items → new.m ≡ x.m → x.reads ≤ new.reads
    → new.reads ≤ x.reads + length x.items * length x.items
    → WasReadIn (lent_of (Open old) k) (Open old) (Open (set old k new))
one_read old k x new inside found items window low high =
    let total = sum_by-set (λ (c : Streamed). c.reads) old k new nothing inside in
    let same : lasting new ≡ lasting (get_or old k nothing) = cc in
    let reads = ap (λ (c : Streamed). c.reads) found in
    let most = ap (λ (c : Streamed). length c.items * length c.items) found in
    record {
      holds = map-set_same lasting old k new nothing same;
      rise = omega (arith, total, low, reads);
      most_reads = omega (arith, total, high, reads, most);
    }

-- one channel was
pub channel_read : (store : Kept) (channels : Vec Streamed Global) (k : ℕ) (x new : Streamed)
    → store ≡ program.Open channels → k < length (streams_in (held_of store)) → x ≡ get_or channels.items k x
    → new.items ≡ x.items → new.m ≡ x.m → x.reads ≤ new.reads
    → new.reads ≤ x.reads + length x.items * length x.items
    → WasReadIn (lent_of (held_of store) k) (held_of store) (Open (set channels.items k new))
channel_read store channels k x new here inside is items window low high =
    let within : k < length channels.items = subst (λ (s : Kept). k < length (streams_in (held_of s))) here inside in
    subst (λ (s : Kept). WasReadIn (lent_of (held_of s) k) (held_of s) (Open (set channels.items k new))) (sym here)
    (one_read channels.items k x new within (is ∙ get_or_default channels.items k x nothing within) items window low
    high)

-- ---- room was made

lasting_room : (channels : List Streamed) → map lasting (map without_room channels) ≡ map lasting channels
lasting_room channels = map-map lasting without_room channels

reads_room : (channels : List Streamed) → reads_in (map without_room channels) ≡ reads_in channels
reads_room [] = refl
reads_room (channel ∷ channels) =
    let before = sum_by-cons (λ (c : Streamed). c.reads) channel channels in
    let after = sum_by-cons (λ (c : Streamed). c.reads) (without_room channel) (map without_room channels) in
    omega (arith, before, after, reads_room channels)

room_made_open : (old new : List Streamed) → RoomWasMade old new → WasReadIn 0 (Open old) (Open new)
room_made_open old new same =
    let reads : reads_in new ≡ reads_in old = sym (reads_room new) ∙ (ap reads_in same ∙ reads_room old) in
    record {
      holds = sym (lasting_room new) ∙ (ap (map lasting) same ∙ lasting_room old);
      rise = omega (arith, reads);
      most_reads = omega (arith, reads);
    }

pub room_made : (store : Kept) (channels : Vec Streamed Global) (old new now : List Streamed)
    → store ≡ program.Open channels → old ≡ channels.items → now ≡ new → RoomWasMade old new
    → WasReadIn 0 (held_of store) (Open now)
room_made store channels old new now here is same made =
    subst (λ (s : Kept). WasReadIn 0 (held_of s) (Open now)) (sym here)
    (subst (λ (cs : List Streamed). WasReadIn 0 (Open cs) (Open now)) is
    (subst (λ (cs : List Streamed). WasReadIn 0 (Open old) (Open cs)) (sym same) (room_made_open old new made)))

-- how many samples the first list has
first_count : (added : List (List Sample)) (more : ℕ) → 0 < length added
    → All (λ samples. length samples ≡ more) added → count_of added ≡ more
first_count [] more some lists = absurd (omega (arith, some))
first_count (list ∷ added) more some lists = All-head (λ (s : List Sample). length s ≡ more) list added lists

-- there is room in each channel for a list of so many samples
room_each : (count more : ℕ) (held : List Streamed) (added : List (List Sample)) → length added ≡ length held
    → All (λ channel. more ≤ channel.spare) held
    → All (λ samples. length samples ≡ count) (items_in held) → All (λ samples. length samples ≡ more) added
    → count + more ≤ max_samples
    → HaveRoom held added
room_each count more [] [] long spare even lists fits = tt
room_each count more [] (list ∷ added) long spare even lists fits = absurd (omega (arith, long))
room_each count more (channel ∷ held) [] long spare even lists fits = absurd (omega (arith, long))
room_each count more (channel ∷ held) (list ∷ added) long spare even lists fits =
    let is = All-head (λ (s : List Sample). length s ≡ more) list added lists in
    let same = All-head (λ (s : List Sample). length s ≡ count) channel.items (items_in held) even in
    let free = All-head (λ (c : Streamed). more ≤ c.spare) channel held spare in (
      record { room = omega (arith, is, free); fits = omega (arith, is, same, fits) },
      room_each count more held added (omega (arith, long))
          (All-tail (λ (c : Streamed). more ≤ c.spare) channel held spare)
          (All-tail (λ (s : List Sample). length s ≡ count) channel.items (items_in held) even)
          (All-tail (λ (s : List Sample). length s ≡ more) list added lists) fits,
    )

pub room_for : (m : ℕ) (held : Held) (added : List (List Sample)) (more : ℕ) → IsHeld m held
    → HasSpare more held → 0 < length added → length added ≡ channel_count held
    → All (λ samples. length samples ≡ more) added → sample_count held + more ≤ most_samples (keep_of held)
    → HasRoomIn held added
room_for m Closed added more is spare some long lists fits = absurd (omega (arith, some, long))
room_for m (Open channels) added more is spare some long lists fits =
    room_each (count_in channels) more channels added long spare is.alike.same lists fits
room_for m (held.Kept kept) added more is spare some long lists fits =
    record { one = long; fits = omega (arith, first_count added more some lists, fits) }
room_for m (Lazy part) added more is spare some long lists fits =
    let first = first_count added more some lists in
    record { one = long; room = omega (arith, first, spare); fits = omega (arith, first, fits) }

-- ---- samples were added

length-extended : {A : Type 0} (lists added : List (List A)) → length (extended lists added) ≡ length lists
length-extended [] added = refl
length-extended (list ∷ lists) [] = refl
length-extended (list ∷ lists) (more ∷ added) = ap suc (length-extended lists added)

all_long : (n m : ℕ) (lists added : List (List Sample)) → length added ≡ length lists
    → All (λ samples. length samples ≡ n) lists → All (λ samples. length samples ≡ m) added
    → All (λ samples. length samples ≡ n + m) (extended lists added)
all_long n m [] added long one two = All-nil (λ samples. length samples ≡ n + m)
all_long n m (list ∷ lists) [] long one two = absurd (omega (arith, long))
all_long n m (list ∷ lists) (more ∷ added) long one two =
    let here : length (list ++ more) ≡ n + m =
    omega (
      arith,
      length-append list more,
      All-head (λ (s : List Sample). length s ≡ n) list lists one,
      All-head (λ (s : List Sample). length s ≡ m) more added two,
    ) in
    All-cons (λ samples. length samples ≡ n + m) (list ++ more) (extended lists added) here
    (all_long n m lists added (omega (arith, long)) (All-tail (λ (s : List Sample). length s ≡ n) list lists one)
    (All-tail (λ (s : List Sample). length s ≡ m) more added two))

alike_extended : (lists added : List (List Sample)) → length added ≡ length lists → AreAlike lists → AreEven added
    → AreAlike (extended lists added)
alike_extended [] added long are even = are
alike_extended (list ∷ lists) [] long are even = absurd (omega (arith, long))
alike_extended (list ∷ lists) (more ∷ added) long are even =
    let each = all_long (length list) even.count (list ∷ lists) (more ∷ added) long are.same even.each in
    let first : length (list ++ more) ≡ length list + even.count =
    All-head (λ (s : List Sample). length s ≡ length list + even.count) (list ++ more) (extended lists added) each in
    record {
      few = omega (arith, are.few, length-extended lists added);
      same =
          subst (λ (n : ℕ). All (λ samples. length samples ≡ n) (extended (list ∷ lists) (more ∷ added)))
          (sym first) each;
    }

even_count : (added : List (List Sample)) → AreEven added
    → All (λ samples. length samples ≡ count_of added) added
even_count [] even = All-nil (λ (s : List Sample). length s ≡ 0)
even_count (samples ∷ added) even =
    let first : length samples ≡ even.count =
    All-head (λ (s : List Sample). length s ≡ even.count) samples added even.each in
    subst (λ (n : ℕ). All (λ s. length s ≡ n) (samples ∷ added)) (sym first) even.each

map_extended : (lists added : List (List Sample))
    → map series_of (extended lists added) ≡ extended (map series_of lists) (map series_of added)
map_extended [] added = refl
map_extended (list ∷ lists) [] = refl
map_extended (list ∷ lists) (more ∷ added) =
    ap (λ (x : Series). x ∷ map series_of (extended lists added)) (map-append reading_of list more)
    ∙ ap (λ (xs : List Series). (series_of list ++ series_of more) ∷ xs) (map_extended lists added)

series_of_items : (channels : List Streamed) → series_in channels ≡ map series_of (items_in channels)
series_of_items channels = sym (map-map series_of (λ (c : Streamed). c.items) channels)

grown_open : (m : ℕ) (old new : List Streamed) (added : List (List Sample)) → length added ≡ length old
    → AreEven added → HaveGrown added old new → CanOpen m old → CanOpen m new
grown_open m old new added long even grown is =
    let some = is.some in
    let count = grown.count in
    record {
      some = omega (arith, some, count);
      alike =
          subst AreAlike (sym (extended_from old new added long grown))
          (alike_extended (items_in old) added (long ∙ sym (length-map old (λ (c : Streamed). c.items))) is.alike even);
      window = window_kept m old new added long grown is.window;
    }

grown_stands : (old new : List Streamed) (added : List (List Sample)) → length added ≡ length old
    → HaveGrown added old new → (store : Store) → StandForStore (Open old) store
    → StandForStore (Open new) (added_to store (map series_of added))
grown_stands old new added long grown states.Closed stands = absurd stands
grown_stands old new added long grown (states.Kept keep series) stands = absurd stands
grown_stands old new added long grown (states.Lazy series covered) stands = absurd stands
grown_stands old new added long grown (states.Open series) stands =
    ap (λ (list : List Series). extended list (map series_of added)) (stands ∙ series_of_items old)
    ∙ (sym (map_extended (items_in old) added)
    ∙ (ap (map series_of) (sym (extended_from old new added long grown)) ∙ sym (series_of_items new)))

-- samples behind those of which the last ones are kept
kept_stands : (old new : Keeping) (list : List Sample) → KeptHasGrown list old new → (store : Store)
    → StandsForAll old store → StandsForAll new (added_to store (series_of list ∷ []))
kept_stands old new list grown store stands = record {
  samples = stands.samples ++ list;
  store_is =
      ap (λ (s : Store). added_to s (series_of list ∷ [])) stands.store_is
      ∙ (ap (states.Kept old.keep) (sym (map-append reading_of stands.samples list))
      ∙ ap (λ (keep : ℕ). states.Kept keep (series_of (stands.samples ++ list))) (sym grown.keep_is));
  stands = grown.stands stands.samples stands.stands;
}

-- samples were added to the channels of a slot
pub record WasExtended (m : ℕ) (added : List (List Sample)) (old new : Held) : Type 0 where
  pub is : IsHeld m new
  pub risen : HaveRisen (reads_of old) (reads_of new) (added_reads m old added)
  pub stands : (store : Store) → StandForStore old store → StandForStore new (added_to store (map series_of added))

was_kept : (m : ℕ) (old new : Keeping) (added : List (List Sample)) → CanAppend old added
    → KeptHasGrown (get_or added 0 []) old new → CanKeep m old → WasExtended m added (held.Kept old) (held.Kept new)
was_kept m old new [] can grown is = absurd (omega (arith, can.one))
was_kept m old new (list ∷ []) can grown is =
    let stands = grown.stands is.samples is.stands in
    record {
      is = record {
        window = grown.window_is ∙ is.window;
        few = omega (arith, stands.count, length-append is.samples list, is.stands.count, can.fits);
        samples = is.samples ++ list;
        stands = stands;
      };
      risen = record {
        rise = grown.rise;
        most_reads =
            subst (λ (n : ℕ). new.reads ≤ old.reads + length list * (4 * (old.keep + n))) is.window grown.most_reads;
      };
      stands = λ store stands. kept_stands old new list grown store stands;
    }
was_kept m old new (list ∷ next ∷ added) can grown is = absurd (omega (arith, can.one))

-- samples behind those of a series whose profile is made in parts
part_grown : (old new : Covering) (list : List Sample) → PartHasGrown list old new → (store : Store)
    → StandForStore (Lazy old) store → StandForStore (Lazy new) (added_to store (series_of list ∷ []))
part_grown old new list grown store stands =
    ap (λ (s : Store). added_to s (series_of list ∷ [])) stands
    ∙ (ap (λ (s : Series). states.Lazy s old.covered)
    (sym (map-append reading_of old.items list) ∙ ap series_of (sym grown.items_are))
    ∙ ap (states.Lazy (series_of new.items)) (sym grown.covered_are))

was_covered : (m : ℕ) (old new : Covering) (added : List (List Sample)) → CanExtend old added
    → PartHasGrown (get_or added 0 []) old new → CanCover m old → WasExtended m added (Lazy old) (Lazy new)
was_covered m old new [] can grown is = absurd (omega (arith, can.one))
was_covered m old new (list ∷ []) can grown is = record {
  is = record {
    window = grown.window_is ∙ is.window;
    few = omega (arith, ap length grown.items_are, length-append old.items list, can.fits);
  };
  risen = record {
    rise = grown.rise;
    most_reads =
        subst (λ (n : ℕ). new.reads ≤ old.reads + length list * (4 * (windows (length old.items + length list) n + n)))
        is.window grown.most_reads;
  };
  stands = λ store stands. part_grown old new list grown store stands;
}
was_covered m old new (list ∷ next ∷ added) can grown is = absurd (omega (arith, can.one))

was_extended : (m : ℕ) (old new : Held) (added : List (List Sample)) → HasGrownBy added old new
    → HasRoomIn old added → AreEven added → IsHeld m old → WasExtended m added old new
was_extended m (Open old) (Open new) added grown room even is =
    let long = AllZip-long HasRoomFor old added room in
    record {
      is = grown_open m old new added long even grown is;
      risen =
          risen_from m (count_in old) (count_of added) old new added long grown is.window is.alike.same
          (even_count added even);
      stands = grown_stands old new added long grown;
    }
was_extended m (held.Kept old) (held.Kept new) added grown room even is = was_kept m old new added room grown is
was_extended m (Lazy old) (Lazy new) added grown room even is = was_covered m old new added room grown is
was_extended m old new added grown room even is = absurd grown

-- ---- diagonals were covered

-- what stands in a slot behind an advance may stand there, whatever came of it
pub held_advanced : {T E : Type 0} (result : Result T E) (m count : ℕ) (old new : Held)
    → OnOk result (HasAdvanced count old new) → OnErr result (HoldsAsBefore old new) → IsHeld m old → IsHeld m new
held_advanced (Ok done) m count (Lazy old) (Lazy new) advanced as_before is = record {
  window = advanced.window_is ∙ is.window;
  few = subst (λ (items : List Sample). length items ≤ max_samples) (sym advanced.items_are) is.few;
}
held_advanced (Ok done) m count old new advanced as_before is = absurd advanced
held_advanced (Err e) m count old new advanced as_before is = held_as_before m old new as_before is

abbrev further : ℕ → ℕ → Series → List ℕ → List ℕ
further m count series covered = advanced_of m (windows (length series) m) count covered

-- it stands for the store that has them covered
pub advanced_stands : (m count : ℕ) (old new : Held) → HasAdvanced count old new → IsHeld m old → (store : Store)
    → StandForStore old store → StandForStore new (covered_further m count store)
advanced_stands m count (Lazy old) (Lazy new) advanced is store stands =
    let same : covered_further m count store
    ≡ states.Lazy (series_of old.items) (further m count (series_of old.items) old.covered) =
    ap (covered_further m count) stands in
    let items : series_of old.items ≡ series_of new.items = ap series_of (sym advanced.items_are) in
    let long : length (series_of old.items) ≡ length old.items = length-map old.items reading_of in
    let covered : further m count (series_of old.items) old.covered ≡ new.covered =
    ap (λ (n : ℕ). advanced_of m (windows n m) count old.covered) long
    ∙ (ap (λ (k : ℕ). advanced_of k (windows (length old.items) k) count old.covered) (sym is.window)
    ∙ sym advanced.covered_are) in
    same
    ∙ (ap (λ (s : Series). states.Lazy s (further m count (series_of old.items) old.covered)) items
    ∙ ap (states.Lazy (series_of new.items)) covered)
advanced_stands m count old new advanced is store stands = absurd advanced

-- ---- another store stands there

-- the slots behind a change of one, which stands for this store now
pub record AreSet (old new : Stored) (slot : ℕ) (held : Held) (behind : List Store → Store) : Type 0 where
  pub are : AreStores new
  pub stands : (stores : List Store) → StandFor old stores → StandFor new (set stores slot (behind stores))
  pub here : slot_at new slot ≡ held
  pub others : (other : ℕ) → other ≢ slot → slot_at new other ≡ slot_at old other

held_set : (stored : Stored) (slot : ℕ) (held : Held) (behind : List Store → Store) → AreStores stored → slot < 8
    → IsHeld stored.m held → ((stores : List Store) → StandFor stored stores → StandForStore held (behind stores))
    → AreSet stored (with_slot stored slot held) slot held behind
held_set stored slot held behind are within is stands = record {
  are = slots_set stored slot held are is;
  stands = λ stores stand. set_stand stored stores slot held (behind stores) stand (stands stores stand);
  here = slot_set stored slot held are within;
  others = λ other apart. get_or-set_other stored.slots slot other held Closed apart;
}

-- ---- slots as they are stored

abbrev pub view : ℕ → List Kept → Stored
view m stored = record { m = m; slots = map held_of stored }

view_set : (m : ℕ) (stored : List Kept) (slot : ℕ) (w : Kept)
    → with_slot (view m stored) slot (held_of w) ≡ view m (set stored slot w)
view_set m stored slot w =
    ap (λ (slots : List Held). record { m = m; slots = slots }) (sym (map-set held_of stored slot w))

-- they are seen as these, of which this slot is one
pub record AreSeen (m : ℕ) (stored : List Kept) (old : Stored) (slot : ℕ) : Type 0 where
  pub seen : view m stored ≡ old
  pub are : AreStores (view m stored)
  pub within : slot < 8

pub stored_long : (m : ℕ) (stored : List Kept) → AreStores (view m stored) → length stored ≡ 8
stored_long m stored are = sym (length-map stored held_of) ∙ are.count

module _ {m : ℕ} {stored : List Kept} {old : Stored} {slot : ℕ} (all : AreSeen m stored old slot) where
  pub stores_seen : AreStores old
  stores_seen = subst AreStores all.seen all.are

  set_seen : (w : Kept) → with_slot old slot (held_of w) ≡ view m (set stored slot w)
  set_seen w = ap (λ (s : Stored). with_slot s slot (held_of w)) (sym all.seen) ∙ view_set m stored slot w

  -- behind a change of what a store stands for
  pub seen_set : (w : Kept) (behind : List Store → Store) → IsHeld old.m (held_of w)
      → ((stores : List Store) → StandFor old stores → StandForStore (held_of w) (behind stores))
      → AreSet old (view m (set stored slot w)) slot (held_of w) behind
  seen_set w behind is stands =
      subst (λ (s : Stored). AreSet old s slot (held_of w) behind) (set_seen w)
      (held_set old slot (held_of w) behind stores_seen all.within is stands)

module _ {m : ℕ} {stored : List Kept} {old : Stored} {slot : ℕ} {v : Kept} (all : AreSeen m stored old slot)
    (is : v ≡ get_or stored slot v) where
  -- a store holds what its slot is seen to hold
  pub slot_seen : held_of v ≡ slot_at old slot
  slot_seen =
      let within = all.within in
      ap held_of is
      ∙ (sym (get_or-map held_of stored slot v Closed (omega (arith, stored_long m stored all.are, within)))
      ∙ ap (λ (s : Stored). slot_at s slot) all.seen)

  -- behind a change of a store that only reads
  pub seen_read : (w : Kept) (most : Held → ℕ) → WasReadIn (most (held_of v)) (held_of v) (held_of w)
      → IsReadSlot old (view m (set stored slot w)) slot (held_of w) (most (slot_at old slot))
  seen_read w most read =
      subst (λ (s : Stored). IsReadSlot old s slot (held_of w) (most (slot_at old slot))) (set_seen all w)
      (read_set old slot (held_of w) (most (slot_at old slot)) (stores_seen all) all.within
      (subst (λ (h : Held). WasReadIn (most h) h (held_of w)) slot_seen read))

  pub seen_extended : (w : Kept) (added : List (List Sample)) → HasGrownBy added (held_of v) (held_of w)
      → HasRoomIn (slot_at old slot) added → AreEven added
      → WasExtended old.m added (slot_at old slot) (held_of w)
  seen_extended w added grown room even =
      was_extended old.m (slot_at old slot) (held_of w) added
      (subst (λ (h : Held). HasGrownBy added h (held_of w)) slot_seen grown) room even ((stores_seen all).each slot)

-- what came of an advance in a slot
pub record WasAdvanced {T E : Type 0} (result : Result T E) (count : ℕ) (old new : Stored) (slot : ℕ) : Type 0 where
  pub are : AreStores new
  pub ok : OnOk result (StandChanged (CoverNext slot count) old new)
  pub err : OnErr result (StandAsBefore old new)
  pub rise : reads_at old slot ≤ reads_at new slot
  pub others : (other : ℕ) → other ≢ slot → slot_at new other ≡ slot_at old other

on_ok : {T E P Q : Type 0} (result : Result T E) → OnOk result P → (P → Q) → OnOk result Q
on_ok (Ok x) p f = f p
on_ok (Err e) p f = tt

on_err : {T E P Q : Type 0} (result : Result T E) → OnErr result P → (P → Q) → OnErr result Q
on_err (Ok x) p f = tt
on_err (Err e) p f = f p

advanced_set : {T E : Type 0} (result : Result T E) (count : ℕ) (stored : Stored) (slot : ℕ) (new : Held)
    → AreStores stored → slot < 8 → OnOk result (HasAdvanced count (slot_at stored slot) new)
    → OnErr result (HoldsAsBefore (slot_at stored slot) new) → reads_of (slot_at stored slot) ≤ reads_of new
    → WasAdvanced result count stored (with_slot stored slot new) slot
advanced_set result count stored slot new are within advanced as_before rise =
    let old = slot_at stored slot in
    let here = slot_set stored slot new are within in
    let is = held_advanced result stored.m count old new advanced as_before (are.each slot) in
    record {
      are = slots_set stored slot new are is;
      ok =
          on_ok result advanced (λ moved stores stand.
          set_stand stored stores slot new (covered_further stored.m count (store_at stores slot)) stand
          (advanced_stands stored.m count old new moved (are.each slot) (store_at stores slot) (stand.each slot)));
      err = on_err result as_before (λ same. record {
        window_is = refl;
        as_many = length-set stored.slots slot new;
        each = λ k. from_set HoldsAsBefore holds_still stored.slots slot k new same;
      });
      rise = subst (λ (h : Held). reads_of old ≤ reads_of h) (sym here) rise;
      others = λ other apart. get_or-set_other stored.slots slot other new Closed apart;
    }

module _ {m : ℕ} {stored : List Kept} {old : Stored} {slot : ℕ} {v : Kept} (all : AreSeen m stored old slot)
    (is : v ≡ get_or stored slot v) where
  pub seen_advanced : {T E : Type 0} (result : Result T E) (count : ℕ) (w : Kept)
      → OnOk result (HasAdvanced count (held_of v) (held_of w)) → OnErr result (HoldsAsBefore (held_of v) (held_of w))
      → reads_of (held_of v) ≤ reads_of (held_of w)
      → WasAdvanced result count old (view m (set stored slot w)) slot
  seen_advanced result count w advanced as_before rise =
      let here = slot_seen all is in
      subst (λ (s : Stored). WasAdvanced result count old s slot) (set_seen all w)
      (advanced_set result count old slot (held_of w) (stores_seen all) all.within
      (subst (λ (h : Held). OnOk result (HasAdvanced count h (held_of w))) here advanced)
      (subst (λ (h : Held). OnErr result (HoldsAsBefore h (held_of w))) here as_before)
      (subst (λ (h : Held). reads_of h ≤ reads_of (held_of w)) here rise))

-- ---- one channel

-- its window length is that of all
pub window_in : (m : ℕ) (held : Held) (k : ℕ) → IsHeld m held → k < length (streams_in held)
    → (stream_in held k).m ≡ m
window_in m Closed k is inside = absurd (omega (arith, inside))
window_in m (held.Kept kept) k is inside = absurd (omega (arith, inside))
window_in m (Lazy part) k is inside = absurd (omega (arith, inside))
window_in m (Open channels) k is inside =
    All-get_or (λ (c : Streamed). c.m ≡ m) channels k nothing inside is.window

series_part : (start m : ℕ) (samples : List Sample)
    → series_of (take m (drop start samples)) ≡ take m (drop start (series_of samples))
series_part start m samples =
    sym (take-map reading_of m (drop start samples))
    ∙ ap (λ (s : Series). take m s) (sym (drop-map reading_of start samples))

-- a copy of a window's samples, as a part of their series
pub copied : {E : Type 0} (r : Result (Vec Sample Global) E) (start m : ℕ) (channel : Streamed) → channel.m ≡ m
    → IfOk r (λ window. window.items ≡ take channel.m (drop start channel.items))
    → IfOk r (λ window. series_of window.items ≡ take m (drop start (series_of channel.items)))
copied (Ok window) start m channel as_long h =
    ap series_of h
    ∙ (series_part start channel.m channel.items
    ∙ ap (λ (k : ℕ). take k (drop start (series_of channel.items))) as_long)
copied (Err e) start m channel as_long h = tt

-- ---- the slots at the start

more_closed : (n : ℕ) → replicate (suc n) Closed ≡ replicate n Closed ++ Closed ∷ []
more_closed zero = refl
more_closed (suc n) = ap (λ (slots : List Held). Closed ∷ slots) (more_closed n)

-- one more closed slot behind others
pub closed_more : (start old new : List Kept) (v : Kept) (n : ℕ) → 1 ≤ n → new ≡ old ++ v ∷ []
    → held_of v ≡ Closed → map held_of old ≡ map held_of start ++ replicate (n - 1) Closed
    → map held_of new ≡ map held_of start ++ replicate (n + 1 - 1) Closed
closed_more start old new v n some pushed closed before =
    let e : n + 1 - 1 ≡ suc (n - 1) = omega arith in
    ap (map held_of) pushed
    ∙ (map-append held_of old (v ∷ [])
    ∙ (ap (λ (slots : List Held). slots ++ held_of v ∷ []) before
    ∙ (ap (λ (h : Held). (map held_of start ++ replicate (n - 1) Closed) ++ h ∷ []) closed
    ∙ (append_assoc (map held_of start) (replicate (n - 1) Closed) (Closed ∷ [])
    ∙ ap (λ (slots : List Held). map held_of start ++ slots)
    (sym (more_closed (n - 1)) ∙ ap (λ (k : ℕ). replicate k Closed) (sym e))))))

-- the first slot has one channel, and seven are closed
abbrev pub first_open : ℕ → Streamed → Stored
first_open m channel = record { m = m; slots = Open (channel ∷ []) ∷ replicate 7 Closed }

-- a fact of closed slots, and of the first one
of_closed : (P : Held → Type 0) (n k : ℕ) → P Closed → P (get_or (replicate n Closed) k Closed)
of_closed P zero k rest = rest
of_closed P (suc n) zero rest = rest
of_closed P (suc n) (suc k) rest = of_closed P n k rest

at_start : (P : Held → Type 0) (channel : Streamed) (slot : ℕ) → P (Open (channel ∷ [])) → P Closed
    → P (get_or (Open (channel ∷ []) ∷ replicate 7 Closed) slot Closed)
at_start P channel zero first rest = first
at_start P channel (suc slot) first rest = of_closed P 7 slot rest

pub slots_at_start : (m : ℕ) (channel : Streamed) → min_window ≤ m → m ≤ max_window → channel.m ≡ m
    → AreStores (first_open m channel)
slots_at_start m channel shortest longest window = record {
  shortest = shortest;
  longest = longest;
  count = refl;
  each = λ slot. at_start (IsHeld m) channel slot
      (record {
        some = lit≤ tt;
        alike = record {
          few = lit≤ tt;
          same =
              All-cons (λ (s : List Sample). length s ≡ length channel.items) channel.items [] refl
              (All-nil (λ (s : List Sample). length s ≡ length channel.items));
        };
        window = All-cons (λ (c : Streamed). c.m ≡ m) channel [] window (All-nil (λ (c : Streamed). c.m ≡ m));
      })
      tt;
}

pub reads_at_start : (m : ℕ) (channel : Streamed) (slot : ℕ) → channel.reads ≡ 0
    → reads_at (first_open m channel) slot ≡ 0
reads_at_start m channel slot unread =
    at_start (λ (h : Held). reads_of h ≡ 0) channel slot (ap (λ n. 0 + n) unread) refl

closed_stand : (n k : ℕ) → StandForStore (get_or (replicate n Closed) k Closed) (store_at (replicate n states.Closed) k)
closed_stand zero k = tt
closed_stand (suc n) zero = tt
closed_stand (suc n) (suc k) = closed_stand n k

stand_first : (m : ℕ) (channel : Streamed) (slot : ℕ) → channel.items ≡ []
    → StandForStore (slot_at (first_open m channel) slot)
    (store_at (states.Open ([] ∷ []) ∷ replicate 7 states.Closed) slot)
stand_first m channel zero empty = ap (λ (s : List Sample). series_of s ∷ []) (sym empty)
stand_first m channel (suc slot) empty = closed_stand 7 slot

pub stand_at_start : (m : ℕ) (channel : Streamed) → channel.items ≡ []
    → StandFor (first_open m channel) (states.Open ([] ∷ []) ∷ replicate 7 states.Closed)
stand_at_start m channel empty = record { as_many = refl; each = λ slot. stand_first m channel slot empty }

pub view_at_start : (m : ℕ) (stored pushed : List Kept) (first : Kept) (channel : Streamed) (n : ℕ)
    → n ≡ 8 → pushed ≡ first ∷ [] → held_of first ≡ Open (channel ∷ [])
    → map held_of stored ≡ map held_of pushed ++ replicate (n - 1) Closed
    → view m stored ≡ first_open m channel
view_at_start m stored pushed first channel n all one open_is h =
    ap (λ (slots : List Held). record { m = m; slots = slots })
    (h
    ∙ (ap (λ (k : ℕ). map held_of pushed ++ replicate (k - 1) Closed) all
    ∙ (ap (λ (p : List Kept). map held_of p ++ replicate 7 Closed) one
    ∙ ap (λ (held : Held). held ∷ replicate 7 Closed) open_is)))

-- ---- the channels of a slot

pub record AreIn (m : ℕ) (held : Held) (channels : List Streamed) : Type 0 where
  pub closed : channels ≡ [] → keep_of held ≡ None → is_lazy held ≡ false → held ≡ Closed
  pub few : length channels ≤ 8
  pub alike : AreChannels channels
  pub window : HaveWindow m channels

none_in : (m : ℕ) (held : Held) → (keep_of held ≡ None → is_lazy held ≡ false → held ≡ Closed) → AreIn m held []
none_in m held closed = record {
  closed = λ none all whole. closed all whole;
  few = omega arith;
  alike = record { few = omega arith; same = All-nil (λ (samples : List Sample). length samples ≡ 0) };
  window = All-nil (λ (c : Streamed). c.m ≡ m);
}

pub are_in : (m : ℕ) (held : Held) → IsHeld m held → AreIn m held (streams_in held)
are_in m Closed is = none_in m Closed (λ all whole. refl)
are_in m (held.Kept kept) is = none_in m (held.Kept kept) (λ all whole. absurd (cc all))
are_in m (Lazy part) is = none_in m (Lazy part) (λ all whole. absurd (cc whole))
are_in m (Open channels) is =
    let some = is.some in
    let few = is.alike.few in
    record {
      closed = λ none all whole. absurd (omega (arith, some, ap length none));
      few = omega (arith, few, length-map channels (λ (c : Streamed). c.items));
      alike = is.alike;
      window = is.window;
    }

pub record ChannelsSeen (old : Stored) (slot : ℕ) (channels : List Streamed) : Type 0 where
  pub are : channels ≡ streams_at old slot
  pub closed : channels ≡ [] → keep_of (slot_at old slot) ≡ None → is_lazy (slot_at old slot) ≡ false
      → slot_at old slot ≡ Closed
  pub few : length channels ≤ 8
  pub within : 0 < length channels → slot < 8
  pub alike : AreChannels channels
  pub window : HaveWindow old.m channels

pub channels_seen : {m : ℕ} {stored : List Kept} {old : Stored} {slot : ℕ} {v : Kept} (channels : List Streamed)
    → AreSeen m stored old slot → v ≡ get_or stored slot v → channels ≡ streams_in (held_of v)
    → ChannelsSeen old slot channels
channels_seen {old = old} {slot = slot} channels all is same =
    let here = are_in old.m (slot_at old slot) ((stores_seen all).each slot) in
    subst (ChannelsSeen old slot) (sym (same ∙ ap streams_in (slot_seen all is)))
    (record {
      are = refl;
      closed = here.closed;
      few = here.few;
      within = λ some. all.within;
      alike = here.alike;
      window = here.window;
    })

-- ---- a kept slot

-- it has no channel that could be lent
pub none_alike : AreChannels []
none_alike = record { few = omega arith; same = All-nil (λ (samples : List Sample). length samples ≡ 0) }

-- what is kept in a slot can be kept there
pub can_keep : {X : Type 0} (found : Option X) (seen : X → Keeping) (m : ℕ) (here : Held) → IsHeld m here
    → IfSome found (λ x. here ≡ held.Kept (seen x)) → IfSome found (λ x. CanKeep m (seen x))
can_keep None seen m here is kept = tt
can_keep (Some x) seen m here is kept = subst (IsHeld m) kept is

-- and so can a series whose profile is made in parts
pub can_cover : {X : Type 0} (found : Option X) (seen : X → Covering) (m : ℕ) (here : Held) → IsHeld m here
    → IfSome found (λ x. here ≡ Lazy (seen x)) → IfSome found (λ x. CanCover m (seen x))
can_cover None seen m here is lazy = tt
can_cover (Some x) seen m here is lazy = subst (IsHeld m) lazy is

-- whether a profile is made in parts there
pub is_lazy_by : {X : Type 0} (found : Option X) (seen : X → Covering) (here : Held)
    → IfSome found (λ x. here ≡ Lazy (seen x)) → IfNone found (is_lazy here ≡ false)
    → is_some found ≡ is_lazy here
is_lazy_by None seen here lazy none = sym none
is_lazy_by (Some x) seen here lazy none = sym (ap is_lazy lazy)

pub in_some : {X P : Type 0} (found : Option X) → P → IfSome found (λ x. P)
in_some None p = tt
in_some (Some x) p = p

-- whether samples are kept there
pub is_kept_by : {X : Type 0} (found : Option X) (seen : X → Keeping) (here : Held)
    → IfSome found (λ x. here ≡ held.Kept (seen x)) → IfNone found (keep_of here ≡ None)
    → is_some found ≡ is_some (keep_of here)
is_kept_by None seen here kept none = sym (ap is_some none)
is_kept_by (Some x) seen here kept none = sym (ap (λ (h : Held). is_some (keep_of h)) kept)

pub none_kept : {X : Type 0} (found : Option X) (here : Held) → IfNone found (keep_of here ≡ None)
    → is_some found ≡ false → keep_of here ≡ None
none_kept None here none is = none
none_kept (Some x) here none is = absurd (cc is)

pub of_samples : (m : ℕ) (here : Held) → IsHeld m here → IsOfSamples here
of_samples m Closed is = tt
of_samples m (Open channels) is = tt
of_samples m (held.Kept kept) is = (is.samples, is.stands)
of_samples m (Lazy part) is = tt

-- samples for its one channel
pub record IsOneList (added : List (Vec Sample Global)) (list : Vec Sample Global) : Type 0 where
  pub first : list.items ≡ get_or (lists_in added) 0 []
  pub count : length list.items ≡ count_of (lists_in added)

pub one_list : (added : List (Vec Sample Global)) (list : Vec Sample Global) → length (lists_in added) ≡ 1
    → list ≡ get_or added 0 list → IsOneList added list
one_list [] list one is = absurd (omega (arith, one))
one_list (samples ∷ added) list one is =
    let same = ap (λ (s : Vec Sample Global). s.items) is in record { first = same; count = ap length same }

pub kept_room : (store : Kept) (kept : Keeping) (added : List (List Sample)) → store ≡ program.Kept kept
    → HasRoomIn (held_of store) added → CanAppend kept added
kept_room store kept added here room = subst (λ (s : Kept). HasRoomIn (held_of s) added) here room

pub kept_of_samples : (store : Kept) (kept : Keeping) → store ≡ program.Kept kept → IsOfSamples (held_of store)
    → IsOfSamples (held.Kept kept)
kept_of_samples store kept here of = subst (λ (s : Kept). IsOfSamples (held_of s)) here of

pub kept_grown : (store : Kept) (kept new : Keeping) (added : List (List Sample)) (samples : List Sample)
    → store ≡ program.Kept kept → samples ≡ get_or added 0 [] → KeptHasGrown samples kept new
    → HasGrownBy added (held_of store) (held.Kept new)
kept_grown store kept new added samples here first grown =
    subst (λ (s : Kept). HasGrownBy added (held_of s) (held.Kept new)) (sym here)
    (subst (λ (list : List Sample). KeptHasGrown list kept new) first grown)

-- the same of a series whose profile is made in parts
pub part_room : (store : Kept) (part : Covering) (added : List (List Sample)) → store ≡ program.Lazy part
    → HasRoomIn (held_of store) added → CanExtend part added
part_room store part added here room = subst (λ (s : Kept). HasRoomIn (held_of s) added) here room

pub part_extended : (store : Kept) (part new : Covering) (added : List (List Sample)) (samples : List Sample)
    → store ≡ program.Lazy part → samples ≡ get_or added 0 [] → PartHasGrown samples part new
    → HasGrownBy added (held_of store) (Lazy new)
part_extended store part new added samples here first grown =
    subst (λ (s : Kept). HasGrownBy added (held_of s) (Lazy new)) (sym here)
    (subst (λ (list : List Sample). PartHasGrown list part new) first grown)

-- ---- the first channel

-- how many samples the first of some channels has
pub first_long : (channels : List Streamed) (channel : Streamed) → Some channel ≡ slice_get channels 0
    → length channel.items ≡ count_in channels
first_long [] channel h = absurd (cc h)
first_long (c ∷ channels) channel h =
    let same : channel ≡ c = cc in ap (λ (x : Streamed). length x.items) same

pub none_long : (channels : List Streamed) → None ≡ slice_get channels 0 → 0 ≡ count_in channels
none_long [] h = refl
none_long (c ∷ channels) h = absurd (cc h)
