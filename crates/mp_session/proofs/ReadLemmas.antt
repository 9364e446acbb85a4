-- How often samples are read, where they are added.
use Rattle.std.proofs.Common.{◌≡◌, ℕ, ◌+◌, ◌*◌, ◌<◌, ◌≤◌, ◌==◌, true, false, List, [], ◌∷◌, length}
use Rattle.std.proofs.Common.{refl, ap, ◌∙◌, sym, subst, arith, ⊎_elim}
use Rattle.std.specs.Prelude.{All, Bool, Result, Ok, Err, is_err}
use Rattle.std.proofs.lemmas.List.Elements.{All-head}
use Rattle.std.proofs.lemmas.Bool.{cases_Bool}
use Rattle.std.proofs.lemmas.Bool.Decides.{nat_tests}
use Rattle.std.proofs.lemmas.Slice.Zip.{AllZip-long}
use Rattle.mp_nums.specs.declared.samples.Sample.{Sample}
use Rattle.mp_defs.specs.Window.{windows}
use Rattle.mp_replies.specs.Command as asked
use Rattle.mp_replies.specs.Line.{Asked, Asks}
use Rattle.mp_stores.specs.StoreLaws.{last_as_before}
use Rattle.mp_stores.specs.Stores as held
use Rattle.mp_stores.specs.Stores.{HasRoomFor, HasRoomIn, Held, HoldsAsBefore, StandAsBefore, Stored}
use Rattle.mp_stores.specs.Stores.{added_reads, count_in, count_of, reads_at, reads_to_add, slot_at}
use Rattle.mp_requests.specs.declared.replies.Reply.{Reply}
use Rattle.mp_requests.specs.Requests.{is_accepted, is_unread, kind_by}
use Rattle.mp_requests.specs.Reads.{AreUnread, IsKept, WereRead, most_lent}
use Rattle.mp_commands.specs.declared.prepared.Change.{Change}
use Rattle.mp_commands.specs.declared.prepared.Change.TheVariants.{Keep, PutChannels, PutKept, PutLazy}
use Rattle.mp_commands.specs.declared.prepared.Change.TheVariants.{AddSamples, Advance}
use Rattle.mp_commands.specs.declared.prepared.Prepared.{Prepared}
use Rattle.mp_commands.specs.Preparing.{AddsAsAsked, IsReady, adds, covers, puts}
use Rattle.mp_commands.specs.Reads.{advances, append_reads, most_added, most_reads, reads_for_items, renews}
use Rattle.mp_results.specs.Covering.{Covering}
use Rattle.mp_session.specs.Sessions.{AddsEach, CoversMore, WereReadBy}

-- ---- samples for each channel

count_is : (added : List (List Sample)) (count : ℕ) → 0 < length added
    → All (λ samples. length samples ≡ count) added → count_of added ≡ count
count_is [] count some each = absurd (omega (arith, some))
count_is (samples ∷ added) count some each = All-head (λ (s : List Sample). length s ≡ count) samples added each

add_reads_in : (m : ℕ) (here : Held) (count : ℕ) (added : List (List Sample)) → HasRoomIn here added
    → All (λ samples. length samples ≡ count) added → added_reads m here added ≡ reads_for_items m here count
add_reads_in m held.Closed count added room each = absurd room
add_reads_in m (held.Open []) count [] room each = omega arith
add_reads_in m (held.Open []) count (samples ∷ added) room each =
    let long = AllZip-long HasRoomFor [] (samples ∷ added) room in absurd (omega (arith, long))
add_reads_in m (held.Open (channel ∷ others)) count added room each =
    let channels = channel ∷ others in
    let long : length added ≡ length channels = AllZip-long HasRoomFor channels added room in
    let same : count_of added ≡ count = count_is added count (omega (arith, long)) each in
    ap (λ (n : ℕ). n * (count_of added * (4 * (windows (count_in channels + count_of added) m + m)))) long
    ∙ ap (λ (c : ℕ). length channels * (c * (4 * (windows (count_in channels + c) m + m)))) same
add_reads_in m (held.Kept kept) count added room each =
    let same : count_of added ≡ count = count_is added count (omega (arith, room.one)) each in
    ap (λ (c : ℕ). c * (4 * (kept.keep + m))) same
add_reads_in m (held.Lazy part) count added room each =
    let same : count_of added ≡ count = count_is added count (omega (arith, room.one)) each in
    ap (λ (c : ℕ). c * (4 * (windows (length part.items + c) m + m))) same

pub add_reads : (stored : Stored) (slot count : ℕ) (added : List (List Sample))
    → HasRoomIn (slot_at stored slot) added → All (λ samples. length samples ≡ count) added
    → reads_to_add stored slot added ≡ append_reads stored slot count
add_reads stored slot count added room each =
    add_reads_in stored.m (slot_at stored slot) count added room each

reads_same_in : (m count : ℕ) (old new : Held) → HoldsAsBefore old new
    → reads_for_items m new count ≡ reads_for_items m old count
reads_same_in m count held.Closed held.Closed same = refl
reads_same_in m count held.Closed (held.Open new) same = absurd same
reads_same_in m count held.Closed (held.Kept new) same = absurd same
reads_same_in m count held.Closed (held.Lazy new) same = absurd same
reads_same_in m count (held.Open old) held.Closed same = absurd same
reads_same_in m count (held.Open old) (held.Open new) same =
    let last = last_as_before old new same in
    ap (λ (k : ℕ). k * (count * (4 * (windows (count_in new + count) m + m)))) last.count
    ∙ ap (λ (k : ℕ). length old * (count * (4 * (windows (k + count) m + m)))) (ap count_of last.items)
reads_same_in m count (held.Open old) (held.Kept new) same = absurd same
reads_same_in m count (held.Open old) (held.Lazy new) same = absurd same
reads_same_in m count (held.Kept old) held.Closed same = absurd same
reads_same_in m count (held.Kept old) (held.Open new) same = absurd same
reads_same_in m count (held.Kept old) (held.Kept new) same =
    ap (λ (h : Held). reads_for_items m h count) (ap held.Kept same)
reads_same_in m count (held.Kept old) (held.Lazy new) same = absurd same
reads_same_in m count (held.Lazy old) held.Closed same = absurd same
reads_same_in m count (held.Lazy old) (held.Open new) same = absurd same
reads_same_in m count (held.Lazy old) (held.Kept new) same = absurd same
reads_same_in m count (held.Lazy old) (held.Lazy new) same =
    ap (λ (part : Covering). count * (4 * (windows (length part.items + count) m + m))) same

-- an append reads as much where the slots hold what they held
append_reads_same : (old new : Stored) → StandAsBefore old new → (slot count : ℕ)
    → append_reads new slot count ≡ append_reads old slot count
append_reads_same old new same slot count =
    reads_same_in new.m count (slot_at old slot) (slot_at new slot) (same.each slot)
    ∙ ap (λ (m : ℕ). reads_for_items m (slot_at old slot) count) same.window_is

-- ---- the line that was run

pub adds_as_asked : (old mid new : Stored) (asked : Asked) (change : Change) (slot : ℕ)
    → AddsAsAsked asked change → adds change slot ≡ true
    → ((at count : ℕ) → AddsEach change at count → reads_at new at ≤ reads_at mid at + append_reads mid at count)
    → StandAsBefore old mid → reads_at new slot ≤ reads_at mid slot + most_added old asked slot
adds_as_asked old mid new asked Keep slot is adding added same = absurd (cc adding)
adds_as_asked old mid new asked (PutChannels at channels) slot is adding added same = absurd (cc adding)
adds_as_asked old mid new asked (PutKept at kept) slot is adding added same = absurd (cc adding)
adds_as_asked old mid new asked (PutLazy at part) slot is adding added same = absurd (cc adding)
adds_as_asked old mid new asked (Advance at count) slot is adding added same = absurd (cc adding)
adds_as_asked old mid new (Asks (asked.Append at items)) (AddSamples to more) slot is adding added same =
    let here : slot ≡ to = grind (arith, nat_tests) in
    let named : to ≡ at = is.0 in
    let there : (slot == at) ≡ true = subst (λ (k : ℕ). (slot == k) ≡ true) named adding in
    let read = added at (length items) (named, is.1) in
    let most : reads_at new at ≤ reads_at mid at + append_reads old at (length items) =
    subst (λ (n : ℕ). reads_at new at ≤ reads_at mid at + n) (append_reads_same old mid same at (length items))
    read in
    rw there
    (subst (λ (s : ℕ). reads_at new s ≤ reads_at mid s + append_reads old at (length items)) (sym (here ∙ named)) most)
adds_as_asked old mid new other (AddSamples to more) slot is adding added same = absurd is

-- how often a line that puts no other channels into the slot read its samples
most_is : (old mid new : Stored) (asked : Asked) (change : Change) (slot : ℕ) → puts change slot ≡ false
    → AddsAsAsked asked change
    → (adds change slot ≡ false → reads_at new slot ≡ reads_at mid slot)
    → ((at count : ℕ) → AddsEach change at count → reads_at new at ≤ reads_at mid at + append_reads mid at count)
    → IsKept asked old mid → reads_at new slot ≤ reads_at old slot + most_reads old asked slot
most_is old mid new asked change slot put is rest added kept =
    let more : reads_at new slot ≤ reads_at mid slot + most_added old asked slot =
    ⊎_elim (λ yes. adds_as_asked old mid new asked change slot is yes added kept.stands)
    (λ no. omega (arith, rest no)) (cases_Bool (adds change slot)) in
    omega (arith, more, kept.read.within slot)

-- ---- a line that reads no sample

lent_none : (held : Stored) (what : Asked) (slot : ℕ) → is_unread what ≡ true → most_lent held what slot ≡ 0
lent_none held (Asks (asked.Window at start)) slot is = cc
lent_none held other slot is = cc

renews_none : (what : Asked) (slot : ℕ) → is_unread what ≡ true → renews what slot ≡ false
renews_none (Asks (asked.OpenAnew at channels)) slot is = cc
renews_none (Asks (asked.KeepLast at keep)) slot is = cc
renews_none other slot is = cc

advances_none : (what : Asked) (slot : ℕ) → is_unread what ≡ true → advances what slot ≡ false
advances_none (Asks (asked.Advance at count)) slot is = absurd (cc is)
advances_none other slot is = refl

adds_none : (what : Asked) (change : Change) (slot : ℕ) → AddsAsAsked what change → is_unread what ≡ true
    → adds change slot ≡ false
adds_none what Keep slot asks is = refl
adds_none what (PutChannels at channels) slot asks is = refl
adds_none what (PutKept at kept) slot asks is = refl
adds_none what (PutLazy at part) slot asks is = refl
adds_none what (Advance at count) slot asks is = refl
adds_none (Asks (asked.Append at items)) (AddSamples to more) slot asks is = absurd (cc is)
adds_none other (AddSamples to more) slot asks is = absurd asks

-- ---- all slots

-- channels are put where an accepted line asks for it alone
not_put : (what : Asked) (change : Change) (slot : ℕ) (accepted : Bool) → (accepted ≡ false → change ≡ Keep)
    → (puts change slot ≡ true → renews what slot ≡ true) → (accepted ≡ true → renews what slot ≡ false)
    → puts change slot ≡ false
not_put what change slot false keeps renewed leaves = ap (λ (c : Change). puts c slot) (keeps refl)
not_put what change slot true keeps renewed leaves =
    ⊎_elim (λ (yes : puts change slot ≡ true).
    let clash : true ≡ false = sym (renewed yes) ∙ leaves refl in absurd (cc clash))
    (λ (no : puts change slot ≡ false). no) (cases_Bool (puts change slot))

-- diagonals are covered where the line asks for it alone
not_covered : (what : Asked) (change : Change) (slot : ℕ) → (covers change slot ≡ true → advances what slot ≡ true)
    → advances what slot ≡ false → covers change slot ≡ false
not_covered what change slot asks none =
    ⊎_elim (λ (yes : covers change slot ≡ true).
    let clash : true ≡ false = sym (asks yes) ∙ none in absurd (cc clash))
    (λ (no : covers change slot ≡ false). no) (cases_Bool (covers change slot))

-- the one change that takes memory puts nothing and adds nothing
covers_alone : (change : Change) (slot : ℕ) → CoversMore change → (puts change slot ≡ false) × (adds change slot ≡ false)
covers_alone (Advance at count) slot covers = (refl, refl)
covers_alone Keep slot covers = absurd covers
covers_alone (PutChannels at channels) slot covers = absurd covers
covers_alone (PutKept at kept) slot covers = absurd covers
covers_alone (PutLazy at part) slot covers = absurd covers
covers_alone (AddSamples at added) slot covers = absurd covers

-- the run stopped at the line
pub stopped_reads : {E : Type 0} (what : Asked) (old new : Stored) (result : Result Reply E) → is_err result ≡ true
    → WereRead (most_lent old what) old new → WereReadBy what old new result
stopped_reads what old new (Ok answered) failed read = absurd (cc failed)
stopped_reads what old new (Err stop) failed read = record {
  most = λ slot leaves none. omega (arith, read.within slot);
  rise = λ slot leaves. read.rise slot;
  unread = λ is slot. omega (arith, read.rise slot, read.within slot, lent_none old what slot is);
  unaccepted = tt;
}

-- it stopped at its change
pub stopped_change : {E : Type 0} (what : Asked) (old mid new : Stored) (prepared : Prepared)
    (result : Result Reply E) → is_err result ≡ true → IsReady what mid prepared → IsKept what old mid
    → CoversMore prepared.change
    → ((slot : ℕ) → puts prepared.change slot ≡ false → reads_at mid slot ≤ reads_at new slot)
    → ((slot : ℕ) → puts prepared.change slot ≡ false → adds prepared.change slot ≡ false
    → covers prepared.change slot ≡ false → reads_at new slot ≡ reads_at mid slot)
    → WereReadBy what old new result
stopped_change what old mid new prepared (Ok answered) failed ready kept alone rise rest = absurd (cc failed)
stopped_change what old mid new prepared (Err stop) failed ready kept alone rise rest =
    let same : (slot : ℕ) → advances what slot ≡ false → reads_at new slot ≡ reads_at mid slot =
    λ slot none.
    let apart = covers_alone prepared.change slot alone in
    rest slot apart.0 apart.1 (not_covered what prepared.change slot (ready.advanced slot) none) in
    record {
      most = λ slot leaves none. omega (arith, same slot none, kept.read.within slot);
      rise = λ slot leaves.
          omega (arith, kept.read.rise slot, rise slot (covers_alone prepared.change slot alone).0);
      unread = λ is slot.
          omega (
            arith,
            same slot (advances_none what slot is),
            kept.read.rise slot,
            kept.read.within slot,
            lent_none old what slot is,
          );
      unaccepted = tt;
    }

-- it was answered
pub answered_reads : {E : Type 0} (what : Asked) (old mid new : Stored) (prepared : Prepared) (answered : Reply)
    → answered.kind ≡ kind_by prepared.answer → IsReady what mid prepared
    → (is_accepted (kind_by prepared.answer) ≡ false → AreUnread old mid) → IsKept what old mid
    → ((slot : ℕ) → puts prepared.change slot ≡ false → reads_at mid slot ≤ reads_at new slot)
    → ((slot : ℕ) → puts prepared.change slot ≡ false → adds prepared.change slot ≡ false
    → covers prepared.change slot ≡ false → reads_at new slot ≡ reads_at mid slot)
    → ((at count : ℕ) → AddsEach prepared.change at count
    → reads_at new at ≤ reads_at mid at + append_reads mid at count)
    → WereReadBy {E = E} what old new (Ok answered)
answered_reads {E} what old mid new prepared answered kind ready unread kept rise rest added =
    let keeps : is_accepted answered.kind ≡ false → prepared.change ≡ Keep =
    λ no. ready.kept (ap is_accepted (sym kind) ∙ no) in
    let stays : (slot : ℕ) → (is_accepted answered.kind ≡ true → renews what slot ≡ false)
    → puts prepared.change slot ≡ false =
    λ slot leaves. not_put what prepared.change slot (is_accepted answered.kind) keeps (ready.renewed slot) leaves in
    record {
      most = λ slot leaves none.
          most_is old mid new what prepared.change slot (stays slot leaves) ready.adds
          (λ no. rest slot (stays slot leaves) no
          (not_covered what prepared.change slot (ready.advanced slot) none)) added kept;
      rise = λ slot leaves. omega (arith, kept.read.rise slot, rise slot (stays slot leaves));
      unread = λ is slot.
          let here = rest slot (stays slot (λ accepted. renews_none what slot is))
          (adds_none what prepared.change slot ready.adds is)
          (not_covered what prepared.change slot (ready.advanced slot) (advances_none what slot is)) in
          omega (arith, here, kept.read.rise slot, kept.read.within slot, lent_none old what slot is);
      unaccepted = λ no slot.
          rest slot (ap (λ (c : Change). puts c slot) (keeps no)) (ap (λ (c : Change). adds c slot) (keeps no))
          (ap (λ (c : Change). covers c slot) (keeps no))
          ∙ unread (ap is_accepted (sym kind) ∙ no) slot;
    }
