-- The channels of a slot, changed one by one.
use Rattle.std.proofs.Common.{◌≡◌, ◌≢◌, ℕ, zero, suc, ◌+◌, ◌<◌, ◌≤◌, List, [], ◌∷◌, ◌++◌, length, get_or, set}
use Rattle.std.proofs.Common.{refl, ap, ◌∙◌, sym, arith, Vec, ⊎_elim, ◌⊎◌, ◌*◌, subst}
use Rattle.std.specs.Prelude.{All}
use Rattle.std.specs.declared.alloc.Global.{Global}
use Rattle.std.proofs.lemmas.List.{get_or_default, get_or-map, get_or-set_same, get_or-set_other, length-map}
use Rattle.std.proofs.lemmas.List.Elements.{All-cons, All-head, All-nil, All-tail}
use Rattle.std.proofs.lemmas.List.Sums.{sum_by-cons}
use Rattle.std.proofs.lemmas.Slice.Zip.{AllZip-long}
use Rattle.std.proofs.Math.Seq.{map-set_same}
use Rattle.mp_nums.specs.declared.samples.Sample.{Sample}
use Rattle.mp_stream.specs.Streams.{Streamed}
use Rattle.mp_replies.specs.Change.{extended}
use Rattle.mp_stores.specs.Channels.{HasGrown, HaveGrown, reads_for}
use Rattle.mp_stores.specs.Stores.{HasRoomFor, HaveRoom, HaveWindow, RoomWasMade, items_in, lists_in, nothing}
use Rattle.mp_stores.specs.Stores.{reads_in, without_room}

-- ---- room

same_but_room : (a b : Streamed) → a.items ≡ b.items → a.m ≡ b.m → a.reads ≡ b.reads → a.changed ≡ b.changed
    → without_room a ≡ without_room b
same_but_room a b items m reads changed = cc

pub room_kept : (old now : List Streamed) (k : ℕ) (new d : Streamed) → new.items ≡ (get_or now k d).items
    → new.m ≡ (get_or now k d).m → new.reads ≡ (get_or now k d).reads → new.changed ≡ (get_or now k d).changed
    → RoomWasMade old now → RoomWasMade old (set now k new)
room_kept old now k new d items m reads changed h =
    map-set_same without_room now k new d (same_but_room new (get_or now k d) items m reads changed) ∙ h

-- ---- samples of each channel

zip_at : (channels : List Streamed) (lists : List (List Sample)) (k : ℕ) → HaveRoom channels lists → k < length channels
    → HasRoomFor (get_or channels k nothing) (get_or lists k [])
zip_at [] lists k room within = absurd (omega (arith, within))
zip_at (channel ∷ channels) [] k room within = absurd room
zip_at (channel ∷ channels) (list ∷ lists) zero room within = room.0
zip_at (channel ∷ channels) (list ∷ lists) (suc k) room within = zip_at channels lists k room.1 (omega (arith, within))

pub lists_long : (channels : List Streamed) (added : List (Vec Sample Global)) → HaveRoom channels (lists_in added)
    → length added ≡ length channels
lists_long channels added room =
    sym (length-map added (λ samples. samples.items)) ∙ AllZip-long HasRoomFor channels (lists_in added) room

pub list_at : (added : List (Vec Sample Global)) (k : ℕ) (v : Vec Sample Global) → k < length added
    → v ≡ get_or added k v → get_or (lists_in added) k [] ≡ v.items
list_at added k v within is =
    get_or-map (λ samples. samples.items) added k v [] within ∙ ap (λ samples. samples.items) (sym is)

pub fits_at : (old now : List Streamed) (added : List (Vec Sample Global)) (k : ℕ) (d : Streamed) (v : Vec Sample
    Global)
    → HaveRoom old (lists_in added)
    → k < length now → k < length old → get_or now k nothing ≡ get_or old k nothing → v ≡ get_or added k v
    → HasRoomFor (get_or now k d) v.items
fits_at old now added k d v room within before rest is =
    let long = lists_long old added room in
    let list = list_at added k v (omega (arith, long, before)) is in
    let here : get_or now k d ≡ get_or old k nothing = get_or_default now k d nothing within ∙ rest in
    rw (here, ← list) (zip_at old (lists_in added) k room before)

-- ---- each channel has grown

pub grown_next : (old now : List Streamed) (lists : List (List Sample)) (k : ℕ) (new : Streamed) → k < length now
    → HasGrown (get_or lists k []) (get_or old k nothing) new
    → ((j : ℕ) → j < k → HasGrown (get_or lists j []) (get_or old j nothing) (get_or now j nothing))
    → (j : ℕ) → j < k + 1
    → HasGrown (get_or lists j []) (get_or old j nothing) (get_or (set now k new) j nothing)
grown_next old now lists k new within here before j lt =
    ⊎_elim
    (λ (is : j ≡ k). rw (is, get_or-set_same now k new nothing within) here)
    (λ (less : j < k).
    let other : j ≢ k = λ e. omega (arith, e, less) in
    rw (get_or-set_other now k j new nothing other) (before j less))
    (split j k (omega (arith, lt)))
  where
    split : (j k : ℕ) → j ≤ k → (j ≡ k) ⊎ (j < k)
    split j k le = grind arith

pub rest_kept : (old now : List Streamed) (k : ℕ) (new : Streamed)
    → ((j : ℕ) → k ≤ j → get_or now j nothing ≡ get_or old j nothing)
    → (j : ℕ) → k + 1 ≤ j → get_or (set now k new) j nothing ≡ get_or old j nothing
rest_kept old now k new rest j le =
    let other : j ≢ k = λ e. omega (arith, e, le) in
    rw (get_or-set_other now k j new nothing other) (rest j (omega (arith, le)))

-- the rest of some channels
rest_grown : (o n : Streamed) (old new : List Streamed) (list : List Sample) (lists : List (List Sample))
    → HaveGrown (list ∷ lists) (o ∷ old) (n ∷ new) → HaveGrown lists old new
rest_grown o n old new list lists grown = record {
  count = let long = grown.count in omega (arith, long);
  each = λ k lt. grown.each (suc k) (omega (arith, lt));
}

-- the samples of each channel behind its own
pub extended_from : (old new : List Streamed) (lists : List (List Sample)) → length lists ≡ length old
    → HaveGrown lists old new → items_in new ≡ extended (items_in old) lists
extended_from [] [] lists longer grown = refl
extended_from [] (n ∷ new) lists longer grown = absurd (let long = grown.count in omega (arith, long))
extended_from (o ∷ old) [] lists longer grown = absurd (let long = grown.count in omega (arith, long))
extended_from (o ∷ old) (n ∷ new) [] longer grown = absurd (omega (arith, longer))
extended_from (o ∷ old) (n ∷ new) (list ∷ lists) longer grown =
    let rest =
    extended_from old new lists (omega (arith, longer)) (rest_grown o n old new list lists grown) in
    ap (λ (x : List Sample). x ∷ items_in new) (grown.each 0 (omega arith)).items_are
    ∙ ap (λ (xs : List (List Sample)). (o.items ++ list) ∷ xs) rest

-- the window length of each
pub window_kept : (m : ℕ) (old new : List Streamed) (lists : List (List Sample)) → length lists ≡ length old
    → HaveGrown lists old new → HaveWindow m old → HaveWindow m new
window_kept m [] [] lists longer grown have = All-nil (λ (c : Streamed). c.m ≡ m)
window_kept m [] (n ∷ new) lists longer grown have = absurd (let long = grown.count in omega (arith, long))
window_kept m (o ∷ old) [] lists longer grown have = absurd (let long = grown.count in omega (arith, long))
window_kept m (o ∷ old) (n ∷ new) [] longer grown have = absurd (omega (arith, longer))
window_kept m (o ∷ old) (n ∷ new) (list ∷ lists) longer grown have =
    All-cons (λ (c : Streamed). c.m ≡ m) n new
    ((grown.each 0 (omega arith)).window_is ∙ All-head (λ (c : Streamed). c.m ≡ m) o old have)
    (window_kept m old new lists (omega (arith, longer)) (rest_grown o n old new list lists grown)
    (All-tail (λ (c : Streamed). c.m ≡ m) o old have))

-- ---- how far their reads rise together

pub record HaveRisen (old new most : ℕ) : Type 0 where
  pub rise : old ≤ new
  pub most_reads : new ≤ old + most

risen_more : (o n : Streamed) (old new : List Streamed) (most rest : ℕ) → o.reads ≤ n.reads → n.reads ≤ o.reads + most
    → HaveRisen (reads_in old) (reads_in new) rest → HaveRisen (reads_in (o ∷ old)) (reads_in (n ∷ new)) (most + rest)
risen_more o n old new most rest low high risen = record {
  rise =
      let a = risen.rise in
      let before = sum_by-cons (λ (c : Streamed). c.reads) o old in
      let after = sum_by-cons (λ (c : Streamed). c.reads) n new in
      omega (arith, a, low, before, after);
  most_reads =
      let a = risen.most_reads in
      let before = sum_by-cons (λ (c : Streamed). c.reads) o old in
      let after = sum_by-cons (λ (c : Streamed). c.reads) n new in
      omega (arith, a, high, before, after);
}

-- where each had as many samples, and as many came
pub risen_from : (m n more : ℕ) (old new : List Streamed) (lists : List (List Sample)) → length lists ≡ length old
    → HaveGrown lists old new → HaveWindow m old → All (λ samples. length samples ≡ n) (items_in old)
    → All (λ samples. length samples ≡ more) lists
    → HaveRisen (reads_in old) (reads_in new) (length lists * reads_for m n more)
risen_from m n more [] [] [] longer grown have long as_many =
    record { rise = omega arith; most_reads = omega arith }
risen_from m n more [] [] (list ∷ lists) longer grown have long as_many = absurd (omega (arith, longer))
risen_from m n more [] (c ∷ new) lists longer grown have long as_many =
    absurd (let long = grown.count in omega (arith, long))
risen_from m n more (o ∷ old) [] lists longer grown have long as_many =
    absurd (let long = grown.count in omega (arith, long))
risen_from m n more (o ∷ old) (c ∷ new) [] longer grown have long as_many = absurd (omega (arith, longer))
risen_from m n more (o ∷ old) (c ∷ new) (list ∷ lists) longer grown have long as_many =
    let here = grown.each 0 (omega arith) in
    let window : o.m ≡ m = All-head (λ (x : Streamed). x.m ≡ m) o old have in
    let samples : length o.items ≡ n = All-head (λ (s : List Sample). length s ≡ n) o.items (items_in old) long in
    let added : length list ≡ more = All-head (λ (s : List Sample). length s ≡ more) list lists as_many in
    let bound : reads_for o.m (length o.items) (length list) ≡ reads_for m n more =
    ap (λ x. reads_for x (length o.items) (length list)) window
    ∙ (ap (λ x. reads_for m x (length list)) samples ∙ ap (λ x. reads_for m n x) added) in
    let rest =
    risen_from m n more old new lists (omega (arith, longer)) (rest_grown o c old new list lists grown)
    (All-tail (λ (x : Streamed). x.m ≡ m) o old have)
    (All-tail (λ (s : List Sample). length s ≡ n) o.items (items_in old) long)
    (All-tail (λ (s : List Sample). length s ≡ more) list lists as_many) in
    subst (λ (most : ℕ). HaveRisen (reads_in (o ∷ old)) (reads_in (c ∷ new)) most) (sym (one_more (length lists)
    (reads_for m n more)))
    (risen_more o c old new (reads_for m n more) (length lists * reads_for m n more) here.rise
    (subst (λ (most : ℕ). c.reads ≤ o.reads + most) bound here.most_reads) rest)
  where
    one_more : (k b : ℕ) → suc k * b ≡ b + k * b
    one_more k b = omega arith
