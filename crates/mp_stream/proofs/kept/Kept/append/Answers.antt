use Rattle.std.proofs.Common.{◌≡◌, ◌∙◌, ◌+◌, ◌-◌, ◌≤◌, ◌++◌, ◌∷◌, [], ap, arith, drop, length, subst, sym}
use Rattle.std.proofs.lemmas.List.{length-append, length-drop}
use Rattle.mp_defs.specs.Window.{windows}
use Rattle.mp_stream.specs.Kept.{StandsFor}
use Rattle.mp_stream.specs.KeptProfiles.{leaving}
use Rattle.mp_stream.specs.KeptProfiles.{IsOfLast}
use Rattle.mp_stream.specs.Streams.{room_of, without_last}
use Rattle.mp_stream.proofs.Growing.{front_is}
use Rattle.mp_stream.proofs.KeptStands.{kept_next, pushed_dropped, pushed_items, room_after, stands_next, stands_read}
use Rattle.mp_stream.proofs.kept.Kept.append.Goals as goal

pub make_room-requires : goal.make_room-requires
make_room-requires c = c.self.invariant

pub add_sample-requires-clause-room : goal.add_sample-requires-clause-room
add_sample-requires-clause-room c =
    let store = c.self.inside in
    let kept = c.self.invariant in
    let k = leaving store.keep store.ring.items in
    omega (
      arith,
      c.make_room.ensures.room,
      length-drop k store.ring.items,
      kept.held,
      kept.least,
      kept.shortest,
    )

pub add_sample-requires-clause-last : goal.add_sample-requires-clause-last
add_sample-requires-clause-last c =
    let store = c.self.inside in
    let kept = c.self.invariant in
    let items = store.ring.items in
    let next = c.push.new.self in
    let k = leaving store.keep items in
    let some : 1 ≤ store.keep = omega (arith, kept.shortest, kept.least) in
    let items_are : next.items ≡ drop k items ++ c.args.sample ∷ [] =
    c.push.ensures.items ∙ pushed_items store.keep store.ring.capacity items c.args.sample kept.capacity
    kept.held some in
    items_are ∙ ap (λ front. front ++ c.args.sample ∷ [])
    (sym (front_is (drop k items) next.items c.args.sample items_are))

pub add_sample-requires-clause-is_of : goal.add_sample-requires-clause-is_of
add_sample-requires-clause-is_of c =
    let store = c.self.inside in
    let kept = c.self.invariant in
    let items = store.ring.items in
    let next = c.push.new.self in
    let k = leaving store.keep items in
    let some : 1 ≤ store.keep = omega (arith, kept.shortest, kept.least) in
    let items_are : next.items ≡ drop k items ++ c.args.sample ∷ [] =
    c.push.ensures.items ∙ pushed_items store.keep store.ring.capacity items c.args.sample kept.capacity
    kept.held some in
    let long : length next.items ≡ length items - k + 1 =
    ap length items_are ∙ length-append (drop k items) (c.args.sample ∷ []) ∙ ap (λ n. n + 1) (length-drop k items) in
    let dropped_is : next.dropped ≡ store.ring.dropped + k =
    pushed_dropped store.keep (length items) (length next.items) store.ring.dropped next.dropped kept.held some long
    c.push.ensures.dropped in
    subst (λ front. IsOfLast store.m front next.dropped c.make_room.new.growing)
    (sym (front_is (drop k items) next.items c.args.sample items_are))
    (subst (λ dropped. IsOfLast store.m (drop k items) dropped c.make_room.new.growing) (sym dropped_is)
    c.make_room.ensures.is_of)

pub returns-clause-stands : goal.returns-clause-stands
returns-clause-stands c = λ samples h.
    let store = c.self.inside in
    let kept = c.self.invariant in
    let items = store.ring.items in
    let next = c.push.new.self in
    let k = leaving store.keep items in
    let some : 1 ≤ store.keep = omega (arith, kept.shortest, kept.least) in
    let items_are : next.items ≡ drop k items ++ c.args.sample ∷ [] =
    c.push.ensures.items ∙ pushed_items store.keep store.ring.capacity items c.args.sample kept.capacity
    kept.held some in
    let long : length next.items ≡ length items - k + 1 =
    ap length items_are ∙ length-append (drop k items) (c.args.sample ∷ []) ∙ ap (λ n. n + 1) (length-drop k items) in
    let dropped_is : next.dropped ≡ store.ring.dropped + k =
    pushed_dropped store.keep (length items) (length next.items) store.ring.dropped next.dropped kept.held some long
    c.push.ensures.dropped in
    stands_read store.m store.keep next c.add_sample.new.ring c.add_sample.new.growing
    (samples ++ c.args.sample ∷ []) c.add_sample.ensures.read.items c.add_sample.ensures.read.dropped
    (stands_next store.m store.keep store.ring next store.growing c.make_room.new.growing c.add_sample.new.growing
    c.args.sample samples kept items_are dropped_is c.make_room.ensures.left c.make_room.ensures.right
    c.make_room.ensures.is_of c.add_sample.ensures.is_of c.add_sample.ensures.added
    (subst (StandsFor samples) (sym c.self.view_is) h))

pub invariant_of-self : goal.invariant_of-self
invariant_of-self c =
    let store = c.self.inside in
    let kept = c.self.invariant in
    let items = store.ring.items in
    let next = c.push.new.self in
    let k = leaving store.keep items in
    let some : 1 ≤ store.keep = omega (arith, kept.shortest, kept.least) in
    let items_are : next.items ≡ drop k items ++ c.args.sample ∷ [] =
    c.push.ensures.items ∙ pushed_items store.keep store.ring.capacity items c.args.sample kept.capacity
    kept.held some in
    let long : length next.items ≡ length items - k + 1 =
    ap length items_are ∙ length-append (drop k items) (c.args.sample ∷ []) ∙ ap (λ n. n + 1) (length-drop k items) in
    let dropped_is : next.dropped ≡ store.ring.dropped + k =
    pushed_dropped store.keep (length items) (length next.items) store.ring.dropped next.dropped kept.held some long
    c.push.ensures.dropped in
    kept_next store.m store.keep store.ring c.add_sample.new.ring store.growing c.add_sample.new.growing kept
    (c.add_sample.ensures.read.capacity ∙ c.push.ensures.capacity)
    (ap length c.add_sample.ensures.read.items ∙ long) (c.add_sample.ensures.read.dropped ∙ dropped_is)
    (omega (
      arith,
      kept.appended,
      c.if-len-eq-MAX_APPENDED.false,
      c.len.ensures.length,
      ap (λ seen. seen.count) c.self.view_is,
    ))
    (subst (λ list. IsOfLast store.m list c.add_sample.new.ring.dropped c.add_sample.new.growing)
    (sym c.add_sample.ensures.read.items)
    (subst (λ dropped. IsOfLast store.m next.items dropped c.add_sample.new.growing)
    (sym c.add_sample.ensures.read.dropped) c.add_sample.ensures.is_of))
    (room_after _ _ (windows (length (without_last next.items)) store.m) (windows (length next.items) store.m)
    (windows (length c.add_sample.new.ring.items) store.m) (room_of c.make_room.new.growing) _ c.make_room.ensures.room
    c.add_sample.ensures.room
    (ap (λ list. windows (length list) store.m) (front_is (drop k items) next.items c.args.sample items_are))
    (ap (λ list. windows (length list) store.m) c.add_sample.ensures.read.items))
