use Rattle.std.proofs.Common.{◌+◌, ◌<◌, ◌≤◌, arith, length, set, subst, sym}
use Rattle.std.proofs.lemmas.List.{length-map}
use Rattle.mp_defs.specs.Series.{reading_of}
use Rattle.mp_stores.specs.Seen.{held_of}
use Rattle.mp_stores.specs.Stores.{Held, channel_at, lent_of, slot_at, stream_in, streams_in}
use Rattle.mp_stores.proofs.StoreLemmas.{AreSeen, IsReadSlot, copied, seen_read, slot_seen, stores_seen, view}
use Rattle.mp_stores.proofs.StoreLemmas.{window_in}
use Rattle.mp_stores.proofs.stores.Stores.window.Goals as goal

pub window-requires-clause-channel : goal.window-requires-clause-channel
window-requires-clause-channel c =
    let all : AreSeen c.self.inside.m c.self.inside.stored.items c.args.self.now c.args.at.slot =
    record { seen = c.self.view_is; are = c.self.invariant; within = c.requires.channel.slot } in
    subst (λ (h : Held). c.args.at.channel < length (streams_in h))
    (sym (slot_seen all c.index_mut.ensures.value))
    c.requires.channel.channel

pub window-requires-clause-window : goal.window-requires-clause-window
window-requires-clause-window c =
    let all : AreSeen c.self.inside.m c.self.inside.stored.items c.args.self.now c.args.at.slot =
    record { seen = c.self.view_is; are = c.self.invariant; within = c.requires.channel.slot } in
    let old = c.args.self.now in
    let at = c.args.at in
    let are = stores_seen all in
    let m = window_in old.m (slot_at old at.slot) at.channel (are.each at.slot) c.requires.channel.channel in
    subst (λ (h : Held). c.args.start + (stream_in h at.channel).m ≤ length (stream_in h at.channel).items)
    (sym (slot_seen all c.index_mut.ensures.value))
    (omega (arith, c.requires.window, m, length-map (channel_at old at).items reading_of))

abbrev all : (c : goal.After-self-1)
    → AreSeen c.self.inside.m c.self.inside.stored.items c.args.self.now c.args.at.slot
all c = record { seen = c.self.view_is; are = c.self.invariant; within = c.requires.channel.slot }

abbrev read : (c : goal.After-self-1)
    → IsReadSlot c.args.self.now (view c.self.inside.m (set c.self.inside.stored.items c.args.at.slot
    c.window.new.self))
    c.args.at.slot (held_of c.window.new.self) (lent_of (slot_at c.args.self.now c.args.at.slot) c.args.at.channel)
read c =
    seen_read (all c) c.index_mut.ensures.value c.window.new.self (λ h. lent_of h c.args.at.channel)
    c.window.ensures.read

pub invariant_of-self : goal.invariant_of-self
invariant_of-self c = (read c).are

pub returns-clause-read : goal.returns-clause-read
returns-clause-read c = (read c).read

pub returns-clause-window : goal.returns-clause-window
returns-clause-window c =
    let old = c.args.self.now in
    let at = c.args.at in
    let here =
    slot_seen (all c) c.index_mut.ensures.value in
    let are = stores_seen (all c) in
    let m = window_in old.m (slot_at old at.slot) at.channel (are.each at.slot) c.requires.channel.channel in
    copied c.window.result c.args.start old.m (channel_at old at) m (rw here at c.window.ensures.window)
