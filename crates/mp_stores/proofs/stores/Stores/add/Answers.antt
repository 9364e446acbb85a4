use Rattle.std.proofs.Common.{◌+◌, ◌≤◌, map, set, subst, sym}
use Rattle.mp_defs.specs.Series.{series_of}
use Rattle.mp_replies.specs.Change.{grown as grown_by}
use Rattle.mp_replies.specs.State.{store_at}
use Rattle.mp_stores.specs.Seen.{held_of}
use Rattle.mp_stores.specs.Stores.{Held, HasRoomIn, IsOfSamples, lists_in, reads_at, reads_of, reads_to_add, slot_at}
use Rattle.mp_stores.proofs.StoreLemmas.{AreSeen, AreSet, WasExtended, of_samples, seen_extended, seen_set, slot_seen}
use Rattle.mp_stores.proofs.StoreLemmas.{stores_seen, view}
use Rattle.mp_stores.proofs.stores.Stores.add.Goals as goal

pub add-requires-clause-room : goal.add-requires-clause-room
add-requires-clause-room c =
    let all : AreSeen c.self.inside.m c.self.inside.stored.items c.args.self.now c.args.slot =
    record { seen = c.self.view_is; are = c.self.invariant; within = c.requires.slot } in
    subst (λ (h : Held). HasRoomIn h (lists_in c.args.added.now)) (sym (slot_seen all c.index_mut.ensures.value))
    c.requires.room

pub add-requires-clause-kept : goal.add-requires-clause-kept
add-requires-clause-kept c =
    let all : AreSeen c.self.inside.m c.self.inside.stored.items c.args.self.now c.args.slot =
    record { seen = c.self.view_is; are = c.self.invariant; within = c.requires.slot } in
    let are = stores_seen all in
    subst IsOfSamples (sym (slot_seen all c.index_mut.ensures.value))
    (of_samples c.args.self.now.m (slot_at c.args.self.now c.args.slot) (are.each c.args.slot))

abbrev all : (c : goal.After-self-1)
    → AreSeen c.self.inside.m c.self.inside.stored.items c.args.self.now c.args.slot
all c = record { seen = c.self.view_is; are = c.self.invariant; within = c.requires.slot }

abbrev grown : (c : goal.After-self-1)
    → WasExtended c.args.self.now.m (lists_in c.args.added.now) (slot_at c.args.self.now c.args.slot)
    (held_of c.add.new.self)
grown c =
    seen_extended (all c) c.index_mut.ensures.value c.add.new.self (lists_in c.args.added.now) c.add.ensures
    c.requires.room c.requires.same

abbrev behind : (c : goal.After-self-1)
    → AreSet c.args.self.now (view c.self.inside.m (set c.self.inside.stored.items c.args.slot c.add.new.self))
    c.args.slot (held_of c.add.new.self)
    (λ stores. grown_by (store_at stores c.args.slot) (map series_of (lists_in c.args.added.now)))
behind c =
    seen_set (all c) c.add.new.self _ (grown c).is
    (λ stores stand. (grown c).stands (store_at stores c.args.slot) (stand.each c.args.slot))

pub invariant_of-self : goal.invariant_of-self
invariant_of-self c = (behind c).are

pub returns-clause-stands : goal.returns-clause-stands
returns-clause-stands c = (behind c).stands

pub returns-clause-reads_rise : goal.returns-clause-reads_rise
returns-clause-reads_rise c =
    subst (λ (h : Held). reads_at c.args.self.now c.args.slot ≤ reads_of h) (sym (behind c).here) (grown c).risen.rise

pub returns-clause-reads : goal.returns-clause-reads
returns-clause-reads c =
    subst (λ (h : Held).
    reads_of h
    ≤ reads_at c.args.self.now c.args.slot + reads_to_add c.args.self.now c.args.slot (lists_in c.args.added.now))
    (sym (behind c).here) (grown c).risen.most_reads

pub returns-clause-others : goal.returns-clause-others
returns-clause-others c = (behind c).others
