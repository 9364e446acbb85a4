use Rattle.std.proofs.Common.{◌≡◌, ◌<◌, ◌≤◌, ◌++◌, ◌∷◌, [], length, set, subst, sym}
use Rattle.std.specs.Prelude.{OnOk}
use Rattle.mp_defs.specs.Limits.{max_samples}
use Rattle.mp_stores.specs.Seen.{held_of}
use Rattle.mp_stores.specs.Stores.{Held, lent_of, slot_at, stream_in, streams_in}
use Rattle.mp_stores.proofs.StoreLemmas.{AreSeen, IsReadSlot, seen_read, slot_seen, view}
use Rattle.mp_stores.proofs.stores.Stores.copy_to.Goals as goal

pub copy_to-requires : goal.copy_to-requires
copy_to-requires c =
    let all : AreSeen c.self.inside.m c.self.inside.stored.items c.args.self.now c.args.at.slot =
    record { seen = c.self.view_is; are = c.self.invariant; within = c.requires.slot } in
    subst (λ (h : Held). c.args.at.channel < length (streams_in h))
    (sym (slot_seen all c.index_mut.ensures.value))
    c.requires.channel

abbrev all : (c : goal.After-self-1)
    → AreSeen c.self.inside.m c.self.inside.stored.items c.args.self.now c.args.at.slot
all c = record { seen = c.self.view_is; are = c.self.invariant; within = c.requires.slot }

abbrev read : (c : goal.After-self-1)
    → IsReadSlot c.args.self.now
    (view c.self.inside.m (set c.self.inside.stored.items c.args.at.slot c.copy_to.new.self))
    c.args.at.slot (held_of c.copy_to.new.self) (lent_of (slot_at c.args.self.now c.args.at.slot) c.args.at.channel)
read c =
    seen_read (all c) c.index_mut.ensures.value c.copy_to.new.self (λ h. lent_of h c.args.at.channel)
    c.copy_to.ensures.read

pub invariant_of-self : goal.invariant_of-self
invariant_of-self c = (read c).are

pub returns-clause-read : goal.returns-clause-read
returns-clause-read c = (read c).read

pub returns-clause-ok : goal.returns-clause-ok
returns-clause-ok c =
    subst (λ (h : Held).
    OnOk c.copy_to.result (c.copy_to.new.bundle ≡ c.args.bundle.now ++ (stream_in h c.args.at.channel).items ∷ []))
    (slot_seen (all c) c.index_mut.ensures.value)
    c.copy_to.ensures.ok

pub returns-clause-within : goal.returns-clause-within
returns-clause-within c =
    subst (λ (h : Held). length (stream_in h c.args.at.channel).items ≤ max_samples)
    (slot_seen (all c) c.index_mut.ensures.value)
    c.copy_to.ensures.within
