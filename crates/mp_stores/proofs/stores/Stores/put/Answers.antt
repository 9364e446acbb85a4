use Rattle.std.proofs.Common.{refl, set}
use Rattle.mp_replies.specs.State as states
use Rattle.mp_stores.specs.declared.store.Store.TheVariants.{Open}
use Rattle.mp_stores.specs.Seen.{held_of}
use Rattle.mp_stores.specs.Stores.{series_in}
use Rattle.mp_stores.proofs.StoreLemmas.{AreSeen, AreSet, seen_set, view}
use Rattle.mp_stores.proofs.stores.Stores.put.Goals as goal
use Rattle.mp_stores.proofs.stores.Stores.put.Goals.{Joined-index_mut}

abbrev behind : (c : Joined-index_mut)
    → AreSet c.args.self.now
    (view c.self.inside.m (set c.self.inside.stored.items c.args.slot (Open c.args.channels)))
    c.args.slot (held_of (Open c.args.channels)) (λ stores. states.Open (series_in c.args.channels.items))
behind c =
    let all : AreSeen c.self.inside.m c.self.inside.stored.items c.args.self.now c.args.slot =
    record { seen = c.self.view_is; are = c.self.invariant; within = c.requires.slot } in
    seen_set all (Open c.args.channels) _ c.requires.channels (λ stores stand. refl)

pub invariant_of-self : goal.invariant_of-self
invariant_of-self c = (behind c).are

pub returns-clause-stands : goal.returns-clause-stands
returns-clause-stands c = (behind c).stands

pub returns-clause-channels : goal.returns-clause-channels
returns-clause-channels c = (behind c).here

pub returns-clause-others : goal.returns-clause-others
returns-clause-others c = (behind c).others
