use Rattle.std.proofs.Common.{[], ap, arith, set, sym}
use Rattle.mp_defs.specs.Series.{series_of}
use Rattle.mp_replies.specs.State as states
use Rattle.mp_stores.specs.declared.store.Store.TheVariants.{Lazy}
use Rattle.mp_stores.specs.Seen.{held_of}
use Rattle.mp_stores.proofs.StoreLemmas.{AreSeen, AreSet, seen_set, view}
use Rattle.mp_stores.proofs.stores.Stores.put_lazy.Goals as goal
use Rattle.mp_stores.proofs.stores.Stores.put_lazy.Goals.{Joined-index_mut}

abbrev behind : (c : Joined-index_mut)
    → AreSet c.args.self.now
    (view c.self.inside.m (set c.self.inside.stored.items c.args.slot (Lazy c.args.part)))
    c.args.slot (held_of (Lazy c.args.part)) (λ stores. states.Lazy (series_of c.args.part.items) [])
behind c =
    let all : AreSeen c.self.inside.m c.self.inside.stored.items c.args.self.now c.args.slot =
    record { seen = c.self.view_is; are = c.self.invariant; within = c.requires.slot } in
    seen_set all (Lazy c.args.part) _ (record { window = c.requires.window; few = omega (arith, c.len-samples.ensures.length, c.len-samples.ensures.within) })
    (λ stores stand. ap (states.Lazy (series_of c.args.part.items)) (sym c.requires.uncovered))

pub invariant_of-self : goal.invariant_of-self
invariant_of-self c = (behind c).are

pub returns-clause-stands : goal.returns-clause-stands
returns-clause-stands c = (behind c).stands

pub returns-clause-lazy : goal.returns-clause-lazy
returns-clause-lazy c = (behind c).here

pub returns-clause-others : goal.returns-clause-others
returns-clause-others c = (behind c).others
