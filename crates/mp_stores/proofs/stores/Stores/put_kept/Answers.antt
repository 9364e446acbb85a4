use Rattle.std.proofs.Common.{[], arith, refl, set}
use Rattle.mp_replies.specs.State as states
use Rattle.mp_stores.specs.declared.store.Store.TheVariants.{Kept}
use Rattle.mp_stores.specs.Seen.{held_of}
use Rattle.mp_stores.proofs.StoreLemmas.{AreSeen, AreSet, seen_set, view}
use Rattle.mp_stores.proofs.stores.Stores.put_kept.Goals as goal
use Rattle.mp_stores.proofs.stores.Stores.put_kept.Goals.{Joined-index_mut}

abbrev behind : (c : Joined-index_mut)
    → AreSet c.args.self.now
    (view c.self.inside.m (set c.self.inside.stored.items c.args.slot (Kept c.args.kept)))
    c.args.slot (held_of (Kept c.args.kept)) (λ stores. states.Kept c.args.kept.keep [])
behind c =
    let all : AreSeen c.self.inside.m c.self.inside.stored.items c.args.self.now c.args.slot =
    record { seen = c.self.view_is; are = c.self.invariant; within = c.requires.slot } in
    seen_set all (Kept c.args.kept) _
    (record {
      window = c.requires.window;
      few = omega (arith, c.requires.empty.count);
      samples = [];
      stands = c.requires.empty;
    })
    (λ stores stand. record { samples = []; store_is = refl; stands = c.requires.empty })

pub invariant_of-self : goal.invariant_of-self
invariant_of-self c = (behind c).are

pub returns-clause-stands : goal.returns-clause-stands
returns-clause-stands c = (behind c).stands

pub returns-clause-kept : goal.returns-clause-kept
returns-clause-kept c = (behind c).here

pub returns-clause-others : goal.returns-clause-others
returns-clause-others c = (behind c).others
