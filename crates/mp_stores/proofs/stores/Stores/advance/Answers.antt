use Rattle.std.proofs.Common.{◌≡◌, true, set, subst, sym}
use Rattle.mp_stores.specs.Stores.{Held, is_lazy}
use Rattle.mp_stores.proofs.StoreLemmas.{AreSeen, WasAdvanced, seen_advanced, slot_seen, view}
use Rattle.mp_stores.proofs.stores.Stores.advance.Goals as goal

pub advance-requires-clause-lazy : goal.advance-requires-clause-lazy
advance-requires-clause-lazy g c κs within =
    let all : AreSeen c.self.inside.m c.self.inside.stored.items c.args.self.now c.args.slot =
    record { seen = c.self.view_is; are = c.self.invariant; within = c.requires.slot } in
    subst (λ (h : Held). is_lazy h ≡ true) (sym (slot_seen all c.index_mut.ensures.value)) c.requires.lazy

abbrev behind : (g : _) → (c : goal.After-self-1 g)
    → WasAdvanced c.advance.result c.args.count c.args.self.now
    (view c.self.inside.m (set c.self.inside.stored.items c.args.slot c.advance.new.self)) c.args.slot
behind g c =
    let all : AreSeen c.self.inside.m c.self.inside.stored.items c.args.self.now c.args.slot =
    record { seen = c.self.view_is; are = c.self.invariant; within = c.requires.slot } in
    seen_advanced all c.index_mut.ensures.value c.advance.result c.args.count c.advance.new.self c.advance.ensures.ok
    c.advance.ensures.err c.advance.ensures.rise

pub invariant_of-self : goal.invariant_of-self
invariant_of-self g c = (behind g c).are

pub returns-clause-ok : goal.returns-clause-ok
returns-clause-ok g c = (behind g c).ok

pub returns-clause-err : goal.returns-clause-err
returns-clause-err g c = (behind g c).err

pub returns-clause-rise : goal.returns-clause-rise
returns-clause-rise g c = (behind g c).rise

pub returns-clause-others : goal.returns-clause-others
returns-clause-others g c = (behind g c).others
