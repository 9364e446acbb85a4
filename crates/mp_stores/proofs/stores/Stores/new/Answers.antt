use Rattle.std.proofs.Common.{◌≡◌, ◌∙◌, ◌∷◌, ◌++◌, [], ap, refl, sym, subst, arith, replicate}
use Rattle.mp_replies.specs.State as states
use Rattle.mp_stores.specs.declared.store.Store.TheVariants as program
use Rattle.mp_stores.specs.Stores.{AreStores, Open, StandFor, Stored, reads_at}
use Rattle.mp_stores.proofs.StoreLemmas.{closed_more, first_open, reads_at_start, slots_at_start, stand_at_start}
use Rattle.mp_stores.proofs.StoreLemmas.{view, view_at_start}
use Rattle.mp_stores.proofs.stores.Stores.new.Goals as goal

pub loop-preserved : goal.loop-preserved
loop-preserved g c =
    closed_more c.push-2.new.self.items c.loop.stored.items c.push-in-loop.new.self.items program.Closed c.loop.counter
    (omega arith) c.in_ok-push-3.ensures.items refl c.loop.invariant

abbrev at_start : (g : _) → (c : goal.After-loop g)
    → view c.args.m c.loop.stored.items ≡ first_open c.args.m c.in_ok-empty.field-0
at_start g c =
    view_at_start c.args.m c.loop.stored.items c.push-2.new.self.items (program.Open c.push.new.self)
    c.in_ok-empty.field-0 c.loop.counter
    (omega arith)
    (c.in_ok-push-2.ensures.items ∙ ap (λ vs. vs ++ program.Open c.push.new.self ∷ []) c.new-stored.ensures.items)
    (ap Open (c.in_ok-push.ensures.items ∙ ap (λ cs. cs ++ c.in_ok-empty.field-0 ∷ []) c.new-first.ensures.items))
    c.loop.invariant

pub invariant_of-result : goal.invariant_of-result
invariant_of-result g c =
    subst AreStores (sym (at_start g c))
    (slots_at_start c.args.m c.in_ok-empty.field-0 c.requires.shortest c.requires.longest c.in_ok-empty.ensures.m)

pub returns-clause-stores : goal.returns-clause-stores
returns-clause-stores g c =
    subst (λ (s : Stored). StandFor s (states.Open ([] ∷ []) ∷ replicate 7 states.Closed)) (sym (at_start g c))
    (stand_at_start c.args.m c.in_ok-empty.field-0 c.in_ok-empty.ensures.items)

pub returns-clause-reads : goal.returns-clause-reads
returns-clause-reads g c = λ slot.
    ap (λ (s : Stored). reads_at s slot) (at_start g c)
    ∙ reads_at_start c.args.m c.in_ok-empty.field-0 slot c.in_ok-empty.ensures.reads
