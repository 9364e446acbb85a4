use Rattle.std.proofs.Common.{◌∙◌, ap, arith, set, subst, sym}
use Rattle.std.specs.Prelude.{OnOk, Result, Ok, Err}
use Rattle.mp_replies.specs.AppendCommand.{most_samples}
use Rattle.mp_stores.specs.Seen.{held_of}
use Rattle.mp_stores.specs.StoreLaws.{slot_lasts}
use Rattle.mp_stores.specs.Stores.{Held, HasSpare, slot_at}
use Rattle.mp_stores.proofs.StoreLemmas.{AreSeen, IsReadSlot, none_read_at, room_for, seen_read, view}
use Rattle.mp_stores.proofs.stores.Stores.reserve.Goals as goal

abbrev on_ok : {T E P Q : Type 0} (r : Result T E) → OnOk r P → (P → Q) → OnOk r Q
on_ok (Ok x) p f = f p
on_ok (Err e) p f = tt

abbrev all : (c : goal.After-self-1)
    → AreSeen c.self.inside.m c.self.inside.stored.items c.args.self.now c.args.slot
all c = record { seen = c.self.view_is; are = c.self.invariant; within = c.requires }

abbrev read : (c : goal.After-self-1)
    → IsReadSlot c.args.self.now (view c.self.inside.m (set c.self.inside.stored.items c.args.slot c.reserve.new.self))
    c.args.slot (held_of c.reserve.new.self) 0
read c =
    seen_read (all c) c.index_mut.ensures.value c.reserve.new.self (λ h. 0) c.reserve.ensures.read

pub invariant_of-self : goal.invariant_of-self
invariant_of-self c = (read c).are

pub returns-clause-stands : goal.returns-clause-stands
returns-clause-stands c = (read c).read.stands

pub returns-clause-reads : goal.returns-clause-reads
returns-clause-reads c = λ other. none_read_at c.args.self.now _ c.args.slot other (read c).read

pub returns-clause-ok : goal.returns-clause-ok
returns-clause-ok c =
    subst (λ (h : Held). OnOk c.reserve.result (HasSpare c.args.more h)) (sym (read c).here) c.reserve.ensures.ok

pub returns-clause-room : goal.returns-clause-room
returns-clause-room c = λ added.
    let new = view c.self.inside.m (set c.self.inside.stored.items c.args.slot c.reserve.new.self) in
    let last = slot_lasts c.args.self.now new c.args.slot (read c).read.stands in
    on_ok c.reserve.result (returns-clause-ok c) (λ spare some long lists fits.
    room_for new.m (slot_at new c.args.slot) added c.args.more ((read c).are.each c.args.slot) spare some
    (long ∙ sym last.channels) lists (omega (arith, fits, last.samples, ap most_samples last.keep)))
