use Rattle.std.proofs.Common.{◌∙◌, ℕ, ap, length, subst, sym}
use Rattle.std.specs.Prelude.{◌==◌}
use Rattle.mp_stores.specs.StoreLaws.{count_stands, is_closed_stands, open_counted}
use Rattle.mp_stores.specs.Stores.{AreChannels, Held, channel_count, is_lazy, slot_at, streams_in}
use Rattle.mp_stores.proofs.StoreLemmas.{none_alike}
use Rattle.mp_stores.proofs.stores.Stores.whole_count.Goals as goal

-- ---- a lazy slot

pub returns-in-Some-clause-count : goal.returns-in-Some-clause-count
returns-in-Some-clause-count c = sym (ap channel_count c.in-Some.ensures.some)

pub returns-in-Some-clause-channels : goal.returns-in-Some-clause-channels
returns-in-Some-clause-channels c = λ stores stand.
    sym (ap channel_count c.in-Some.ensures.some) ∙ sym (count_stands c.args.self.now stores c.args.slot stand)

pub returns-in-Some-clause-closed : goal.returns-in-Some-clause-closed
returns-in-Some-clause-closed c = λ stores stand.
    is_closed_stands c.args.self.now stores c.args.slot stand
    (λ none all whole. absurd (cc (ap is_lazy c.in-Some.ensures.some, whole)))
    ∙ ap (λ (n : ℕ). n == 0) (ap channel_count c.in-Some.ensures.some)

pub returns-in-Some-clause-alike : goal.returns-in-Some-clause-alike
returns-in-Some-clause-alike c =
    subst (λ (h : Held). AreChannels (streams_in h)) (sym c.in-Some.ensures.some) none_alike

-- ---- any other

pub returns-in-None-clause-count : goal.returns-in-None-clause-count
returns-in-None-clause-count c =
    ap length c.channels.ensures.channels
    ∙ sym (open_counted (slot_at c.args.self.now c.args.slot) c.requires c.in-None.ensures.none)

pub returns-in-None-clause-channels : goal.returns-in-None-clause-channels
returns-in-None-clause-channels c = λ stores stand.
    ap length c.channels.ensures.channels
    ∙ (sym (open_counted (slot_at c.args.self.now c.args.slot) c.requires c.in-None.ensures.none)
    ∙ sym (count_stands c.args.self.now stores c.args.slot stand))

pub returns-in-None-clause-closed : goal.returns-in-None-clause-closed
returns-in-None-clause-closed c = λ stores stand.
    is_closed_stands c.args.self.now stores c.args.slot stand
    (λ none. c.channels.ensures.closed (c.channels.ensures.channels ∙ none))
    ∙ ap (λ (n : ℕ). n == 0)
    (open_counted (slot_at c.args.self.now c.args.slot) c.requires c.in-None.ensures.none
    ∙ sym (ap length c.channels.ensures.channels))

pub returns-in-None-clause-alike : goal.returns-in-None-clause-alike
returns-in-None-clause-alike c = subst AreChannels c.channels.ensures.channels c.channels.ensures.alike
