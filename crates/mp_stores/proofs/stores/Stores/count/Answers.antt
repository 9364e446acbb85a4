use Rattle.std.proofs.Common.{◌∙◌, ℕ, ap, subst, sym}
use Rattle.std.specs.Prelude.{◌==◌}
use Rattle.mp_stores.specs.StoreLaws.{count_stands, is_closed_stands}
use Rattle.mp_stores.specs.Stores.{AreChannels, Held, channel_count, keep_of, streams_in}
use Rattle.mp_stores.proofs.StoreLemmas.{none_alike}
use Rattle.mp_stores.proofs.stores.Stores.count.Goals as goal

-- ---- a kept slot

pub returns-in-Some-clause-count : goal.returns-in-Some-clause-count
returns-in-Some-clause-count c = sym (ap channel_count c.in-Some.ensures.some)

pub returns-in-Some-clause-channels : goal.returns-in-Some-clause-channels
returns-in-Some-clause-channels c = λ stores stand.
    sym (ap channel_count c.in-Some.ensures.some) ∙ sym (count_stands c.args.self.now stores c.args.slot stand)

pub returns-in-Some-clause-closed : goal.returns-in-Some-clause-closed
returns-in-Some-clause-closed c = λ stores stand.
    is_closed_stands c.args.self.now stores c.args.slot stand
    (λ none all whole. absurd (cc (ap keep_of c.in-Some.ensures.some, all)))
    ∙ ap (λ (n : ℕ). n == 0) (ap channel_count c.in-Some.ensures.some)

pub returns-in-Some-clause-alike : goal.returns-in-Some-clause-alike
returns-in-Some-clause-alike c =
    subst (λ (h : Held). AreChannels (streams_in h)) (sym c.in-Some.ensures.some) none_alike
