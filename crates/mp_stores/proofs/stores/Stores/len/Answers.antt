use Rattle.std.proofs.Common.{◌≤◌, ◌∙◌, ℕ, ap, subst, sym}
use Rattle.std.specs.Prelude.{Option}
use Rattle.mp_replies.specs.AppendCommand.{most_samples}
use Rattle.mp_stores.specs.StoreLaws.{samples_stand}
use Rattle.mp_stores.specs.Stores.{Held, keep_of, sample_count}
use Rattle.mp_stores.proofs.stores.Stores.len.Goals as goal

-- ---- a kept slot

pub returns-in-Some-clause-count : goal.returns-in-Some-clause-count
returns-in-Some-clause-count c = c.len.ensures.length ∙ sym (ap sample_count c.in-Some.ensures.some)

pub returns-in-Some-clause-length : goal.returns-in-Some-clause-length
returns-in-Some-clause-length c = λ stores stand.
    c.len.ensures.length
    ∙ (sym (ap sample_count c.in-Some.ensures.some)
    ∙ sym (samples_stand c.args.self.now stores c.args.slot stand))

pub returns-in-Some-clause-within : goal.returns-in-Some-clause-within
returns-in-Some-clause-within c =
    subst (λ (h : Held). c.len.result ≤ most_samples (keep_of h)) (sym c.in-Some.ensures.some) c.len.ensures.within

-- ---- any other

pub returns-in-None-clause-within : goal.returns-in-None-clause-within
returns-in-None-clause-within c =
    subst (λ (keep : Option ℕ). c.whole_len.result ≤ most_samples keep) (sym c.in-None.ensures.none)
    c.whole_len.ensures.within
