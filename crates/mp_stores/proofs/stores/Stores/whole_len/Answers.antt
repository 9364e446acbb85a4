use Rattle.std.proofs.Common.{◌∙◌, ap, sym}
use Rattle.mp_stores.specs.StoreLaws.{open_sampled, samples_stand}
use Rattle.mp_stores.specs.Stores.{sample_count, slot_at}
use Rattle.mp_stores.proofs.stores.Stores.whole_len.Goals as goal

-- ---- a lazy slot

pub returns-in-Some-clause-count : goal.returns-in-Some-clause-count
returns-in-Some-clause-count c = c.len.ensures.length ∙ sym (ap sample_count c.in-Some.ensures.some)

pub returns-in-Some-clause-length : goal.returns-in-Some-clause-length
returns-in-Some-clause-length c = λ stores stand.
    c.len.ensures.length
    ∙ (sym (ap sample_count c.in-Some.ensures.some)
    ∙ sym (samples_stand c.args.self.now stores c.args.slot stand))

-- ---- any other

pub returns-in-None-clause-count : goal.returns-in-None-clause-count
returns-in-None-clause-count c =
    c.open_len.ensures.count
    ∙ sym (open_sampled (slot_at c.args.self.now c.args.slot) c.requires c.in-None.ensures.none)

pub returns-in-None-clause-length : goal.returns-in-None-clause-length
returns-in-None-clause-length c = λ stores stand.
    c.open_len.ensures.count
    ∙ (sym (open_sampled (slot_at c.args.self.now c.args.slot) c.requires c.in-None.ensures.none)
    ∙ sym (samples_stand c.args.self.now stores c.args.slot stand))
