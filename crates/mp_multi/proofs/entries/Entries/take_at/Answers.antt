use Rattle.std.proofs.Common.{sym, ◌∙◌}
use Rattle.mp_multi.proofs.SharedLemmas.{near_taken}
use Rattle.mp_multi.proofs.entries.Entries.take_at.Goals as goal

pub returns-in-Some-clause-more : goal.returns-in-Some-clause-more
returns-in-Some-clause-more c = λ first h.
    near_taken c.args.self.now first c.args.into.now.items c.offer_at.new.slots.items c.args.place c.find-word.result
    c.in-Some.near h c.find-word.ensures (sym c.of_word.ensures ∙ sym c.slot.ensures ∙ c.in-Some.is)
    c.offer_at.ensures.offered
