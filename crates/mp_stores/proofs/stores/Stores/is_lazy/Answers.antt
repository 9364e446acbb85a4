use Rattle.std.proofs.Common.{◌∙◌, sym}
use Rattle.std.proofs.lemmas.Bool.{OnFalse_from}
use Rattle.mp_stores.specs.StoreLaws.{lazy_stands, open_counted}
use Rattle.mp_stores.specs.Stores.{is_lazy, slot_at}
use Rattle.mp_stores.proofs.StoreLemmas.{is_lazy_by}
use Rattle.mp_stores.proofs.stores.Stores.is_lazy.Goals as goal

pub returns-clause-lazy : goal.returns-clause-lazy
returns-clause-lazy c = λ stores stand.
    let old = c.args.self.now in
    let slot = c.args.slot in
    c.is_some.ensures
    ∙ (is_lazy_by c.lazy.result (λ part. part.now) (slot_at old slot) c.lazy.ensures.some c.lazy.ensures.none
    ∙ sym (lazy_stands old stores slot stand))

pub returns-clause-slot : goal.returns-clause-slot
returns-clause-slot c =
    c.is_some.ensures
    ∙ is_lazy_by c.lazy.result (λ part. part.now) (slot_at c.args.self.now c.args.slot) c.lazy.ensures.some
    c.lazy.ensures.none

pub returns-clause-open : goal.returns-clause-open
returns-clause-open c =
    let here = slot_at c.args.self.now c.args.slot in
    OnFalse_from c.is_some.result _
    (λ none all. open_counted here all
    (sym (is_lazy_by c.lazy.result (λ part. part.now) here c.lazy.ensures.some c.lazy.ensures.none)
    ∙ (sym c.is_some.ensures ∙ none)))
