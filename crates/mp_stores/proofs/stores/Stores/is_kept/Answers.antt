use Rattle.std.proofs.Common.{◌∙◌, ap, sym}
use Rattle.std.specs.Prelude.{is_some}
use Rattle.std.proofs.lemmas.Bool.{OnFalse_from}
use Rattle.mp_stores.specs.StoreLaws.{keep_stands}
use Rattle.mp_stores.specs.Stores.{slot_at}
use Rattle.mp_stores.proofs.StoreLemmas.{is_kept_by, none_kept}
use Rattle.mp_stores.proofs.stores.Stores.is_kept.Goals as goal

pub returns-clause-kept : goal.returns-clause-kept
returns-clause-kept c = λ stores stand.
    let old = c.args.self.now in
    let slot = c.args.slot in
    c.is_some.ensures
    ∙ (is_kept_by c.kept.result (λ kept. kept.now) (slot_at old slot) c.kept.ensures.some c.kept.ensures.none
    ∙ sym (ap is_some (keep_stands old stores slot stand)))

pub returns-clause-all : goal.returns-clause-all
returns-clause-all c =
    let here = slot_at c.args.self.now c.args.slot in
    OnFalse_from c.is_some.result _
    (λ none. none_kept c.kept.result here c.kept.ensures.none (sym c.is_some.ensures ∙ none))
