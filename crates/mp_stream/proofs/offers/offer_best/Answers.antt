use Rattle.std.proofs.Common.{◌∙◌, ◌<◌, ap, subst, sym}
use Rattle.std.specs.Prelude.{IfSome}
use Rattle.mp_stream.specs.Blocks.{renumbered}
use Rattle.mp_stream.specs.Rows.{with_best}
use Rattle.mp_stream.proofs.Taken.{numbered_less, when_less}
use Rattle.mp_stream.proofs.offers.offer_best.Goals as goal

pub offer-requires-clause-number : goal.offer-requires-clause-number
offer-requires-clause-number c =
    numbered_less c.args.profile.now.first c.in-Some.best.index c.args.last
    (subst (λ found. IfSome found (λ best. best.index < c.args.last)) c.in-Some.is c.requires.before) c.requires.number

pub returns-in-Some-clause-left : goal.returns-in-Some-clause-left
returns-in-Some-clause-left c =
    let old = c.args.profile.now in
    c.offer.ensures.left
    ∙ when_less c.in-Some.best.index c.args.last _ _
    (subst (λ found. IfSome found (λ best. best.index < c.args.last)) c.in-Some.is c.requires.before)
    ∙ ap (λ found. with_best old.left c.args.last (renumbered old.first found)) (sym c.in-Some.is)
