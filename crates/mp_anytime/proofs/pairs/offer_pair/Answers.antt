use Rattle.std.proofs.Common.{◌<◌, refl, ap, ◌∙◌, arith}
use Rattle.std.specs.Prelude.{Some, None, if◌then◌else◌}
use Rattle.mp_tiles.specs.OfferingLaws.{each_to_other}
use Rattle.mp_anytime.proofs.pairs.offer_pair.Goals as goal

pub returns-then-both_free-clause-taken : goal.returns-then-both_free-clause-taken
returns-then-both_free-clause-taken c = λ m a places within is.
    c.offer_nearer.ensures.taken m a places within
    (is ∙ ap (λ t. if t then Some c.args.dist.0 else None) c.if-both_free.true)

pub returns-else-both_free-clause-taken : goal.returns-else-both_free-clause-taken
returns-else-both_free-clause-taken c = λ m a places within is.
    let order : c.args.i < c.args.j = c.requires.order in
    each_to_other.skipped m a a c.args.i c.args.j c.args.into.now (places, refl) (omega (arith, within)) within
    (omega arith) (is ∙ ap (λ t. if t then Some c.args.dist.0 else None) c.if-both_free.false)

pub returns-else-both_free-clause-right : goal.returns-else-both_free-clause-right
returns-else-both_free-clause-right c = record { places = refl; others = λ q ne. refl }
