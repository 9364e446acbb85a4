use Rattle.std.proofs.Common.{get_or, refl, subst}
use Rattle.std.specs.Prelude.{None}
use Rattle.mp_partial.specs.Values.{Column}
use Rattle.mp_scans.specs.Slots.{Covers}
use Rattle.mp_anytime.proofs.Choosing.{or_false, or_second}
use Rattle.mp_anytime.proofs.Quiet.{pair_offered, pair_quiet}
use Rattle.mp_anytime.proofs.RowPairs.{offered_changes}
use Rattle.mp_anytime.proofs.pairs.offer_nearer.Goals as goal

pub returns-then-is_nearer-clause-taken : goal.returns-then-is_nearer-clause-taken
returns-then-is_nearer-clause-taken c =
    let made = c.offer_both.ensures in
    pair_offered c.args.i c.args.j c.args.dist.0 c.args.into.now c.offer_both.new.into c.requires.order made.all
    made.left made.right made.room made.spare

pub returns-else-is_nearer-clause-taken : goal.returns-else-is_nearer-clause-taken
returns-else-is_nearer-clause-taken c =
    let i = c.args.i in
    let j = c.args.j in
    let dist = c.args.dist.0 in
    pair_quiet i j dist c.args.into.now c.requires.order c.all-entries.ensures.lesser
    (subst (λ (v : Column). Covers (get_or v i None) j dist) c.right.ensures
    (c.may_take.ensures (or_false c.may_take.result c.may_take-2.result c.if-is_nearer.false)))
    (subst (λ (v : Column). Covers (get_or v j None) i dist) c.left.ensures
    (c.may_take-2.ensures (or_second c.may_take.result c.may_take-2.result c.if-is_nearer.false)))

pub returns-then-is_nearer-clause-right : goal.returns-then-is_nearer-clause-right
returns-then-is_nearer-clause-right c = offered_changes c.args.i _ _ _ c.offer_both.ensures.right

pub returns-else-is_nearer-clause-right : goal.returns-else-is_nearer-clause-right
returns-else-is_nearer-clause-right c = record { places = refl; others = λ q ne. refl }
