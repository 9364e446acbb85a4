use Rattle.std.proofs.Common.{◌≡◌, ◌-◌, arith, subst}
use Rattle.std.specs.Prelude.{None}
use Rattle.std.proofs.lemmas.List.{get_or_default}
use Rattle.mp_nums.specs.Near.{nearer_of}
use Rattle.mp_topk.proofs.Numbers.{nothing_given}
use Rattle.mp_topk.proofs.Through.{ranked_long}
use Rattle.mp_topk.proofs.compact_placing.may_gain.Goals as goal

pub returns-else-this-eq0 : goal.returns-else-this-eq0
returns-else-this-eq0 g c is =
    nothing_given g.row.K c.args.slots.now c.args.found (λ e. omega (arith, e, c.if-this-eq0.false)) c.requires
    (subst (λ s. nearer_of s c.args.found ≡ s)
    (get_or_default c.args.slots.now (g.row.K - 1) _ None
    (omega (arith, c.if-this-eq0.false, ranked_long g.row.K c.args.slots.now c.requires)))
    (c.comes_before.ensures.behind is))
