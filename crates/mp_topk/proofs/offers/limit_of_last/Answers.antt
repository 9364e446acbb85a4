use Rattle.std.proofs.Common.{◌-◌, ◌∙◌, arith, subst}
use Rattle.std.specs.Prelude.{None}
use Rattle.std.proofs.lemmas.List.{get_or_default}
use Rattle.mp_scans.specs.Slots.{Covers}
use Rattle.mp_topk.specs.LastLaws.{last_covers_of}
use Rattle.mp_topk.proofs.Through.{ranked_long}
use Rattle.mp_topk.proofs.offers.limit_of_last.Goals as goal

pub returns-else-this-eq0 : goal.returns-else-this-eq0
returns-else-this-eq0 g c index dist le beyond =
    last_covers_of g.row.K index dist c.args.slots.now (λ e. omega (arith, e, c.if-this-eq0.false)) c.requires
    (subst (λ s. Covers s index dist)
    (c.slot.ensures ∙ get_or_default c.args.slots.now (g.row.K - 1) _ None
    (omega (arith, c.if-this-eq0.false, ranked_long g.row.K c.args.slots.now c.requires)))
    (c.limit_of.ensures index dist le beyond))
