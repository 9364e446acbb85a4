use Rattle.std.proofs.Common.{◌≡◌, ◌∙◌, arith, false, get_or, sym}
use Rattle.std.specs.Prelude.{None}
use Rattle.std.proofs.lemmas.Bool.Decides.{nat_tests}
use Rattle.std.proofs.lemmas.List.{get_or_default}
use Rattle.mp_topk.proofs.Merging.{none_at_all}
use Rattle.mp_topk.proofs.Through.{ranked_long}
use Rattle.mp_topk.proofs.compact_merging.is_vacant.Goals as goal

pub returns-else-this-eq0 : goal.returns-else-this-eq0
returns-else-this-eq0 g c is =
    let behind : c.comes_before.result ≡ false = grind (arith, nat_tests, is) in
    let slots = c.args.slots.now in
    none_at_all g.row.K slots (get_or slots 0 c.index-slots-0.result) c.none.result
    (λ e. omega (arith, e, c.if-this-eq0.false)) c.requires
    (sym (get_or_default slots 0 c.index-slots-0.result None
    (omega (arith, c.if-this-eq0.false, ranked_long g.row.K slots c.requires))))
    c.none.ensures (sym c.comes_before.ensures.order ∙ behind)
