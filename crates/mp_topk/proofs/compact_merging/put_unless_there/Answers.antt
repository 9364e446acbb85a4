use Rattle.std.proofs.Common.{◌≡◌, ◌∙◌, arith, sym, true}
use Rattle.std.specs.Prelude.{None}
use Rattle.std.proofs.lemmas.Bool.Decides.{nat_tests}
use Rattle.std.proofs.lemmas.List.{get_or_default}
use Rattle.mp_topk.proofs.Merging.{nothing_more}
use Rattle.mp_topk.proofs.Through.{ranked_long}
use Rattle.mp_topk.proofs.compact_merging.put_unless_there.Goals as goal

pub returns-else-not-are_same-clause-those : goal.returns-else-not-are_same-clause-those
returns-else-not-are_same-clause-those g c =
    let same : c.are_same.result ≡ true = grind (arith, nat_tests, c.if-not-are_same.false) in
    nothing_more g.row.K c.args.place c.args.slots.now c.args.found c.requires.ranked c.requires.place
    (sym (get_or_default c.args.slots.now c.args.place _ None
    (omega (arith, c.requires.place, ranked_long g.row.K c.args.slots.now c.requires.ranked)))
    ∙ c.are_same.ensures same)
