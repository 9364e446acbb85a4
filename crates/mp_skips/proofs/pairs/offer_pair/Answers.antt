use Rattle.std.proofs.Common.{◌∙◌}
use Rattle.mp_skips.proofs.LevelLemmas.{sum_tells}
use Rattle.mp_skips.proofs.NeedLemmas.{free_sum, none_there}
use Rattle.mp_skips.proofs.pairs.offer_pair.Goals as goal

pub offer_at-requires-clause-dist : goal.offer_at-requires-clause-dist
offer_at-requires-clause-dist g c =
    free_sum _ c.from.result (c.are_free.ensures.0 c.if-are_free.true)
    (λ d there. c.from.ensures ∙ sum_tells c.args.coarse.now c.args.row c.args.column d c.args.sum c.if-coarse-eq1.true
    c.requires.sum there)

pub returns-else-are_free : goal.returns-else-are_free
returns-else-are_free g c = record {
  scanned = g.met.O.Offers.laws.skipped _ _ _ c.args.row c.args.column c.args.into.now c.requires.fits c.requires.row
      c.requires.column c.requires.apart (none_there _ _ c.if-are_free.false c.are_free.ensures);
  exact = c.requires.exact;
}
