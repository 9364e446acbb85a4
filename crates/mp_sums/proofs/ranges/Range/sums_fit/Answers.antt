use Rattle.std.proofs.Common.{◌≡◌, ◌*◌, ◌^◌, ◌<◌, ◌∙◌, ap, subst, sym}
use Rattle.mp_defs.specs.Distance.{squared_difference}
use Rattle.mp_sums.proofs.RangeLemmas.{fits_exactly}
use Rattle.mp_sums.proofs.ranges.Range.sums_fit.Goals as goal

pub returns-clause-fit : goal.returns-clause-fit
returns-clause-fit c =
    let range = c.args.self.now in
    let bits = c.args.bits in
    let sum : c.from.result * c.square-square.result ≡ c.args.m * squared_difference range.greatest range.least =
    ap (λ n. n * c.square-square.result) c.from.ensures ∙ ap (λ n. c.args.m * n) c.square-square.ensures.square in
    let test = fits_exactly (c.from.result * c.square-square.result) bits in
    (λ is. subst (λ n. n < 2 ^ bits) sum (test.0 is), λ fits. test.1 (subst (λ n. n < 2 ^ bits) (sym sum) fits))
