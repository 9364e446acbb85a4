use Rattle.std.proofs.Common.{ℕ, ◌+◌, ◌-◌, ◌*◌, ◌^◌, ◌≤◌, arith, length, subst}
use Rattle.std.specs.Prelude.{min}
use Rattle.mp_stream.proofs.streams.Stream.from.Goals as goal

-- the samples are lent once, and then read for what is kept
within : (n m old last : ℕ) → last ≤ min (old + n * n) (2 ^ 128 - 1) + n * (2 * (m + 1))
    → last ≤ old + n * (n + 2 * (m + 1))
within n m old last h = omega (arith, h)

pub returns-clause-reads : goal.returns-clause-reads
returns-clause-reads g c =
    within (length c.args.samples.items) c.args.m c.args.samples.reads c.of.new.samples.reads
    (subst (λ lent. c.of.new.samples.reads ≤ lent.reads + length lent.items * (2 * (c.args.m + 1)))
    c.lend.follows.holds-at-none c.of.ensures.reads)
