use Rattle.std.proofs.Common.{arith}
use Rattle.mp_workers.proofs.Beginning.{both_have_begun}
use Rattle.mp_workers.proofs.begins.+begins.Goals as goal

pub begin_some-returns : goal.begin_some-returns
begin_some-returns g t c =
    -- what is known of a part holds in every thread, this one among them
    let part_laws = g.met.P.Part g.world.𝓛 g.world.𝓜 g.world.𝓡 ((λ s x. x), (λ x. x), (λ x. x), λ x. x) in
    let part = g.P.Part in
    let halves = c.split_at_mut-low.ensures in
    both_have_begun part.size_of part.is_value part.value part.merged (g.B.Begin.size_of c.args.ahead.now)
    (g.B.Begin.whole c.args.ahead.now) part.unit_of part_laws.laws c.begin_both.new.low c.begin_both.new.high
    c.index-low-0.result c.index-high-0.result c.merge.new.self
    (omega (arith, c.begin_both.auto.low, halves.front_len, c.requires.some))
    (omega (arith, c.begin_both.auto.high, halves.back_len, c.requires.some))
    c.begin_both.ensures.low c.begin_both.ensures.high c.merge.ensures.size c.merge.ensures.is_value
    c.merge.ensures.value
