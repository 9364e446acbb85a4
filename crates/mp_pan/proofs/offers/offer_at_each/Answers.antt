use Rattle.std.proofs.Common.{arith, ap, sym, ◌∙◌}
use Rattle.mp_defs.specs.Series.{series_of}
use Rattle.mp_defs.specs.Distance.{distance}
use Rattle.mp_pan.specs.Spans.{all_put}
use Rattle.mp_pan.proofs.Offered.{no_length_put, one_length_more}
use Rattle.mp_pan.proofs.offers.offer_at_each.Goals as goal

pub loop-k-init : goal.loop-k-init
loop-k-init c =
    let lengths = c.args.lengths.now in
    let a = series_of lengths.samples.now in
    record {
      put = λ _. no_length_put lengths.least a c.args.row c.args.column c.args.slots.now;
      reached = λ is. sym is ∙ ap (λ n. distance n a c.args.row a c.args.column) (omega arith);
      small = omega (arith, c.requires.small);
    }

pub loop-k-preserved : goal.loop-k-preserved
loop-k-preserved c =
    let lengths = c.args.lengths.now in
    record {
      put = λ is. one_length_more c.loop-k.k lengths.least (series_of lengths.samples.now) c.args.row c.args.column
          c.args.slots.now c.loop-k.slots c.offer_if_there.new.slots c.loop-k.reached c.where_apart-apart.result
          (c.loop-k.invariant.reached is) c.where_apart-apart.ensures (c.loop-k.invariant.put is)
          c.offer_if_there.ensures;
      reached = λ is. c.next_distance-reached.ensures.next (c.loop-k.invariant.reached is);
      small = c.next_distance-reached.ensures.small;
    }

pub returns : goal.returns
returns c is =
    let lengths = c.args.lengths.now in
    c.loop-k.invariant.put is
    ∙ ap (λ n. all_put n lengths.least (series_of lengths.samples.now) c.args.row c.args.column c.args.slots.now)
    (omega (arith, c.loop-k-test.false, c.loop-k.auto.k-end))
