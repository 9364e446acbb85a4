use Rattle.std.proofs.Common.{◌∙◌, ◌-◌, ap, arith, get_or}
use Rattle.std.specs.Prelude.{None}
use Rattle.mp_partial.specs.Values.{Column}
use Rattle.mp_anytime.specs.Limits.{limit_of}
use Rattle.mp_anytime.proofs.RowPairs.{quiet_listed, small_limits}
use Rattle.mp_anytime.proofs.offers.may_one_give.Goals as goal

pub is_one_below-requires : goal.is_one_below-requires
is_one_below-requires c =
    let row = c.args.row.now in
    let ready = c.requires.ready in
    record {
      sums = row.row.places;
      limits = omega (arith, ready.limits.places, ready.places.sides.right);
      within = λ k d lt. (c.requires.covered k d lt).within;
      small_limits = small_limits c.args.profile.now.right c.args.limits.now ready.limits;
      small_best = c.limit_of-best.ensures.small;
    }

pub returns : goal.returns
returns c = λ quiet.
    let row = c.args.row.now in
    quiet_listed row.m row.samples.now.items row.covered.now c.args.listed.now row.waiting.now row.sums.now row.last
    c.limit_of-best.result c.args.profile.now c.args.limits.now row.row c.requires.ready c.all-entries.ensures.lesser
    c.requires.covered
    (c.limit_of-best.ensures.limit ∙ ap (λ (v : Column). limit_of (get_or v row.last None)) c.left.ensures)
    (c.is_one_below.ensures quiet)
