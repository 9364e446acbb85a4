use Rattle.std.proofs.Common.{◌∙◌}
use Rattle.mp_defs.specs.Series.{series_of}
use Rattle.mp_tiles.specs.SideLaws.{all_of_both}
use Rattle.mp_tiles.proofs.kernels.profile.Goals as goal

pub returns-clause-all : goal.returns-clause-all
returns-clause-all c =
    let sides = c.in_ok-sides_in_order.field-0 in
    c.profile-2.ensures.all
    ∙ all_of_both sides.left sides.right c.args.m (series_of c.args.samples.now) c.in_ok-sides_in_order.ensures.value
