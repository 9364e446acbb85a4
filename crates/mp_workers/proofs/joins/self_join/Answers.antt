use Rattle.std.proofs.Common.{ap, ◌∙◌}
use Rattle.std.specs.Prelude.{ℕ, List}
use Rattle.mp_nums.specs.declared.samples.Sample.{Sample}
use Rattle.mp_defs.specs.Series.{series_of}
use Rattle.mp_defs.specs.Profile.{matrix_profile}
use Rattle.mp_tiles.specs.Pieces.{sides_value}
use Rattle.mp_tiles.specs.SideLaws.{all_of_both}
use Rattle.mp_workers.proofs.joins.self_join.Goals as goal

pub returns-clause-all : goal.returns-clause-all
returns-clause-all g c =
    let own = c.new-tiles.result in
    let sides = c.in_ok-sides.sides in
    c.profile_of.ensures.all
    ∙ all_of_both sides.left sides.right c.args.m (series_of c.args.samples.now)
    (c.in_ok-sides.ensures.value
    ∙ ap (λ (m : ℕ). sides_value (matrix_profile m (series_of own.samples))) c.new-tiles.ensures.m
    ∙ ap (λ (samples : List Sample). sides_value (matrix_profile c.args.m (series_of samples)))
    c.new-tiles.ensures.samples)
