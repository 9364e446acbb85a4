use Rattle.std.proofs.Common.{◌≡◌, ℕ, List, refl, ap, subst, ◌∙◌}
use Rattle.std.specs.Prelude.{IfSome}
use Rattle.mp_nums.specs.declared.samples.Sample.{Sample}
use Rattle.mp_defs.specs.Series.{series_of}
use Rattle.mp_defs.specs.Profile.{matrix_profile}
use Rattle.mp_partial.specs.Values.{merged_column}
use Rattle.mp_tiles.specs.Pieces.{OwnTiling, own_whole, sides_value}
use Rattle.mp_tiles.specs.SideLaws.{all_of_both}
use Rattle.mp_workers.specs.Entries.{EntriesState, left_of, right_of}
use Rattle.mp_workers.specs.SharedTiles.{series_in}
use Rattle.mp_workers.proofs.joins.profile_by_sums.Goals as goal

pub returns-then-fit_words-clause-all : goal.returns-then-fit_words-clause-all
returns-then-fit_words-clause-all g c =
    let own = c.args.own.now in
    let s = series_in own in
    c.profile_told.ensures.all
    ∙ ap (λ (t : EntriesState). merged_column (left_of t) (right_of t))
    (subst (λ entries. IfSome entries (λ e. e.series ≡ s)) c.in-Some.is c.in_ok-seeds.ensures)
    ∙ all_of_both (left_of s) (right_of s) own.m (series_of own.samples) refl

pub returns-clause-all : goal.returns-clause-all
returns-clause-all g c =
    let own = c.args.own.now in
    let parts = c.in_parts-parts in
    let sides = c.in_ok-sides.sides in
    c.profile_of.ensures.all
    ∙ all_of_both sides.left sides.right own.m (series_of own.samples)
    (c.in_ok-sides.ensures.value ∙ ap (λ (t : OwnTiling). own_whole t) c.of-shared.ensures
    ∙ ap (λ (m : ℕ). sides_value (matrix_profile m (series_of parts.result.samples)))
    (parts.ensures.m ∙ c.requires.same_window)
    ∙ ap (λ (samples : List Sample). sides_value (matrix_profile own.m (series_of samples)))
    (parts.ensures.samples ∙ c.requires.same))
