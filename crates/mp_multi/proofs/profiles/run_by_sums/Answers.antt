use Rattle.std.proofs.Common.{◌≡◌, ℕ, List, [], ◌∷◌, length, sym, ap, subst, ◌∙◌}
use Rattle.std.specs.Prelude.{All, Option}
use Rattle.mp_nums.specs.declared.nearest.Near.{Near}
use Rattle.mp_nums.specs.declared.samples.Sample.{Sample}
use Rattle.mp_nums.specs.Listed.{Listed}
use Rattle.mp_partial.specs.Values.{empty_columns}
use Rattle.mp_multi.specs.Tiling.{multi_size, window_count}
use Rattle.mp_multi.proofs.profiles.run_by_sums.Goals as goal

-- the parts of the wider tiles have the windows of the tiles
pub run_sharing_in-requires-clause-unfound : goal.run_sharing_in-requires-clause-unfound
run_sharing_in-requires-clause-unfound g c _ _ =
    let tiles = c.args.tiles.now in
    let wide = c.wide.ensures in
    let size : multi_size tiles ≡ multi_size c.of-shared.result =
    ap (λ (n : ℕ). window_count n tiles.channels) (sym wide.m)
    ∙ ap (λ (channels : List (List Sample)). window_count c.wide.result.m channels) (sym wide.channels)
    ∙ ap multi_size (sym c.of-shared.ensures.is) in
    subst (λ (n : ℕ). All (λ (slots : Listed (Option Near)).
    (length slots.items ≡ n) × (slots.items ∷ [] ≡ empty_columns 1 n)) c.args.slots.now.items) size
    c.requires.slots.each
