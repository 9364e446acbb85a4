use Rattle.std.proofs.Common.{◌≡◌, ◌-◌, ◌≤◌, length, sym, ap, subst, ◌∙◌, arith}
use Rattle.std.specs.Prelude.{All, count_by}
use Rattle.mp_cuts.specs.Pairs.{has_pair, IsTileBetween}
use Rattle.mp_cuts.specs.Tight.{IsTight}
use Rattle.mp_cuts.specs.Cutting.{tiles_of, both_region, both_tiles, diagonals_between, IsRegion}
use Rattle.mp_cuts.specs.CutLaws.{both_pairs_once}
use Rattle.mp_cuts.proofs.CutLemmas.{are_tiles, are_tight, few_tiles, both_is_region}
use Rattle.mp_cuts.proofs.cuts.cut_both.Goals as goal

same : (c : goal.After-from)
    → tiles_of (record {
      first = 0;
      end = c.diagonals.result;
      origin = c.saturating_sub.result;
      rows = c.args.wa;
      width = c.from.result;
    }) ≡ both_tiles c.args.wa c.args.wb c.from.result
same c =
    ap (λ end. tiles_of (record {
      first = 0;
      end = end;
      origin = c.saturating_sub.result;
      rows = c.args.wa;
      width = c.from.result;
    })) c.diagonals.ensures
    ∙ ap (λ origin. tiles_of (record {
      first = 0;
      end = diagonals_between c.args.wa c.args.wb;
      origin = origin;
      rows = c.args.wa;
      width = c.from.result;
    })) c.saturating_sub.ensures

region : (c : goal.After-from) → IsRegion (both_region c.args.wa c.args.wb c.from.result)
region c =
    both_is_region c.args.wa c.args.wb c.from.result c.requires.first c.requires.second (omega arith) (omega arith)

pub returns-clause-each : goal.returns-clause-each
returns-clause-each c =
    subst (All (IsTileBetween 0 (diagonals_between c.args.wa c.args.wb) c.args.wa)) (sym (same c))
    (are_tiles (both_region c.args.wa c.args.wb c.from.result) (region c))

pub returns-clause-tight : goal.returns-clause-tight
returns-clause-tight c =
    subst (All (IsTight (c.args.wa - 1) (diagonals_between c.args.wa c.args.wb))) (sym (same c))
    (are_tight (both_region c.args.wa c.args.wb c.from.result) (region c))

pub returns-clause-pairs : goal.returns-clause-pairs
returns-clause-pairs c i j lt lt' =
    ap (count_by (λ t. has_pair (c.args.wa - 1) t i j)) (same c)
    ∙ both_pairs_once c.args.wa c.args.wb c.from.result (omega arith) i j lt lt'

pub returns-clause-few : goal.returns-clause-few
returns-clause-few c =
    subst (λ ts. length ts ≤ 2097152) (sym (same c))
    (few_tiles (both_region c.args.wa c.args.wb c.from.result) (region c))
