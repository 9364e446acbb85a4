use Rattle.std.proofs.Common.{◌≡◌, ◌+◌, ◌≤◌, length, sym, ap, subst, ◌∙◌, arith}
use Rattle.std.specs.Prelude.{All, count_by}
use Rattle.mp_cuts.specs.Pairs.{has_pair, IsTileBetween}
use Rattle.mp_cuts.specs.Tight.{IsTight}
use Rattle.mp_cuts.specs.Cutting.{tiles_of, own_region, own_tiles, IsRegion}
use Rattle.mp_cuts.specs.CutLaws.{own_pairs_once}
use Rattle.mp_cuts.proofs.CutLemmas.{are_tiles, are_tight, few_tiles, same_tiles, own_is_region}
use Rattle.mp_cuts.proofs.cuts.cut_own.Goals as goal

same : (c : goal.After-from)
    → tiles_of (record {
      first = c.saturating_add.result;
      end = c.args.w;
      origin = 0;
      rows = c.args.w;
      width = c.from.result;
    }) ≡ own_tiles c.args.w c.args.excl c.from.result
same c = same_tiles c.args.w c.args.excl c.from.result c.saturating_add.result c.requires.windows (omega arith)
    c.saturating_add.ensures

region : (c : goal.After-from) → IsRegion (own_region c.args.w c.args.excl c.from.result)
region c = own_is_region c.args.w c.args.excl c.from.result c.requires.windows (omega arith) (omega arith)

pub returns-clause-tiles : goal.returns-clause-tiles
returns-clause-tiles c = same c ∙ ap (own_tiles c.args.w c.args.excl) c.from.ensures

pub returns-clause-each : goal.returns-clause-each
returns-clause-each c =
    subst (All (IsTileBetween (c.args.excl + 1) c.args.w c.args.w)) (sym (same c))
    (are_tiles (own_region c.args.w c.args.excl c.from.result) (region c))

pub returns-clause-tight : goal.returns-clause-tight
returns-clause-tight c =
    subst (All (IsTight 0 c.args.w)) (sym (same c))
    (are_tight (own_region c.args.w c.args.excl c.from.result) (region c))

pub returns-clause-pairs : goal.returns-clause-pairs
returns-clause-pairs c i j lt =
    ap (count_by (λ t. has_pair 0 t i j)) (same c)
    ∙ own_pairs_once c.args.w c.args.excl c.from.result (omega arith) i j lt

pub returns-clause-few : goal.returns-clause-few
returns-clause-few c =
    subst (λ ts. length ts ≤ 2097152) (sym (same c))
    (few_tiles (own_region c.args.w c.args.excl c.from.result) (region c))
