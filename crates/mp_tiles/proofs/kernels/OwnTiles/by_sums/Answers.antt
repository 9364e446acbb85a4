use Rattle.std.proofs.Common.{◌≡◌, ℕ, ◌+◌, List, length, sym, ap, subst, ◌∙◌}
use Rattle.std.specs.Prelude.{All}
use Rattle.mp_nums.specs.declared.samples.Sample.{Sample}
use Rattle.mp_defs.specs.Window.{windows, excl}
use Rattle.mp_cuts.specs.Pairs.{IsTileBetween}
use Rattle.mp_scans.specs.declared.plans.Plan.{Plan}
use Rattle.mp_tiles.specs.Pieces.{OwnTiling}
use Rattle.mp_tiles.proofs.kernels.OwnTiles.by_sums.Goals as goal

pub invariant_of-result : goal.invariant_of-result
invariant_of-result c =
    let sums = c.args.sums.now.plan in
    let plan = c.coarse.result.plan in
    let same : plan ≡ sums = c.coarse.ensures.plan in
    let own = c.self.inside in
    let rows : own.plan.grid.rows.now ≡ plan.grid.rows.now =
    ap (λ (o : OwnTiling). o.samples) c.self.view_is ∙ sym c.requires.samples
    ∙ sym (ap (λ (p : Plan). p.grid.rows.now) same) in
    let length_is : own.plan.grid.m ≡ plan.grid.m =
    ap (λ (o : OwnTiling). o.m) c.self.view_is ∙ sym c.requires.m ∙ sym (ap (λ (p : Plan). p.grid.m) same) in
    record {
      same = subst (λ (p : Plan). p.grid.columns.now ≡ p.grid.rows.now) (sym same) c.args.sums.now.own;
      each = subst (λ (xs : List Sample). All (IsTileBetween (excl plan.grid.m + 1) (windows (length xs) plan.grid.m)
          (windows (length xs) plan.grid.m)) own.cut) rows
          (subst (λ (m : ℕ). All (IsTileBetween (excl m + 1) (windows (length own.plan.grid.rows.now) m)
          (windows (length own.plan.grid.rows.now) m)) own.cut) length_is c.self.invariant.each);
    }
