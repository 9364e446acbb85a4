use Rattle.std.proofs.Common.{◌≡◌, ℕ, List, length, sym, ap, subst, ◌∙◌}
use Rattle.std.specs.Prelude.{All}
use Rattle.mp_nums.specs.declared.samples.Sample.{Sample}
use Rattle.mp_defs.specs.Window.{windows}
use Rattle.mp_cuts.specs.Pairs.{IsTileBetween}
use Rattle.mp_cuts.specs.Cutting.{diagonals_between}
use Rattle.mp_scans.specs.declared.plans.Plan.{Plan}
use Rattle.mp_tiles.specs.Pieces.{JoinTiling}
use Rattle.mp_tiles.proofs.joins.JoinTiles.by_sums.Goals as goal

pub invariant_of-result : goal.invariant_of-result
invariant_of-result c =
    let plan = c.coarse.result.plan in
    let own = c.self.inside.plan.grid in
    let each = λ (m : ℕ) (a b : List Sample).
    All (IsTileBetween 0 (diagonals_between (windows (length a) m) (windows (length b) m)) (windows (length a) m))
    c.self.inside.cut in
    let rows : own.rows.now ≡ plan.grid.rows.now =
    ap (λ (j : JoinTiling). j.a) c.self.view_is ∙ sym c.requires.a
    ∙ sym (ap (λ (p : Plan). p.grid.rows.now) c.coarse.ensures) in
    let columns : own.columns.now ≡ plan.grid.columns.now =
    ap (λ (j : JoinTiling). j.b) c.self.view_is ∙ sym c.requires.b
    ∙ sym (ap (λ (p : Plan). p.grid.columns.now) c.coarse.ensures) in
    let length_is : own.m ≡ plan.grid.m =
    ap (λ (j : JoinTiling). j.m) c.self.view_is ∙ sym c.requires.m
    ∙ sym (ap (λ (p : Plan). p.grid.m) c.coarse.ensures) in (
      record {
        each = subst (λ (m : ℕ). each m plan.grid.rows.now plan.grid.columns.now) length_is
            (subst (λ (a : List Sample). each own.m a plan.grid.columns.now) rows
            (subst (λ (b : List Sample). each own.m own.rows.now b) columns c.self.invariant.each));
      },
      record {
        m = ap (λ (p : Plan). p.grid.m) c.turned.ensures ∙ c.transposed.ensures.m
            ∙ sym (ap (λ (p : Plan). p.grid.m) c.coarse.ensures);
        rows = ap (λ (p : Plan). p.grid.rows.now) c.turned.ensures ∙ c.transposed.ensures.rows
            ∙ sym (ap (λ (p : Plan). p.grid.columns.now) c.coarse.ensures);
        columns = ap (λ (p : Plan). p.grid.columns.now) c.turned.ensures ∙ c.transposed.ensures.columns
            ∙ sym (ap (λ (p : Plan). p.grid.rows.now) c.coarse.ensures);
      },
    )
