use Rattle.std.proofs.Common.{◌+◌, ◌<◌, ◌∙◌, ap, arith, get_or, length, length-set, rules, subst, sym, w32}
use Rattle.std.proofs.Common.{FitsSigned, to_z, of_z}
use Rattle.std.specs.Prelude.{None, ◌≤ℤ◌}
use Rattle.std.proofs.lemmas.Int.{to_z-of_z}
use Rattle.mp_sums.specs.Residues.{item}
use Rattle.mp_anytime.specs.Bounds.{Bounded, IsQuiet}
use Rattle.mp_anytime.proofs.Moves.{each_next}
use Rattle.mp_anytime.proofs.Quiet.{at_most, quiet_at}
use Rattle.mp_anytime.proofs.found.Found.fill_limits.Goals as goal

pub loop-k-preserved : goal.loop-k-preserved
loop-k-preserved c =
    let inside = c.self.inside in
    let before = c.loop-k.invariant in
    let k = c.loop-k.k in
    let limits = c.loop-k.limits in
    let most = c.max.result in
    let row = c.bound_at.result in
    let column = c.bound_at-in-loop-k.result in
    let fits : FitsSigned w32 most = search rules in
    let row_fits : FitsSigned w32 row = search rules in
    let column_fits : FitsSigned w32 column = search rules in
    let same = to_z-of_z w32 most fits in
    let lt : k < length limits = omega (arith, before.places, c.loop-k-test.true) in
    record {
      places = length-set limits k (to_z w32 (of_z w32 most)) ∙ before.places;
      fit = each_next (λ _ z. FitsSigned w32 z) limits k (to_z w32 (of_z w32 most)) lt before.fit
          (subst (FitsSigned w32) (sym same) fits);
      rows = each_next (λ q z. item inside.right.bounds (c.args.row + q) ≤ℤ z) limits k (to_z w32 (of_z w32 most)) lt
          before.rows
          (at_most (item inside.right.bounds (c.args.row + k)) (to_z w32 (of_z w32 row)) most _
          (sym c.bound_at.ensures ∙ sym (to_z-of_z w32 row row_fits)) c.max.ensures.self_bound (sym same));
      columns = each_next (λ q z. item inside.left.bounds (c.args.column + q) ≤ℤ z) limits k
          (to_z w32 (of_z w32 most)) lt before.columns
          (at_most (item inside.left.bounds (c.args.column + k)) (to_z w32 (of_z w32 column)) most _
          (sym c.bound_at-in-loop-k.ensures ∙ sym (to_z-of_z w32 column column_fits)) c.max.ensures.other_bound
          (sym same));
    }

pub returns-clause-lanes : goal.returns-clause-lanes
returns-clause-lanes c = record {
  count = c.loop-k.invariant.places ∙ c.requires.places;
  fit = λ t lt. c.loop-k.invariant.fit t
      (omega (arith, lt, c.requires.places, c.loop-k-test.false, c.loop-k.auto.k-end));
}

pub returns-clause-rows : goal.returns-clause-rows
returns-clause-rows c = λ k r lt below.
    let inside = c.self.inside in
    let within : c.args.row + k < length inside.right.slots =
    omega (arith, lt, c.requires.row, ap (λ (v : Bounded). length v.profile.right) c.self.view_is) in
    subst (λ (v : Bounded). IsQuiet v.m v.shift (get_or v.profile.right (c.args.row + k) None) r) c.self.view_is
    (quiet_at inside.rounding.m inside.rounding.shift inside.right.slots inside.right.bounds (c.args.row + k) _ r
    c.self.invariant.0 within
    (c.loop-k.invariant.rows k (omega (arith, lt, c.requires.places, c.loop-k-test.false, c.loop-k.auto.k-end)))
    below)

pub returns-clause-columns : goal.returns-clause-columns
returns-clause-columns c = λ k r lt below.
    let inside = c.self.inside in
    let within : c.args.column + k < length inside.left.slots =
    omega (arith, lt, c.requires.column, ap (λ (v : Bounded). length v.profile.left) c.self.view_is) in
    subst (λ (v : Bounded). IsQuiet v.m v.shift (get_or v.profile.left (c.args.column + k) None) r) c.self.view_is
    (quiet_at inside.rounding.m inside.rounding.shift inside.left.slots inside.left.bounds (c.args.column + k) _ r
    c.self.invariant.1 within
    (c.loop-k.invariant.columns k
    (omega (arith, lt, c.requires.places, c.loop-k-test.false, c.loop-k.auto.k-end))) below)

pub overflow_add-row : goal.overflow_add-row
overflow_add-row c =
    omega (
      arith,
      c.requires.row,
      ap (λ (v : Bounded). length v.profile.right) c.self.view_is,
      c.self.invariant.2,
      c.len-windows.ensures,
      c.requires.places,
      c.loop-k.invariant.places,
      c.loop-k-test.true,
      c.loop-k.auto.k-end,
    )

pub overflow_add-column : goal.overflow_add-column
overflow_add-column c =
    omega (
      arith,
      c.requires.column,
      ap (λ (v : Bounded). length v.profile.left) c.self.view_is,
      c.len-windows.ensures,
      c.requires.places,
      c.loop-k.invariant.places,
      c.loop-k-test.true,
      c.loop-k.auto.k-end,
    )
