use Rattle.std.proofs.Common.{◌≡◌, ◌∙◌, ℕ, ◌+◌, List, ap, arith, length}
use Rattle.std.specs.Prelude.{Option}
use Rattle.mp_nums.specs.declared.nearest.Near.{Near}
use Rattle.mp_defs.specs.Series.{series_of}
use Rattle.mp_defs.specs.Profile.{column, entry, left_entry, right_entry}
use Rattle.mp_defs.specs.Band.{first_kept, is_allowed_in, live_column, live_windows}
use Rattle.mp_plain.proofs.Steps.{column_more}
use Rattle.mp_plain.proofs.kept.kept_profile.Goals as goal

pub loop-place-preserved : goal.loop-place-preserved
loop-place-preserved c =
    let before = c.loop-place.invariant in
    record {
      all = column_more _ _ _ _ _ before.all c.in_ok-push.ensures.ok c.row_of-row.ensures.all;
      left = column_more _ _ _ _ _ before.left c.in_ok-push-2.ensures.ok c.row_of-row.ensures.left;
      right = column_more _ _ _ _ _ before.right c.in_ok-push-3.ensures.ok c.row_of-row.ensures.right;
    }

-- behind the loop a column is whole
whole : (f : ℕ → Option Near) (keep m count first live : ℕ) (list : List (Option Near))
    → list ≡ column (λ place. f (first + place)) live → first ≡ first_kept keep count
    → live ≡ live_windows keep m count → list ≡ live_column f keep m count
whole f keep m count first live list e first_is live_is =
    e ∙ ap (λ n. column (λ place. f (n + place)) live) first_is
    ∙ ap (column (λ place. f (first_kept keep count + place))) live_is

pub returns-clause-all : goal.returns-clause-all
returns-clause-all c =
    whole (entry (is_allowed_in c.args.keep c.args.m) c.args.m (series_of c.args.samples.now)) c.args.keep c.args.m
    (length c.args.samples.now) _ _ _ c.loop-place.invariant.all c.saturating_sub-first.ensures
    (omega (
      arith,
      c.loop-place-test.false,
      c.loop-place.auto.place-end,
      c.saturating_sub-live.ensures,
      c.saturating_sub-first.ensures,
      c.windows.ensures,
    ))

pub returns-clause-left : goal.returns-clause-left
returns-clause-left c =
    whole (left_entry (is_allowed_in c.args.keep c.args.m) c.args.m (series_of c.args.samples.now)) c.args.keep c.args.m
    (length c.args.samples.now) _ _ _ c.loop-place.invariant.left c.saturating_sub-first.ensures
    (omega (
      arith,
      c.loop-place-test.false,
      c.loop-place.auto.place-end,
      c.saturating_sub-live.ensures,
      c.saturating_sub-first.ensures,
      c.windows.ensures,
    ))

pub returns-clause-right : goal.returns-clause-right
returns-clause-right c =
    whole (right_entry (is_allowed_in c.args.keep c.args.m) c.args.m (series_of c.args.samples.now)) c.args.keep
    c.args.m
    (length c.args.samples.now) _ _ _ c.loop-place.invariant.right c.saturating_sub-first.ensures
    (omega (
      arith,
      c.loop-place-test.false,
      c.loop-place.auto.place-end,
      c.saturating_sub-live.ensures,
      c.saturating_sub-first.ensures,
      c.windows.ensures,
    ))
