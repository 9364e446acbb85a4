use Rattle.std.proofs.Common.{◌≡◌, ◌+◌}
use Rattle.mp_defs.specs.Series.{series_of}
use Rattle.mp_defs.specs.Profile.{entry, left_entry, right_entry, column}
use Rattle.mp_defs.specs.Band.{is_allowed_in}
use Rattle.mp_plain.proofs.kept.kept_profile.Given as goal

abbrev pub invariant-loop-place : goal.invariant-loop-place
invariant-loop-place l =
    let may = is_allowed_in l.keep l.m in
    let a = series_of l.samples in
    record {
      all : l.columns.all.items ≡ column (λ p. entry may l.m a (l.first + p)) l.place;
      left : l.columns.left.items ≡ column (λ p. left_entry may l.m a (l.first + p)) l.place;
      right : l.columns.right.items ≡ column (λ p. right_entry may l.m a (l.first + p)) l.place;
    }
