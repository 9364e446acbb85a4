use Rattle.std.proofs.Common.{◌≡◌}
use Rattle.mp_defs.specs.Series.{series_of}
use Rattle.mp_defs.specs.Window.{is_allowed}
use Rattle.mp_defs.specs.Profile.{entry, left_entry, right_entry, column}
use Rattle.mp_plain.proofs.profiles.profile.Given as goal

abbrev pub invariant-loop-i : goal.invariant-loop-i
invariant-loop-i l = record {
  all : l.columns.all.items ≡ column (entry (is_allowed l.m) l.m (series_of l.samples)) l.i;
  left : l.columns.left.items ≡ column (left_entry (is_allowed l.m) l.m (series_of l.samples)) l.i;
  right : l.columns.right.items ≡ column (right_entry (is_allowed l.m) l.m (series_of l.samples)) l.i;
}
