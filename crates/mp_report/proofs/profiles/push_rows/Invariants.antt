use Rattle.std.proofs.Common.{◌≡◌, ◌++◌}
use Rattle.std.specs.Prelude.{flat_map}
use Rattle.std.specs.List.{range_with_len}
use Rattle.mp_replies.specs.ProfileCommand.{row_at}
use Rattle.mp_replies.specs.Profiles.{columns_in}
use Rattle.mp_report.proofs.profiles.push_rows.Given as goal

abbrev pub invariant-loop-start : goal.invariant-loop-start
invariant-loop-start l =
    l.text.items ≡ l.initial.text.items ++ flat_map (row_at (columns_in l.profile)) (range_with_len 0 l.start)
