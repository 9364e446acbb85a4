use Rattle.std.proofs.Common.{◌≡◌, ◌++◌}
use Rattle.std.specs.Prelude.{flat_map}
use Rattle.std.specs.List.{range_with_len}
use Rattle.mp_replies.specs.ProfileCommand.{live_row_at}
use Rattle.mp_report.proofs.profiles.push_live_rows.Given as goal

abbrev pub invariant-loop-place : goal.invariant-loop-place
invariant-loop-place l =
    l.text.items
    ≡ l.initial.text.items
    ++ flat_map (live_row_at l.first (record { all = l.all; left = l.left; right = l.right }))
    (range_with_len 0 l.place)
