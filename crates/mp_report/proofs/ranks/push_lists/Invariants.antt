use Rattle.std.proofs.Common.{◌≡◌, ◌++◌, take, map}
use Rattle.std.specs.Prelude.{flat_map}
use Rattle.std.specs.List.{enumerate_from}
use Rattle.mp_replies.specs.NearestCommand.{ranks_text}
use Rattle.mp_report.proofs.ranks.push_lists.Given as goal

abbrev pub invariant-loop-start : goal.invariant-loop-start
invariant-loop-start l =
    l.text.items ≡ l.initial.text.items
    ++ flat_map ranks_text (enumerate_from 0 (take l.start (map (λ near. near.items) l.lists)))
