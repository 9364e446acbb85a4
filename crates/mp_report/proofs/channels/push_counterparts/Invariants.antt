use Rattle.std.proofs.Common.{◌≡◌, ◌++◌, take}
use Rattle.std.specs.Prelude.{flat_map}
use Rattle.std.specs.List.{enumerate_from}
use Rattle.mp_replies.specs.ConsensusCommand.{place_near_text}
use Rattle.mp_report.proofs.channels.push_counterparts.Given as goal

abbrev pub invariant-loop-place : goal.invariant-loop-place
invariant-loop-place l =
    l.text.items ≡ l.initial.text.items ++ flat_map place_near_text (enumerate_from 0 (take l.place l.nearest))
