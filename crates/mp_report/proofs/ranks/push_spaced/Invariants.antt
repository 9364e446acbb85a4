use Rattle.std.proofs.Common.{◌≡◌, ◌++◌, take}
use Rattle.std.specs.Prelude.{flat_map}
use Rattle.mp_replies.specs.NearestCommand.{ranked_text}
use Rattle.mp_report.proofs.ranks.push_spaced.Given as goal

abbrev pub invariant-loop-near : goal.invariant-loop-near
invariant-loop-near l = l.text.items ≡ l.initial.text.items ++ flat_map ranked_text (take l.near-index l.list)
