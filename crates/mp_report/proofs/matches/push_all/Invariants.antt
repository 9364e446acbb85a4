use Rattle.std.proofs.Common.{◌≡◌, ◌++◌, take}
use Rattle.std.specs.Prelude.{flat_map}
use Rattle.mp_replies.specs.Text.{near_text}
use Rattle.mp_report.proofs.matches.push_all.Given as goal

abbrev pub invariant-loop-near : goal.invariant-loop-near
invariant-loop-near l = l.text.items ≡ l.initial.text.items ++ flat_map near_text (take l.near-index l.list)
