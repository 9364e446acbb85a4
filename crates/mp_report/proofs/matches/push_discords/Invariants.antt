use Rattle.std.proofs.Common.{◌≡◌, ◌++◌, take}
use Rattle.std.specs.Prelude.{flat_map}
use Rattle.mp_replies.specs.DiscordsCommand.{discord_text}
use Rattle.mp_report.proofs.matches.push_discords.Given as goal

abbrev pub invariant-loop-discord : goal.invariant-loop-discord
invariant-loop-discord l = l.text.items ≡ l.initial.text.items ++ flat_map discord_text (take l.discord-index l.list)
