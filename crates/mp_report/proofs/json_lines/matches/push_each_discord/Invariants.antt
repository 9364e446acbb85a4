use Rattle.std.proofs.Common.{take}
use Rattle.mp_replies.specs.Json.{discord_object}
use Rattle.mp_report.specs.Tokens.{tokens_of_each, Adds}
use Rattle.mp_report.proofs.json_lines.matches.push_each_discord.Given as goal

abbrev pub invariant-loop-discord : goal.invariant-loop-discord
invariant-loop-discord l = Adds l.initial.json l.json (tokens_of_each discord_object (take l.discord-index l.list))
