use Rattle.mp_requests.proofs.DiscordLemmas.{AreMoved}
use Rattle.mp_requests.proofs.requests.discords_command.move_by.Given as goal

abbrev pub invariant-loop-discord : goal.invariant-loop-discord
invariant-loop-discord l = AreMoved l.first l.initial.found l.found l.discord-index
