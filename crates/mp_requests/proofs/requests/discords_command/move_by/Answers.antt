use Rattle.std.proofs.Common.{arith}
use Rattle.mp_requests.proofs.DiscordLemmas.{one_raised, raised_fits}
use Rattle.mp_requests.proofs.requests.discords_command.move_by.Goals as goal

pub overflow_add-discord : goal.overflow_add-discord
overflow_add-discord c =
    raised_fits c.args.first c.loop-discord.discord-index c.args.found.now c.loop-discord.found _
    (omega (arith, c.loop-discord-test.true, c.loop-discord.auto.found)) (omega (arith, c.loop-discord.auto.found))
    c.loop-discord.invariant c.requires

pub loop-discord-preserved : goal.loop-discord-preserved
loop-discord-preserved c =
    one_raised c.args.first c.loop-discord.discord-index c.args.found.now c.loop-discord.found _
    (omega (arith, c.loop-discord-test.true, c.loop-discord.auto.found)) (omega (arith, c.loop-discord.auto.found))
    c.loop-discord.invariant
