use Rattle.std.proofs.Common.{◌≡◌, [], replicate}
use Rattle.mp_stores.specs.Stores.{lists_in}
use Rattle.mp_commands.proofs.append_command.empty_lists.Given as goal

abbrev pub invariant-loop : goal.invariant-loop
invariant-loop l = lists_in l.lists.items ≡ replicate l.counter []
