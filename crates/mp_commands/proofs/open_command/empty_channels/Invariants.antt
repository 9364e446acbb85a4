use Rattle.std.proofs.Common.{◌≡◌, vec_len}
use Rattle.mp_stores.specs.Stores.{HaveWindow}
use Rattle.mp_commands.specs.Preparing.{AreEmpty}
use Rattle.mp_commands.proofs.open_command.empty_channels.Given as goal

abbrev pub invariant-loop : goal.invariant-loop
invariant-loop g l = record {
  len : vec_len l.channels ≡ l.counter;
  empty : AreEmpty l.channels.items;
  window : HaveWindow l.m l.channels.items;
}
