use Rattle.std.proofs.Common.{◌≡◌, take}
use Rattle.mp_stores.specs.Stores.{HaveWindow, items_in}
use Rattle.mp_commands.proofs.load_command.channels_of.Given as goal

abbrev pub invariant-loop-k : goal.invariant-loop-k
invariant-loop-k g l = record {
  items : items_in l.channels.items ≡ take l.k l.columns;
  window : HaveWindow l.plan.m l.channels.items;
}
