use Rattle.std.proofs.Common.{◌≡◌, ◌+◌, ◌*◌, ◌≤◌, ◌++◌, length, take}
use Rattle.mp_defs.specs.Window.{windows}
use Rattle.mp_stores.specs.Channels.{StaysKnown}
use Rattle.mp_stores.proofs.channels.append_each.Given as goal

abbrev pub invariant-loop-sample : goal.invariant-loop-sample
invariant-loop-sample l = record {
  items : l.stream.items ≡ l.initial.stream.items ++ take l.sample-index l.samples;
  m : l.stream.m ≡ l.initial.stream.m;
  room : length l.samples ≤ l.stream.spare + l.sample-index;
  known : StaysKnown l.initial.stream l.stream;
  rise : l.initial.stream.reads ≤ l.stream.reads;
  reads : l.stream.reads
      ≤ l.initial.stream.reads
      + l.sample-index
      * (4
      * (windows (length l.initial.stream.items + length l.samples) l.initial.stream.m + l.initial.stream.m));
}
