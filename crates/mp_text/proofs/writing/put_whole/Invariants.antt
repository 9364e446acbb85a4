use Rattle.std.proofs.Common.{◌≡◌, ◌≤◌, ◌+◌, ◌++◌, take}
use Rattle.mp_text.proofs.writing.put_whole.Given as goal

abbrev pub invariant-loop-digit : goal.invariant-loop-digit
invariant-loop-digit l = record {
  items : l.out.items ≡ l.initial.out.items ++ take l.digit-index l.digit-items;
  spare : l.initial.out.spare ≤ l.out.spare + l.digit-index;
}
