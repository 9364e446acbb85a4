use Rattle.std.proofs.Common.{◌≡◌, take}
use Rattle.mp_bytes.specs.Fields.{fields_in}
use Rattle.mp_replies.specs.Numbers.{refs}
use Rattle.mp_lines.proofs.ReadLemmas.{AreCounted, in_front}
use Rattle.mp_lines.proofs.ref_lists.Refs.gather.Given as goal

abbrev pub invariant-loop-text : goal.invariant-loop-text
invariant-loop-text l = record {
  counted : AreCounted (fields_in l.self.field.now) (fields_in l.text-iterator.text.now) l.count;
  gathered : refs (fields_in l.self.field.now)
      ≡ in_front (take l.count l.room) (refs (fields_in l.text-iterator.text.now));
}
