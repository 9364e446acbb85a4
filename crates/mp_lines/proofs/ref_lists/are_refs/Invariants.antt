use Rattle.mp_bytes.specs.Fields.{fields_in}
use Rattle.mp_replies.specs.Numbers.{ref}
use Rattle.mp_lines.proofs.ReadLemmas.{AreGoneOver}
use Rattle.mp_lines.proofs.ref_lists.are_refs.Given as goal

abbrev pub invariant-loop-text : goal.invariant-loop-text
invariant-loop-text l = AreGoneOver ref (fields_in l.field) (fields_in l.text-iterator.text.now)
