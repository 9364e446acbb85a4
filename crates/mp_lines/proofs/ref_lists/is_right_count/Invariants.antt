use Rattle.mp_bytes.specs.Fields.{fields_in}
use Rattle.mp_lines.proofs.ReadLemmas.{AreFew}
use Rattle.mp_lines.proofs.ref_lists.is_right_count.Given as goal

abbrev pub invariant-loop : goal.invariant-loop
invariant-loop l = AreFew 64 (fields_in l.field) (fields_in l.iterator'.text.now) l.count
