use Rattle.mp_bytes.specs.Fields.{fields_in}
use Rattle.mp_lines.proofs.ReadLemmas.{AreCounted}
use Rattle.mp_lines.proofs.ref_lists.Refs.count.Given as goal

abbrev pub invariant-loop : goal.invariant-loop
invariant-loop l = AreCounted (fields_in l.self.field.now) (fields_in l.iterator'.text.now) l.count
