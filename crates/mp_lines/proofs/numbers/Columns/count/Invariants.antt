use Rattle.std.specs.Prelude.{option_map}
use Rattle.mp_bytes.specs.Values.{values_in, values_left}
use Rattle.mp_lines.proofs.ReadLemmas.{AreCounted}
use Rattle.mp_lines.proofs.numbers.Columns.count.Given as goal

abbrev pub invariant-loop : goal.invariant-loop
invariant-loop l =
    AreCounted (values_in l.self.field.now) (values_left (option_map (λ text. text.now) l.iterator'.left)) l.count
