use Rattle.std.proofs.Common.{rules}
use Rattle.mp_lines.proofs.ColumnLemmas.{counted_all}
use Rattle.mp_lines.proofs.numbers.Columns.count.Goals as goal

pub returns : goal.returns
returns c = counted_all c.args.self.field.now c.loop.count c.args.self.tested (search rules)
