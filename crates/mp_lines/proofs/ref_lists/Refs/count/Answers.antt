use Rattle.std.proofs.Common.{rules}
use Rattle.mp_bytes.specs.Fields.{fields_in}
use Rattle.mp_lines.proofs.RefLemmas.{counted_all}
use Rattle.mp_lines.proofs.ref_lists.Refs.count.Goals as goal

pub returns : goal.returns
returns c = counted_all (fields_in c.args.self.field.now) c.loop.count c.args.self.tested (search rules)
