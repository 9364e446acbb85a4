use Rattle.csv.specs.Records.{fields_of}
use Rattle.mp_text.proofs.RecordLemmas.{between_after, left_after}
use Rattle.mp_text.proofs.records.read_record.Goals as goal

pub returns-clause-between : goal.returns-clause-between
returns-clause-between c =
    let at = c.requires in
    let said = c.in-Ok.ensures in
    between_after c.args.reader.now c.read_byte_record.new.self c.in-Ok.found (fields_of c.read_byte_record.new.row) at
    (said.reads at.untrimmed at.ready) (said.ready at.untrimmed)

pub returns-clause-next : goal.returns-clause-next
returns-clause-next c =
    let at = c.requires in
    let said = c.in-Ok.ensures in
    left_after c.args.reader.now c.read_byte_record.new.self c.in-Ok.found (fields_of c.read_byte_record.new.row) at
    (said.reads at.untrimmed at.ready) (said.ready at.untrimmed)
