use Rattle.std.proofs.Common.{refl}
use Rattle.csv.specs.Machine.{next_record}
use Rattle.csv.specs.Reading.{records_from, strip_bom}
use Rattle.csv.specs.Records.{field_at}
use Rattle.mp_replies.proofs.examples.loaded_files.Goals as goal

pub returns : goal.returns
unfolding field_at next_record records_from strip_bom
returns c = record {
  under_header = refl;
  in_their_order = refl;
  no_bytes = refl;
  header_unnamed = refl;
  missing_field = refl;
  no_file = refl;
}
