-- What is seen of the columns of all windows, or of the last ones.
use Rattle.std.specs.Prelude.{[], Some, None}
use Rattle.mp_stream.specs.Blocks.{Marked}
use Rattle.mp_stream.specs.Last.{last_room}
use Rattle.mp_stream.specs.declared.nearest.Columns.{Columns}
use Rattle.mp_stream.specs.declared.nearest.Columns.TheVariants.{All, Last}

abbrev pub seen_in : Columns → Marked
seen_in (All profile) = record {
  all = profile.all;
  left = profile.left;
  right = profile.right;
  spare = profile.spare;
  changed = profile.changed;
  first = None;
}
seen_in (Last columns) = record {
  all = [];
  left = columns.left.items;
  right = columns.right.items;
  spare = last_room columns;
  changed = [];
  first = Some columns.first;
}
