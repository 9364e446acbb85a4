-- What the definitions see of a profile that a program keeps: its columns.
use Rattle.mp_defs.specs.Profile.{Columns}
use Rattle.mp_partial.specs.Profiled.{Profiled}

abbrev pub columns_in : Profiled → Columns
columns_in profile = record { all = profile.all; left = profile.left; right = profile.right }
