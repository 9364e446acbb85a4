use Rattle.std.proofs.Common.{◌≡◌, ◌<◌, ℕ, Bool, List, ap, arith, length, rules}
use Rattle.std.proofs.lemmas.Bool.Decides.{nat_tests}
use Rattle.std.specs.Option.{IsSomeAnd}
use Rattle.std.specs.Prelude.{Option, Some, None}
use Rattle.mp_nums.specs.declared.widths.Width.{Width}
use Rattle.mp_replies.specs.declared.causes.Cause.TheVariants.{FileSize}
use Rattle.mp_replies.specs.Conditions.{first_cause}
use Rattle.mp_replies.specs.Limits.{max_file}
use Rattle.mp_replies.specs.LoadCommand.{file_conditions}
use Rattle.mp_commands.proofs.FileLemmas.{absent_is, large_file, no_file, too_large_by, too_large_is}
use Rattle.mp_commands.proofs.load_command.fetch_file.Goals as goal

pub returns-in-Err-Absent-clause-refused : goal.returns-in-Err-Absent-clause-refused
returns-in-Err-Absent-clause-refused g c = record {
  told = λ files is width scale cols header.
      ap (λ found. first_cause (file_conditions width scale cols header found))
      (c.in-Err-Absent.ensures.absent (search rules) files is);
  files = no_file;
  some = λ width scale cols header. absent_is width scale cols header c.args.name.now;
}

found_too_large : (width : Width) (scale : ℕ) (cols : List ℕ) (header : Bool) (found : Option (List ℕ))
    → IsSomeAnd found (λ bytes. max_file < length bytes)
    → first_cause (file_conditions width scale cols header found) ≡ Some FileSize
found_too_large width scale cols header None more = absurd more
found_too_large width scale cols header (Some bytes) more = too_large_by width scale cols header bytes (grind (arith, nat_tests))

pub returns-in-Err-TooLarge-clause-refused : goal.returns-in-Err-TooLarge-clause-refused
returns-in-Err-TooLarge-clause-refused g c = record {
  told = λ files is width scale cols header.
      found_too_large width scale cols header _ (c.in-Err-TooLarge.ensures.too_large (search rules) files is);
  files = large_file c.args.name.now;
  some = λ width scale cols header. too_large_is width scale cols header c.args.name.now;
}
