-- What a shelf gives for a load.
use Rattle.std.specs.Prelude.{◌≡◌, ℕ, Bool, true, false, List, Option, Some}
use Rattle.mp_nums.specs.declared.widths.Width.{Width}
use Rattle.mp_replies.specs.declared.causes.Cause.{Cause}
use Rattle.mp_replies.specs.Conditions.{first_cause}
use Rattle.mp_replies.specs.LoadCommand.{file_conditions, file_in}
use Rattle.mp_replies.specs.State.{Files}
use Rattle.mp_outside.specs.declared.shelves.Shelf as shelves
use Rattle.mp_commands.specs.Preparing.{IsAsked}

-- by these files a load of this file is refused by this word, whatever its columns
abbrev pub FileRefuses : Files → List ℕ → Cause → Type 0
FileRefuses files name cause =
    (width : Width) (scale : ℕ) (cols : List ℕ) (header : Bool)
    → first_cause (file_conditions width scale cols header (file_in files name)) ≡ Some cause

-- it is by the files that a shelf tells, and by some, which no shelf needs to tell
pub record IsRefusedFile (tells : Option Files) (name : List ℕ) (cause : Cause) : Type 0 where
  pub told : (files : Files) → tells ≡ Some files → FileRefuses files name cause
  pub files : Files
  pub some : FileRefuses files name cause

-- what is known of the shelf, by other words for what is needed and what failed
pub reworded : {H : Type 0} {shelf : shelves.Ghosts H} {needs also : Bool → Type 0} {failed stopped : Type 0}
    {old new : H} → IsAsked shelf needs failed old new → ((file : Bool) → also file → needs file)
    → (stopped → failed) → (failed → stopped) → IsAsked shelf also stopped old new
reworded asked wants to from = record {
  files = asked.files;
  fault = λ stop. asked.fault (to stop);
  calm = λ none. asked.calm (λ failed. none (from failed));
  fetched = λ also. asked.fetched (wants true also);
  unfetched = λ also. asked.unfetched (wants false also);
  no_fault = λ also stop. asked.no_fault (wants false also) (to stop);
}
