-- The conditions of each command stand in the order of the words.
use Rattle.std.proofs.Common.{◌≡◌, ℕ, List, [], ◌∷◌, ◌++◌, lit<, refl, true, false, arith}
use Rattle.std.specs.Prelude.{Bool, ◌&&◌, nat_lt, Option, Some, None}
use Rattle.std.proofs.lemmas.Bool.Decides.{nat_tests}
use Rattle.mp_replies.specs.State.{State}
use Rattle.mp_replies.specs.Command.{Load, LoadLazy}
use Rattle.mp_replies.specs.Conditions.{Condition}
use Rattle.mp_replies.specs.LazyCommand.{lazy_conditions, lazy_file_conditions}
use Rattle.mp_replies.specs.LoadCommand.{file_in, file_conditions, load_conditions}
use Rattle.mp_replies.specs.Laws.{StandInOrder, WordsStandInOrder, rank}
use Rattle.mp_replies.specs.Step.{conditions}

loaded : (state : State) (slot : ℕ) (columns : List ℕ) (header : Bool) (file : Option (List ℕ))
    → StandInOrder
    (load_conditions state.stores slot columns
    ++ file_conditions state.mode.width state.scale columns header file)
loaded state slot columns header None = (lit< tt, (lit< tt, (lit< tt, (lit< tt, tt))))
loaded state slot columns header (Some bytes) = (lit< tt, (lit< tt, (lit< tt, (lit< tt, (lit< tt, (lit< tt, tt))))))

loaded_lazy : (state : State) (slot column : ℕ) (header : Bool) (file : Option (List ℕ))
    → StandInOrder (lazy_conditions slot ++ lazy_file_conditions state.mode.width state.scale column header file)
loaded_lazy state slot column header None = (lit< tt, tt)
loaded_lazy state slot column header (Some bytes) = (lit< tt, (lit< tt, (lit< tt, tt)))

-- whether each word stands before the next
abbrev in_order : List Condition → Bool
in_order [] = true
in_order (last ∷ []) = true
in_order (first ∷ next ∷ others) = nat_lt (rank first.word) (rank next.word) && in_order (next ∷ others)

ordered_by : (first next : Condition) (others : List Condition) (here rest : Bool)
    → nat_lt (rank first.word) (rank next.word) ≡ here → (rest ≡ true → StandInOrder (next ∷ others))
    → (here && rest) ≡ true → StandInOrder (first ∷ next ∷ others)
ordered_by first next others true true is h e = (grind (arith, nat_tests), h refl)
ordered_by first next others true false is h e = absurd (cc e)
ordered_by first next others false rest is h e = absurd (cc e)

ordered : (conditions : List Condition) → in_order conditions ≡ true → StandInOrder conditions
ordered [] e = tt
ordered (last ∷ []) e = tt
ordered (first ∷ next ∷ others) e =
    ordered_by first next others (nat_lt (rank first.word) (rank next.word)) (in_order (next ∷ others)) refl
    (ordered (next ∷ others)) e

-- they are told by their words alone, so that a command needs no line of its own here
pub ranks : WordsStandInOrder
ranks state files (Load slot file columns header) = loaded state slot columns header (file_in files file)
ranks state files (LoadLazy slot file column header) = loaded_lazy state slot column header (file_in files file)
ranks state files other = ordered (conditions state files other) refl
