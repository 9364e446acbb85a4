-- Why the nearest window is the lesser of the nearest ones on both sides.
use Rattle.std.proofs.Common.{◌≡◌, ℕ, [], ◌∷◌, Bool, false, sym, ◌∙◌, arith, subst}
use Rattle.std.specs.Prelude.{◌&&◌, ◌||◌, nat_lt}
use Rattle.std.proofs.lemmas.Bool.Decides.{nat_tests}
use Rattle.mp_defs.specs.Series.{Series}
use Rattle.mp_defs.specs.Window.{is_allowed}
use Rattle.mp_defs.specs.Profile.{profile, matrix_profile}
use Rattle.mp_defs.specs.Laws.{IsIrreflexive}
use Rattle.mp_defs.specs.NearestLaws.{zone_is_mutual}
use Rattle.mp_defs.specs.ColumnLaws.{columns_by_choice}
use Rattle.mp_partial.specs.Values.{Column, Value, merged_column}
use Rattle.mp_tiles.specs.Laws.{ProfilesAreOfBothSides}
use Rattle.mp_tiles.specs.Pieces.{sides_value}

-- of two windows that may be compared the other one starts earlier or later
on_a_side : (t : Bool) (i j : ℕ) → (i ≡ j → t ≡ false) → t ≡ ((t && nat_lt j i) || (t && nat_lt i j))
on_a_side t i j h = grind (arith, nat_tests)

lesser : (may : ℕ → ℕ → Bool) → IsIrreflexive may → (m : ℕ) (a : Series)
    → (profile may m a).all ≡ merged_column (profile may m a).left (profile may m a).right
lesser may irreflexive m a =
    columns_by_choice.same m may (λ i j. (may i j && nat_lt j i) || (may i j && nat_lt i j)) a a
    (λ i j _ _. on_a_side (may i j) i j (λ e. subst (λ k. may i k ≡ false) e (irreflexive i)))
    ∙ columns_by_choice.either m (λ i j. may i j && nat_lt j i) (λ i j. may i j && nat_lt i j) a a

pub profiles_are_of_both_sides : ProfilesAreOfBothSides
profiles_are_of_both_sides = record {
  any = lesser;
  own = λ m a. lesser (is_allowed m) (zone_is_mutual.irreflexive m) m a;
}

-- where columns are both sides of the matrix profile, their lesser is the nearest of all
pub all_of_both : (left right : Column) (m : ℕ) (a : Series) → left ∷ right ∷ [] ≡ sides_value (matrix_profile m a)
    → merged_column left right ≡ (matrix_profile m a).all
all_of_both left right m a e =
    let p = matrix_profile m a in
    sym (profiles_are_of_both_sides.own m a ∙ same left right p.left p.right e)
  where
    same : (x y x' y' : Column) → ◌≡◌ {A = Value} (x ∷ y ∷ []) (x' ∷ y' ∷ []) → merged_column x' y' ≡ merged_column x y
    same x y x' y' e = cc
