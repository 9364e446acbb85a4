-- What holds of the lesser of two.
use Rattle.std.specs.Prelude.{◌≡◌, Option, Some, None}
use Rattle.std.proofs.Common.{arith, refl}
use Rattle.std.proofs.lemmas.Bool.Decides.{nat_tests}
use Rattle.mp_nums.specs.declared.nearest.Near.{Near}
use Rattle.mp_nums.specs.Near.{nearer_of}

abbrev pub IsCommutative : Type 0
IsCommutative = (a b : Option Near) → nearer_of a b ≡ nearer_of b a

abbrev pub IsAssociative : Type 0
IsAssociative = (a b c : Option Near) → nearer_of (nearer_of a b) c ≡ nearer_of a (nearer_of b c)

abbrev pub IsIdempotent : Type 0
IsIdempotent = (a : Option Near) → nearer_of a a ≡ a

abbrev pub HasUnit : Type 0
HasUnit = (a : Option Near) → (nearer_of None a ≡ a) × (nearer_of a None ≡ a)

-- ---- why they hold

pub nearer_commutes : IsCommutative
nearer_commutes None None = refl
nearer_commutes None (Some b) = refl
nearer_commutes (Some a) None = refl
nearer_commutes (Some a) (Some b) = grind (arith, nat_tests)

pub nearer_associates : IsAssociative
nearer_associates a b c = grind (arith, nat_tests)

pub nearer_repeats : IsIdempotent
nearer_repeats a = grind (arith, nat_tests)

pub nearer_with_none : HasUnit
nearer_with_none None = (refl, refl)
nearer_with_none (Some a) = (refl, refl)
