-- Sums that are looked for as far as a limit.
use Rattle.std.proofs.Common.{◌≡◌, ℕ, ◌^◌, ◌<◌, ◌≤◌, Bool, true, false, refl, sym, ap, ◌∙◌, arith}
use Rattle.std.specs.Prelude.{◌↔◌, IsTrue, not, ℤ, Option, Some, None, IfSome, IfNone, is_some, nat_le, if◌then◌else◌}
use Rattle.std.proofs.lemmas.Bool.Decides.{nat_tests}
use Rattle.mp_sums.specs.Sums.{square_sum, IsSum, at_most}
use Rattle.mp_sums.specs.SumLaws.{is_small}

within_test : (s limit : ℕ) → s ≤ limit → nat_le s limit ≡ true
within_test s limit le = grind (arith, nat_tests)

beyond_test : (s limit : ℕ) → limit < s → nat_le s limit ≡ false
beyond_test s limit lt = grind (arith, nat_tests)

-- what was found is the sum, where that is within the limit
pub found_at_most : (found : Option ℕ) (limit m : ℕ) (x : ℕ → ℤ) (i : ℕ) (y : ℕ → ℤ) (j : ℕ)
    → IfSome found (λ sum. IsSum m x i y j sum) → IfSome found (λ sum. sum ≤ limit)
    → IfNone found (limit < square_sum m x i y j) → found ≡ at_most limit (square_sum m x i y j)
found_at_most None limit m x i y j h le more =
    let s : ℕ = square_sum m x i y j in
    sym (ap (λ b. if b then Some s else None) (beyond_test s limit more))
found_at_most (Some sum) limit m x i y j h le more =
    let s : ℕ = square_sum m x i y j in
    ap Some h.sum_is ∙ sym (ap (λ b. if b then Some s else None) (within_test s limit (omega (arith, le, h.sum_is))))

-- none was found exactly where the sum is beyond the limit
pub none_beyond : (found : Option ℕ) (none : Bool) (limit m : ℕ) (x : ℕ → ℤ) (i : ℕ) (y : ℕ → ℤ) (j : ℕ)
    → is_some found ≡ not none → IfSome found (λ sum. IsSum m x i y j sum) → IfSome found (λ sum. sum ≤ limit)
    → IfNone found (limit < square_sum m x i y j) → IsTrue none ↔ (limit < square_sum m x i y j)
none_beyond None true limit m x i y j e h le more = (λ _. more, λ _. refl)
none_beyond None false limit m x i y j e h le more = absurd (cc)
none_beyond (Some sum) true limit m x i y j e h le more = absurd (cc)
none_beyond (Some sum) false limit m x i y j e h le more =
    (λ is. absurd (cc), λ lt. absurd (omega (arith, lt, le, h.sum_is)))

-- what was found is small
pub found_small : (found : Option ℕ) (m : ℕ) (x : ℕ → ℤ) (i : ℕ) (y : ℕ → ℤ) (j : ℕ) → m ≤ 16384
    → IfSome found (λ sum. IsSum m x i y j sum) → IfSome found (λ sum. sum < 2 ^ 110)
found_small None m x i y j short h = tt
found_small (Some sum) m x i y j short h = omega (arith, is_small m x i y j sum h, short)
