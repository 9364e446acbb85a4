-- Windows that name each other in two columns.
use Rattle.std.proofs.Common.{◌≡◌, ℕ, Bool, true, false, List, Option, None, Some, refl, sym, ap, ◌∙◌, arith}
use Rattle.std.specs.Prelude.{option_and_then, if◌then◌else◌, is_none, is_some, not}
use Rattle.std.proofs.lemmas.Bool.Decides.{nat_tests}
use Rattle.std.proofs.lemmas.Option.{same_Some}
use Rattle.mp_nums.specs.declared.nearest.Near.{Near}
use Rattle.mp_results.specs.Columns.{index_at, is_number, if_named_back, named_back}

is_number-tells : (o : Option ℕ) (j : ℕ) → is_number o j ≡ true → o ≡ Some j
is_number-tells None j is = cc
is_number-tells (Some i) j is = ap Some (grind (arith, nat_tests))

is_number-same : (o : Option ℕ) (j : ℕ) → o ≡ Some j → is_number o j ≡ true
is_number-same o j is = rw is (grind (arith, nat_tests))

if_named_back-by : (b : Bool) (k l : ℕ) → (if b then Some k else None) ≡ Some l → (b ≡ true) × (k ≡ l)
if_named_back-by true k l is = (refl, same_Some k l is)
if_named_back-by false k l is = cc

and_then-tells : (column other : List (Option Near)) (j k : ℕ) (o : Option ℕ) → index_at column j ≡ o
    → option_and_then (if_named_back other j) o ≡ Some k → (index_at column j ≡ Some k) × (index_at other k ≡ Some j)
and_then-tells column other j k None at is = cc
and_then-tells column other j k (Some i) at is =
    let by = if_named_back-by (is_number (index_at other i) j) i k is in
    let there = is_number-tells (index_at other i) j by.0 in
    (at ∙ ap Some by.1, ap (index_at other) (sym by.1) ∙ there)

-- each stands at the other
pub named_back-tells : (column other : List (Option Near)) (j k : ℕ) → named_back column other j ≡ Some k
    → (index_at column j ≡ Some k) × (index_at other k ≡ Some j)
named_back-tells column other j k is = and_then-tells column other j k (index_at column j) refl is

pub named_back-same : (column other : List (Option Near)) (j k : ℕ) → index_at column j ≡ Some k
    → index_at other k ≡ Some j
    → named_back column other j ≡ Some k
named_back-same column other j k there back = rw (there, is_number-same (index_at other k) j back) refl

-- and so the other way round
pub named_back-back : (column other : List (Option Near)) (j k : ℕ) → named_back column other j ≡ Some k
    → named_back other column k ≡ Some j
named_back-back column other j k is =
    let tells = named_back-tells column other j k is in
    named_back-same other column k j tells.1 tells.0

not_not : (b : Bool) → not (not b) ≡ b
not_not true = refl
not_not false = refl

-- what a test for none tells
pub is_none-is : (o there : Option ℕ) (b c : Bool) → is_some o ≡ not b → b ≡ c → o ≡ there → is_none there ≡ c
is_none-is o there b c test is same = ap is_none (sym same) ∙ ap not test ∙ not_not b ∙ is
