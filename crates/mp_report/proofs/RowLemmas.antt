-- One window more.
use Rattle.std.proofs.Common.{◌≡◌, ℕ, zero, suc, ◌+◌, List, [], ◌∷◌, ◌++◌, refl, arith, ap, ◌∙◌, append-nil}
use Rattle.std.specs.Prelude.{flat_map}
use Rattle.std.specs.List.{range_with_len}
use Rattle.std.proofs.lemmas.Grind.{flat_map-append}

range_more : (a n : ℕ) → range_with_len a (suc n) ≡ range_with_len a n ++ (a + n) ∷ []
range_more a zero = let e : a + zero ≡ a = omega arith in rw e refl
range_more a (suc n) = let e : a + suc n ≡ a + 1 + n = omega arith in rw e (ap (λ xs. a ∷ xs) (range_more (a + 1) n))

pub rows_more : {T : Type 0} (f : ℕ → List T) (n : ℕ)
    → flat_map f (range_with_len 0 (n + 1)) ≡ flat_map f (range_with_len 0 n) ++ f n
rows_more f n =
    let more : n + 1 ≡ suc n = omega arith in
    let here : 0 + n ≡ n = omega arith in
    ap (flat_map f) (ap (range_with_len 0) more ∙ range_more 0 n)
    ∙ (flat_map-append f (range_with_len 0 n) ((0 + n) ∷ [])
    ∙ ap (λ xs. flat_map f (range_with_len 0 n) ++ xs) (append-nil (f (0 + n)) ∙ ap f here))
