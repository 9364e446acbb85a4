-- Operations on vectors of eight numbers, lane by lane.
use Rattle.std.proofs.Common.{◌≡◌, ℕ, zero, suc, ◌+◌, ◌-◌, ◌*◌, ◌%◌, ◌^◌, ◌<◌, ◌≤◌, List, [], ◌∷◌, length, get_or, drop}
use Rattle.std.proofs.Common.{refl, sym, ap, ◌∙◌, arith, map, bit_and, w32, w64, true, false, cond, min, max}
use Rattle.std.specs.Prelude.{replicate}
use Rattle.std.specs.Simd.Lanes.{zip2, chunk, fold_l, sel_l, top}
use lib.Dec.{ltb, leb}
use Rattle.std.proofs.lemmas.Bool.Decides.{nat_tests}
use Rattle.std.proofs.lemmas.Nat.{and_le_l, and_le_r}
use Rattle.std.proofs.lemmas.Simd.{length-zip2, get_or-zip2, length-chunk, get_or-chunk, get_or-replicate}
use Rattle.std.proofs.lemmas.Simd.{tops_compared, length-sel_l, get_or-sel_l}
use Rattle.std.proofs.lemmas.List.{length-map, get_or-map, length-drop, get_or-drop}
use Rattle.mp_skips.specs.Sums.{number_in, outside}
use Rattle.mp_skips.specs.Lanes.{HasLanes}

pub lanes_all : (n : ℕ) → HasLanes (replicate 8 n) (λ _. n)
lanes_all n = record { count = refl; each = λ t lt. get_or-replicate 8 t n 0 lt }

pub lanes_loaded : (xs : List ℕ) (p : ℕ) → p + 8 ≤ length xs
    → HasLanes (chunk 0 8 (drop p xs)) (λ t. number_in xs (p + t))
lanes_loaded xs p le = record {
  count = length-chunk 0 8 (drop p xs) (omega (arith, length-drop p xs));
  each = λ t lt. get_or-chunk 0 8 (drop p xs) t 0 lt ∙ get_or-drop p xs (0 + t) 0 ∙ ap (number_in xs) (omega arith);
}

pub lanes_own : (xs : List ℕ) → length xs ≡ 8 → HasLanes xs (λ t. number_in xs t)
lanes_own xs l = record { count = l; each = λ t lt. refl }

pub lanes_zip : (h : ℕ → ℕ → ℕ) (a b : List ℕ) (f g : ℕ → ℕ) → HasLanes a f → HasLanes b g
    → HasLanes (zip2 h a b) (λ t. h (f t) (g t))
lanes_zip h a b f g p q = record {
  count = length-zip2 h a b (p.count ∙ sym q.count) ∙ p.count;
  each = λ t lt. get_or-zip2 h a b t 0 0 0 (omega (arith, p.count)) (omega (arith, q.count))
      ∙ ap (λ x. h x (get_or b t 0)) (p.each t lt) ∙ ap (h (f t)) (q.each t lt);
}

pub lanes_map : (h : ℕ → ℕ) (a : List ℕ) (f : ℕ → ℕ) → HasLanes a f → HasLanes (map h a) (λ t. h (f t))
lanes_map h a f p = record {
  count = length-map a h ∙ p.count;
  each = λ t lt. get_or-map h a t 0 0 (omega (arith, p.count)) ∙ ap h (p.each t lt);
}

pub lanes_same : (v : List ℕ) (f g : ℕ → ℕ) → HasLanes v f → ((t : ℕ) → t < 8 → f t ≡ g t) → HasLanes v g
lanes_same v f g p e = record { count = p.count; each = λ t lt. p.each t lt ∙ e t lt }

-- ---- one lane

abbrev pub add_32 : ℕ → ℕ → ℕ
add_32 x y = (x + y) % 2 ^ 32

abbrev pub sub_32 : ℕ → ℕ → ℕ
sub_32 x y = (x + (2 ^ 32 - y)) % 2 ^ 32

abbrev pub add_64 : ℕ → ℕ → ℕ
add_64 x y = (x + y) % 2 ^ 64

abbrev pub sub_64 : ℕ → ℕ → ℕ
sub_64 x y = (x + (2 ^ 64 - y)) % 2 ^ 64

abbrev pub mul_64 : ℕ → ℕ → ℕ
mul_64 x y = (x * y) % 2 ^ 64

-- ---- a difference that stops at 0

abbrev pub saturating : List ℕ → List ℕ → List ℕ
saturating x y = zip2 sub_32 (sel_l (map (top 31) (zip2 (λ a b. cond (ltb a b) (2 ^ 32 - 1) 0) x y)) y x) y

greater_less : (x y : ℕ) → x < 2 ^ 32 → y < 2 ^ 32 → sub_32 (cond (ltb x y) y x) y ≡ x - y
greater_less x y a b = grind (arith, nat_tests)

picked : (x y : List ℕ) (f g : ℕ → ℕ) → HasLanes x f → HasLanes y g
    → HasLanes (sel_l (map (top 31) (zip2 (λ a b. cond (ltb a b) (2 ^ 32 - 1) 0) x y)) y x)
    (λ t. cond (ltb (f t) (g t)) (g t) (f t))
picked x y f g p q =
    let is = ap (λ ms. sel_l ms y x) (tops_compared w32 ltb x y) in
    let l : length (zip2 ltb x y) ≡ 8 = length-zip2 ltb x y (p.count ∙ sym q.count) ∙ p.count in
    record {
      count = ap length is ∙ length-sel_l (zip2 ltb x y) y x (l ∙ sym q.count) (l ∙ sym p.count) ∙ l;
      each = λ t lt. ap (λ v. get_or v t 0) is ∙ get_or-sel_l (zip2 ltb x y) y x t 0 (omega (arith, l))
          (omega (arith, q.count)) (omega (arith, p.count))
          ∙ ap (λ b. cond b (get_or y t 0) (get_or x t 0))
          (get_or-zip2 ltb x y t 0 0 false (omega (arith, p.count)) (omega (arith, q.count)))
          ∙ ap (λ n. cond (ltb n (get_or y t 0)) (get_or y t 0) n) (p.each t lt)
          ∙ ap (λ n. cond (ltb (f t) n) n (f t)) (q.each t lt);
    }

pub lanes_saturating : (x y : List ℕ) (f g : ℕ → ℕ) → HasLanes x f → HasLanes y g → ((t : ℕ) → t < 8 → f t < 2 ^ 32)
    → ((t : ℕ) → t < 8 → g t < 2 ^ 32)
    → HasLanes (saturating x y) (λ t. f t - g t)
lanes_saturating x y f g p q a b =
    lanes_same _ (λ t. sub_32 (cond (ltb (f t) (g t)) (g t) (f t)) (g t)) _
    (lanes_zip sub_32 _ y (λ t. cond (ltb (f t) (g t)) (g t) (f t)) g (picked x y f g p q) q)
    (λ t lt. greater_less (f t) (g t) (a t lt) (b t lt))

-- ---- the squares of eight groups

abbrev pub gaps_of : ℕ → List ℕ → List ℕ → ℕ → List ℕ
gaps_of number least greatest p = zip2 add_32 (saturating (replicate 8 number) (chunk 0 8 (drop p greatest)))
    (saturating (chunk 0 8 (drop p least)) (replicate 8 number))

gap_fits : (p least greatest : ℕ) → p < 2 ^ 32 → least < 2 ^ 32 → least ≤ greatest
    → add_32 (p - greatest) (least - p) ≡ outside p least greatest
gap_fits p least greatest a b c = omega (arith, a, b, c)

lanes_gaps : (number : ℕ) (least greatest : List ℕ) (p : ℕ) → number < 2 ^ 32 → p + 8 ≤ length least
    → p + 8 ≤ length greatest
    → ((t : ℕ) → number_in least t < 2 ^ 32) → ((t : ℕ) → number_in greatest t < 2 ^ 32)
    → ((t : ℕ) → t < 8 → number_in least (p + t) ≤ number_in greatest (p + t))
    → HasLanes (gaps_of number least greatest p)
    (λ t. outside number (number_in least (p + t)) (number_in greatest (p + t)))
lanes_gaps number least greatest p n l g a b c =
    lanes_same _ (λ t. add_32 (number - number_in greatest (p + t)) (number_in least (p + t) - number)) _
    (lanes_zip add_32 _ _ (λ t. number - number_in greatest (p + t)) (λ t. number_in least (p + t) - number)
    (lanes_saturating (replicate 8 number) (chunk 0 8 (drop p greatest)) (λ _. number)
    (λ t. number_in greatest (p + t)) (lanes_all number) (lanes_loaded greatest p g) (λ t lt. n)
    (λ t lt. b (p + t)))
    (lanes_saturating (chunk 0 8 (drop p least)) (replicate 8 number) (λ t. number_in least (p + t)) (λ _. number)
    (lanes_loaded least p l) (lanes_all number) (λ t lt. a (p + t)) (λ t lt. n)))
    (λ t lt. gap_fits number (number_in least (p + t)) (number_in greatest (p + t)) n (a (p + t)) (c t lt))

square_fits : (b g : ℕ) → b + g * g < 2 ^ 63 → add_64 b (mul_64 g g) ≡ b + g * g
square_fits b g lt = omega (arith, lt)

pub squares_added : (sums least greatest : List ℕ) (number p : ℕ) → length sums ≡ 8 → number < 2 ^ 32
    → p + 8 ≤ length least → p + 8 ≤ length greatest
    → ((t : ℕ) → number_in least t < 2 ^ 32) → ((t : ℕ) → number_in greatest t < 2 ^ 32)
    → ((t : ℕ) → t < 8 → number_in least (p + t) ≤ number_in greatest (p + t))
    → ((t : ℕ) → t < 8 → number_in sums t + outside number (number_in least (p + t))
    (number_in greatest (p + t)) * outside number (number_in least (p + t)) (number_in greatest (p + t)) < 2 ^ 63)
    → HasLanes (zip2 add_64 sums (zip2 mul_64 (map (λ n. n) (gaps_of number least greatest p))
    (map (λ n. n) (gaps_of number least greatest p))))
    (λ t. number_in sums t + outside number (number_in least (p + t)) (number_in greatest (p + t)) * outside number
    (number_in least (p + t)) (number_in greatest (p + t)))
squares_added sums least greatest number p k n l g a b c fits =
    let gaps = lanes_map (λ z. z) _ _ (lanes_gaps number least greatest p n l g a b c) in
    lanes_same _ (λ t. add_64 (number_in sums t)
    (mul_64 (outside number (number_in least (p + t)) (number_in greatest (p + t)))
    (outside number (number_in least (p + t)) (number_in greatest (p + t))))) _
    (lanes_zip add_64 sums _ (λ t. number_in sums t)
    (λ t. mul_64 (outside number (number_in least (p + t)) (number_in greatest (p + t)))
    (outside number (number_in least (p + t)) (number_in greatest (p + t)))) (lanes_own sums k)
    (lanes_zip mul_64 _ _ (λ t. outside number (number_in least (p + t)) (number_in greatest (p + t)))
    (λ t. outside number (number_in least (p + t)) (number_in greatest (p + t))) gaps gaps))
    (λ t lt. square_fits (number_in sums t) (outside number (number_in least (p + t)) (number_in greatest (p + t)))
    (fits t lt))

-- ---- the squares of eight diagonals

abbrev pub apart : ℕ → List ℕ → ℕ → ℕ → ℕ → ℕ
apart number numbers slack p t = outside number (number_in numbers (p + t)) (number_in numbers (p + t)) - slack

outside_small : (p q : ℕ) → p < 2 ^ 32 → q < 2 ^ 32 → outside p q q < 2 ^ 32
outside_small p q a b = omega (arith, a, b)

lanes_apart : (number : ℕ) (numbers : List ℕ) (slack p : ℕ) → number < 2 ^ 32 → slack < 2 ^ 32
    → p + 8 ≤ length numbers → ((t : ℕ) → number_in numbers t < 2 ^ 32)
    → HasLanes (saturating (gaps_of number numbers numbers p) (replicate 8 slack)) (apart number numbers slack p)
lanes_apart number numbers slack p n s l a =
    lanes_saturating (gaps_of number numbers numbers p) (replicate 8 slack)
    (λ t. outside number (number_in numbers (p + t)) (number_in numbers (p + t))) (λ _. slack)
    (lanes_gaps number numbers numbers p n l l a a (λ t lt. omega arith)) (lanes_all slack)
    (λ t lt. outside_small number (number_in numbers (p + t)) n (a (p + t))) (λ t lt. s)

pub gaps_added : (sums numbers : List ℕ) (number slack p : ℕ) → length sums ≡ 8 → number < 2 ^ 32 → slack < 2 ^ 32
    → p + 8 ≤ length numbers → ((t : ℕ) → number_in numbers t < 2 ^ 32)
    → ((t : ℕ) → t < 8
    → number_in sums t + apart number numbers slack p t * apart number numbers slack p t < 2 ^ 63)
    → HasLanes (zip2 add_64 sums
    (zip2 mul_64 (map (λ n. n) (saturating (gaps_of number numbers numbers p) (replicate 8 slack)))
    (map (λ n. n) (saturating (gaps_of number numbers numbers p) (replicate 8 slack)))))
    (λ t. number_in sums t + apart number numbers slack p t * apart number numbers slack p t)
gaps_added sums numbers number slack p k n s l a fits =
    let gaps = lanes_map (λ z. z) _ _ (lanes_apart number numbers slack p n s l a) in
    lanes_same _ (λ t. add_64 (number_in sums t)
    (mul_64 (apart number numbers slack p t) (apart number numbers slack p t))) _
    (lanes_zip add_64 sums _ (λ t. number_in sums t)
    (λ t. mul_64 (apart number numbers slack p t) (apart number numbers slack p t)) (lanes_own sums k)
    (lanes_zip mul_64 _ _ (apart number numbers slack p) (apart number numbers slack p) gaps gaps))
    (λ t lt. square_fits (number_in sums t) (apart number numbers slack p t) (fits t lt))

-- ---- limits

fold_within : (n : ℕ) (xs : List ℕ) → fold_l bit_and n xs ≤ n
fold_within n [] = omega arith
fold_within n (x ∷ xs) = omega (arith, fold_within (bit_and n x) xs, and_le_l n x)

fold_below : (n : ℕ) (xs : List ℕ) (t : ℕ) → t < length xs → fold_l bit_and n xs ≤ get_or xs t 0
fold_below n [] t lt = absurd (omega arith)
fold_below n (x ∷ xs) zero lt = omega (arith, fold_within (bit_and n x) xs, and_le_r n x)
fold_below n (x ∷ xs) (suc t) lt = fold_below (bit_and n x) xs t (omega arith)

abbrev pub below_of : List ℕ → ℕ → ℕ → List ℕ → List ℕ
below_of limits p limit sums = zip2 bit_and (zip2 sub_64 (replicate 8 limit) sums)
    (zip2 sub_64 (chunk 0 8 (drop p limits)) sums)

less_by_top : (x y : ℕ) → x < 2 ^ 63 → y < 2 ^ 63 → 2 ^ 63 ≤ sub_64 x y → x < y
less_by_top x y a b le = omega (arith, a, b, le)

lanes_below : (limits sums : List ℕ) (limit p : ℕ) → p + 8 ≤ length limits → length sums ≡ 8
    → HasLanes (below_of limits p limit sums)
    (λ t. bit_and (sub_64 limit (number_in sums t)) (sub_64 (number_in limits (p + t)) (number_in sums t)))
lanes_below limits sums limit p l b = lanes_zip bit_and _ _ _ _
    (lanes_zip sub_64 _ _ (λ _. limit) (λ t. number_in sums t) (lanes_all limit) (lanes_own sums b))
    (lanes_zip sub_64 _ _ (λ t. number_in limits (p + t)) (λ t. number_in sums t) (lanes_loaded limits p l)
    (lanes_own sums b))

lane_is_high : (limits sums : List ℕ) (limit p t : ℕ) → p + 8 ≤ length limits → length sums ≡ 8
    → 2 ^ 63 ≤ fold_l bit_and 18446744073709551615 (below_of limits p limit sums) → t < 8
    → 2 ^ 63 ≤ bit_and (sub_64 limit (number_in sums t)) (sub_64 (number_in limits (p + t)) (number_in sums t))
lane_is_high limits sums limit p t l b le lt =
    let h = lanes_below limits sums limit p l b in
    omega (
      arith,
      le,
      fold_below 18446744073709551615 (below_of limits p limit sums) t
          (omega (arith, h.count)),
      h.each t lt,
    )

pub limit_is_below : (limits sums : List ℕ) (limit p t : ℕ) → p + 8 ≤ length limits → length sums ≡ 8
    → 2 ^ 63 ≤ fold_l bit_and 18446744073709551615 (below_of limits p limit sums) → t < 8
    → limit < 2 ^ 63 → number_in sums t < 2 ^ 63 → limit < number_in sums t
limit_is_below limits sums limit p t l b le lt x y =
    less_by_top limit (number_in sums t) x y
    (omega (
      arith,
      lane_is_high limits sums limit p t l b le lt,
      and_le_l (sub_64 limit (number_in sums t))
          (sub_64 (number_in limits (p + t)) (number_in sums t)),
    ))

pub own_limit_is_below : (limits sums : List ℕ) (limit p t : ℕ) → p + 8 ≤ length limits → length sums ≡ 8
    → 2 ^ 63 ≤ fold_l bit_and 18446744073709551615 (below_of limits p limit sums) → t < 8
    → number_in limits (p + t) < 2 ^ 63 → number_in sums t < 2 ^ 63 → number_in limits (p + t) < number_in sums t
own_limit_is_below limits sums limit p t l b le lt x y =
    less_by_top (number_in limits (p + t)) (number_in sums t) x y
    (omega (
      arith,
      lane_is_high limits sums limit p t l b le lt,
      and_le_r (sub_64 limit (number_in sums t))
          (sub_64 (number_in limits (p + t)) (number_in sums t)),
    ))

pub is_high : (n : ℕ) → leb 9223372036854775808 n ≡ true → 2 ^ 63 ≤ n
is_high n e = grind (arith, nat_tests)

-- ---- the lesser and the greater of two numbers

-- of each two lanes the first where the first of two others is the lesser, and else the second
chosen : (x y a b : List ℕ) (f g h k : ℕ → ℕ) → HasLanes x f → HasLanes y g → HasLanes a h → HasLanes b k
    → HasLanes (sel_l (map (top 63) (zip2 (λ m n. cond (ltb m n) (2 ^ 64 - 1) 0) x y)) a b)
    (λ t. cond (ltb (f t) (g t)) (h t) (k t))
chosen x y a b f g h k p q r s =
    let is = ap (λ ms. sel_l ms a b) (tops_compared w64 ltb x y) in
    let l : length (zip2 ltb x y) ≡ 8 = length-zip2 ltb x y (p.count ∙ sym q.count) ∙ p.count in
    record {
      count = ap length is ∙ length-sel_l (zip2 ltb x y) a b (l ∙ sym r.count) (l ∙ sym s.count) ∙ l;
      each = λ t lt. ap (λ v. get_or v t 0) is
          ∙ get_or-sel_l (zip2 ltb x y) a b t 0 (omega (arith, l)) (omega (arith, r.count)) (omega (arith, s.count))
          ∙ ap (λ c. cond c (get_or a t 0) (get_or b t 0))
          (get_or-zip2 ltb x y t 0 0 false (omega (arith, p.count)) (omega (arith, q.count)))
          ∙ ap (λ n. cond (ltb (get_or x t 0) (get_or y t 0)) n (get_or b t 0)) (r.each t lt)
          ∙ ap (λ n. cond (ltb (get_or x t 0) (get_or y t 0)) (h t) n) (s.each t lt)
          ∙ ap (λ n. cond (ltb n (get_or y t 0)) (h t) (k t)) (p.each t lt)
          ∙ ap (λ n. cond (ltb (f t) n) (h t) (k t)) (q.each t lt);
    }

lesser : (x y : ℕ) → cond (ltb x y) x y ≡ min x y
lesser x y = grind (arith, nat_tests)

greater : (x y : ℕ) → cond (ltb x y) y x ≡ max x y
greater x y = grind (arith, nat_tests)

abbrev pub chosen_of : List ℕ → List ℕ → List ℕ → List ℕ → List ℕ
chosen_of x y a b = sel_l (map (top 63) (zip2 (λ m n. cond (ltb m n) (2 ^ 64 - 1) 0) x y)) a b

pub lanes_lesser : (x y : List ℕ) → length x ≡ 8 → length y ≡ 8
    → HasLanes (chosen_of x y x y) (λ t. min (number_in x t) (number_in y t))
lanes_lesser x y a b =
    lanes_same _ _ _ (chosen x y x y _ _ _ _ (lanes_own x a) (lanes_own y b) (lanes_own x a) (lanes_own y b))
    (λ t lt. lesser (number_in x t) (number_in y t))

pub lanes_greater : (x y : List ℕ) → length x ≡ 8 → length y ≡ 8
    → HasLanes (chosen_of x y y x) (λ t. max (number_in x t) (number_in y t))
lanes_greater x y a b =
    lanes_same _ _ _ (chosen x y y x _ _ _ _ (lanes_own x a) (lanes_own y b) (lanes_own y b) (lanes_own x a))
    (λ t lt. greater (number_in x t) (number_in y t))

no_wrap : (x y : ℕ) → x + y < 2 ^ 64 → add_64 x y ≡ x + y
no_wrap x y lt = omega (arith, lt)

pub lanes_added : (x y : List ℕ) → length x ≡ 8 → length y ≡ 8
    → ((t : ℕ) → t < 8 → number_in x t + number_in y t < 2 ^ 64)
    → HasLanes (zip2 add_64 x y) (λ t. number_in x t + number_in y t)
lanes_added x y a b fits =
    lanes_same _ _ _ (lanes_zip add_64 x y _ _ (lanes_own x a) (lanes_own y b))
    (λ t lt. no_wrap (number_in x t) (number_in y t) (fits t lt))
