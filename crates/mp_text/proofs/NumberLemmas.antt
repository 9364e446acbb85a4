-- Numbers that digits spell, and where they are read as a limit.
use Rattle.std.proofs.Common.{◌≡◌, ℕ, ◌-◌, ◌≤◌, Bool, true, min, fold, List, [], ◌∷◌, ◌++◌, length, take, drop}
use Rattle.std.proofs.Common.{replicate, sym, ap, ◌∙◌, arith}
use Rattle.std.specs.List.{list_all}
use Rattle.std.proofs.lemmas.List.{take-replicate, take-append-drop, take_all}
use Rattle.std.proofs.lemmas.List.Folds.{list_all-append}
use Rattle.std.proofs.lemmas.List.Sums.{fold-append}
use Rattle.mp_bytes.specs.Digits.{next_digit, value_of}
use Rattle.mp_text.specs.SampleText.{fixed}

pub list_all-take : (p : ℕ → Bool) (n : ℕ) (xs : List ℕ) → list_all p xs ≡ true → list_all p (take n xs) ≡ true
list_all-take p n xs h = grind (arith, list_all-append p (take n xs) (drop n xs), take-append-drop n xs)

-- a number that is cut at a limit and continued, and one that is cut in the end alone
pub capped_fold : (limit start : ℕ) (digits : List ℕ)
    → min (fold next_digit (min start limit) digits) limit ≡ min (fold next_digit start digits) limit
capped_fold limit start [] = omega arith
capped_fold limit start (d ∷ ds) =
    let cut : min (next_digit (min start limit) d) limit ≡ min (next_digit start d) limit = omega arith in
    sym (capped_fold limit (next_digit (min start limit) d) ds)
    ∙ ap (λ n. min (fold next_digit n ds) limit) cut
    ∙ capped_fold limit (next_digit start d) ds

take-min : (xs : List ℕ) (n : ℕ) → take (min (length xs) n) xs ≡ take n xs
take-min xs n = grind (arith, take_all (min (length xs) n) xs, take_all n xs)

-- the digits of a number, continued piece by piece
pub capped_pieces : (limit : ℕ) (whole kept zeros : List ℕ)
    → min (fold next_digit (min (fold next_digit (min (fold next_digit 0 whole) limit) kept) limit) zeros) limit
    ≡ min (value_of (whole ++ (kept ++ zeros))) limit
capped_pieces limit whole kept zeros =
    capped_fold limit (fold next_digit (min (fold next_digit 0 whole) limit) kept) zeros
    ∙ ap (λ n. min n limit) (sym (fold-append next_digit (min (fold next_digit 0 whole) limit) kept zeros))
    ∙ capped_fold limit (fold next_digit 0 whole) (kept ++ zeros)
    ∙ ap (λ n. min n limit) (sym (fold-append next_digit 0 whole (kept ++ zeros)))

pub fixed-pieces : (fraction : List ℕ) (scale kept : ℕ) → scale ≤ 9 → kept ≡ min (length fraction) scale
    → take kept fraction ++ take (scale - kept) (48 ∷ 48 ∷ 48 ∷ 48 ∷ 48 ∷ 48 ∷ 48 ∷ 48 ∷ 48 ∷ []) ≡ fixed scale fraction
fixed-pieces fraction scale kept small is =
    let left : take kept fraction ≡ take scale fraction = ap (λ n. take n fraction) is ∙ take-min fraction scale in
    let missing : scale - kept ≡ scale - length fraction = omega arith in
    let few : scale - length fraction ≤ 9 = omega arith in
    let right : take (scale - length fraction) (replicate 9 48) ≡ replicate (scale - length fraction) 48 =
    take-replicate (scale - length fraction) 9 48 few in
    rw (left, missing) (ap (λ zs. take scale fraction ++ zs) right)
