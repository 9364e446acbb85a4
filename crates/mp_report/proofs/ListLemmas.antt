-- One item of a list more.
use Rattle.std.proofs.Common.{◌≡◌, ℕ, ◌+◌, ◌<◌, List, [], ◌∷◌, ◌++◌, length, get_or, take, map, ap, refl, ◌∙◌, sym}
use Rattle.std.proofs.Common.{arith, append-nil, append_assoc}
use Rattle.std.specs.Prelude.{flat_map}
use Rattle.std.specs.List.{enumerate_from}
use Rattle.std.proofs.lemmas.Grind.{flat_map-append}
use Rattle.std.proofs.lemmas.List.{take_more, map-append, length-map, length-take, get_or_default, get_or-map}

one_more : {X : Type 0} (xs : List X) (k : ℕ) (x : X) → k < length xs → x ≡ get_or xs k x
    → take (k + 1) xs ≡ take k xs ++ x ∷ []
one_more {X} xs k x within is = take_more xs k x within ∙ ap (λ (y : X). take k xs ++ y ∷ []) (sym is)

text_of_one : {X T : Type 0} (f : X → List T) (xs : List X) (x : X) → flat_map f (xs ++ x ∷ []) ≡ flat_map f xs ++ f x
text_of_one {X} {T} f xs x =
    flat_map-append f xs (x ∷ []) ∙ ap (λ (t : List T). flat_map f xs ++ t) (append-nil (f x))

pub lines_more : {X T : Type 0} (f : X → List T) (xs : List X) (k : ℕ) (x : X) → k < length xs → x ≡ get_or xs k x
    → flat_map f (take (k + 1) xs) ≡ flat_map f (take k xs) ++ f x
lines_more f xs k x within is = ap (flat_map f) (one_more xs k x within is) ∙ text_of_one f (take k xs) x

pub mapped_lines_more : {X Y T : Type 0} (f : Y → List T) (g : X → Y) (xs : List X) (k : ℕ) (x : X) → k < length xs
    → x ≡ get_or xs k x
    → flat_map f (map g (take (k + 1) xs)) ≡ flat_map f (map g (take k xs)) ++ f (g x)
mapped_lines_more {X} {Y} {T} f g xs k x within is =
    ap (λ (ys : List X). flat_map f (map g ys)) (one_more xs k x within is)
    ∙ (ap (flat_map f) (map-append g (take k xs) (x ∷ [])) ∙ text_of_one f (map g (take k xs)) (g x))

enumerate_more : {X : Type 0} (n : ℕ) (xs : List X) (x : X)
    → enumerate_from n (xs ++ x ∷ []) ≡ enumerate_from n xs ++ (n + length xs, x) ∷ []
enumerate_more {X} n [] x = let e : n + 0 ≡ n = omega arith in rw e refl
enumerate_more {X} n (y ∷ xs) x =
    let e : n + length (y ∷ xs) ≡ n + 1 + length xs = omega arith in
    rw e (ap (λ (ps : List (ℕ × X)). (n, y) ∷ ps) (enumerate_more (n + 1) xs x))

pub numbered_lines_more : {X T : Type 0} (f : ℕ × X → List T) (xs : List X) (k : ℕ) (x : X) → k < length xs
    → x ≡ get_or xs k x
    → flat_map f (enumerate_from 0 (take (k + 1) xs)) ≡ flat_map f (enumerate_from 0 (take k xs)) ++ f (k, x)
numbered_lines_more {X} {T} f xs k x within is =
    let count : 0 + length (take k xs) ≡ k = omega (arith, length-take k xs) in
    ap (λ (ys : List X). flat_map f (enumerate_from 0 ys)) (one_more xs k x within is)
    ∙ (ap (flat_map f) (enumerate_more 0 (take k xs) x)
    ∙ (text_of_one f (enumerate_from 0 (take k xs)) (0 + length (take k xs), x)
    ∙ ap (λ (n : ℕ). flat_map f (enumerate_from 0 (take k xs)) ++ f (n, x)) count))

same_default : {X : Type 0} (xs : List X) (k : ℕ) (d : X) → k < length xs → get_or xs k d ≡ get_or xs k (get_or xs k d)
same_default xs k d within = get_or_default xs k d (get_or xs k d) within

-- a text with the lines of the first k items grows by that of the next one
pub numbered_lines_grow : {X T : Type 0} (f : ℕ × X → List T) (xs : List X) (k : ℕ) (d : X)
    (initial before after : List T) → k < length xs
    → before ≡ initial ++ flat_map f (enumerate_from 0 (take k xs))
    → after ≡ before ++ f (k, get_or xs k d)
    → after ≡ initial ++ flat_map f (enumerate_from 0 (take (k + 1) xs))
numbered_lines_grow {X} {T} f xs k d initial before after within was is =
    let line = f (k, get_or xs k d) in
    let done = flat_map f (enumerate_from 0 (take k xs)) in
    is
    ∙ (ap (λ (t : List T). t ++ line) was
    ∙ (append_assoc initial done line
    ∙ ap (λ (t : List T). initial ++ t)
    (sym (numbered_lines_more f xs k (get_or xs k d) within (same_default xs k d within)))))

-- the same, where the lines are those of what is seen of the items
pub seen_lines_grow : {X Y T : Type 0} (f : ℕ × Y → List T) (g : X → Y) (xs : List X) (k : ℕ) (d : X) (y : Y)
    (initial before after : List T) → k < length xs → y ≡ g (get_or xs k d)
    → before ≡ initial ++ flat_map f (enumerate_from 0 (take k (map g xs)))
    → after ≡ before ++ f (k, y)
    → after ≡ initial ++ flat_map f (enumerate_from 0 (take (k + 1) (map g xs)))
seen_lines_grow {X} {Y} {T} f g xs k d y initial before after within seen was is =
    let count : k < length (map g xs) = omega (arith, within, length-map xs g) in
    numbered_lines_grow f (map g xs) k (g d) initial before after count was
    (is ∙ ap (λ (z : Y). before ++ f (k, z)) (seen ∙ sym (get_or-map g xs k d (g d) within)))
