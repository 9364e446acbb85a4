-- The pairs of some tiles.
use Rattle.std.proofs.Common.{◌≡◌, ℕ, ◌+◌, ◌<◌, List, [], ◌∷◌, length, get_or, Bool, true, false, refl, sym, ap, ◌∙◌}
use Rattle.std.proofs.Common.{arith, subst}
use Rattle.std.specs.Prelude.{◌&&◌, ◌||◌, nat_lt, if◌then◌else◌, map, count_by}
use Rattle.std.specs.List.{range_with_len}
use Rattle.std.specs.Int.{abs_diff}
use Rattle.std.proofs.lemmas.Bool.Decides.{nat_tests}
use Rattle.std.proofs.lemmas.List.Sums.{sum_by-append}
use Rattle.std.proofs.lemmas.List.FromFn.{fill_by_all}
use Rattle.mp_defs.specs.Laws.{IsIrreflexive, IsSymmetric}
use Rattle.mp_cuts.specs.declared.cuts.Tile.{Tile}
use Rattle.mp_cuts.specs.Pairs.{has_pair, no_tile}
use Rattle.mp_cuts.specs.Cutting.{own_tiles}
use Rattle.mp_cuts.specs.Laws.{HoldEachOnce}
use Rattle.mp_cuts.specs.CutLaws.{cuts_hold_each_pair_once}
use Rattle.mp_tiles.specs.Among.{either_way}
use Rattle.mp_tiles.specs.OfferingLaws.{or_pairs}

-- some tile has the pair
abbrev pub some_has : ℕ → List Tile → ℕ → ℕ → Bool
some_has origin tiles i j = nat_lt 0 (count_by (λ t. has_pair origin t i j) tiles)

one_more : (t : Bool) (n : ℕ) → nat_lt 0 ((if t then 1 else 0) + n) ≡ (t || nat_lt 0 n)
one_more true n = grind (arith, nat_tests)
one_more false n = grind (arith, nat_tests)

count_cons : (p : Tile → Bool) (x : Tile) (xs : List Tile)
    → count_by p (x ∷ xs) ≡ (if p x then 1 else 0) + count_by p xs
count_cons p x xs = omega (arith, sum_by-append (λ y. if p y then 1 else 0) (x ∷ []) xs)

pub some_more : (origin : ℕ) (t : Tile) (ts : List Tile) (i j : ℕ)
    → (has_pair origin t i j || some_has origin ts i j) ≡ some_has origin (t ∷ ts) i j
some_more origin t ts i j =
    sym (ap (nat_lt 0) (count_cons (λ u. has_pair origin u i j) t ts)
    ∙ one_more (has_pair origin t i j) (count_by (λ u. has_pair origin u i j) ts))

pub once_or_not : (t : Bool) (n : ℕ) → n ≡ (if t then 1 else 0) → nat_lt 0 n ≡ t
once_or_not true n e = rw e refl
once_or_not false n e = rw e refl

-- the tiles by their numbers
pub tiles_by_number : (tiles : List Tile)
    → map (λ k. get_or tiles k no_tile) (range_with_len 0 (length tiles)) ≡ tiles
tiles_by_number tiles =
    sym (fill_by_all (λ k. get_or tiles k no_tile) tiles (length tiles) no_tile refl (λ k lt. refl))

-- ---- whichever of two windows stands first

pub either_more : (t : Tile) (ts : List Tile) (i j : ℕ)
    → (either_way (has_pair 0 t) i j || either_way (some_has 0 ts) i j) ≡ either_way (some_has 0 (t ∷ ts)) i j
either_more t ts i j =
    or_pairs (has_pair 0 t i j) (some_has 0 ts i j) (has_pair 0 t j i) (some_has 0 ts j i)
    ∙ ap (λ p. p || (has_pair 0 t j i || some_has 0 ts j i)) (some_more 0 t ts i j)
    ∙ ap (λ p. some_has 0 (t ∷ ts) i j || p) (some_more 0 t ts j i)

-- windows that may be compared are a pair from one side or the other
one_side : (t u : Bool) (i j : ℕ) → t ≡ u → (i ≡ j → t ≡ false)
    → ((nat_lt i j && t) || (nat_lt j i && u)) ≡ t
one_side t u i j e h = grind (arith, nat_tests)

-- tiles that hold each pair once have the windows that may be compared
pub either_may : (may : ℕ → ℕ → Bool) → IsIrreflexive may → IsSymmetric may
    → (w : ℕ) (tiles : List Tile)
    → HoldEachOnce may w tiles → (i j : ℕ) → i < w → j < w → either_way (some_has 0 tiles) i j ≡ may i j
either_may may irreflexive symmetric w tiles once i j lt lt' =
    let has = λ (i j : ℕ) (lt : j < w). once_or_not (nat_lt i j && may i j)
    (count_by (λ t. has_pair 0 t i j) tiles) (once i j lt) in
    ap (λ p. p || some_has 0 tiles j i) (has i j lt') ∙ ap (λ p. (nat_lt i j && may i j) || p) (has j i lt)
    ∙ one_side (may i j) (may j i) i j (symmetric i j)
    (λ e. subst (λ (k : ℕ). may i k ≡ false) e (irreflexive i))

-- ---- windows that start further apart than a zone

-- windows i and j do
abbrev pub are_apart : ℕ → ℕ → ℕ → Bool
are_apart zone i j = nat_lt zone (abs_diff i j)

outside_zone : (e i j : ℕ) → (nat_lt i j && nat_lt (i + e) j) ≡ (nat_lt i j && nat_lt e (abs_diff i j))
outside_zone e i j = grind (arith, nat_tests)

-- the cut outside the zone holds each pair of them once
pub own_tiles_hold_each_once : (zone w width : ℕ) → 0 < width
    → HoldEachOnce (are_apart zone) w (own_tiles w zone width)
own_tiles_hold_each_once zone w width pos i j lt =
    cuts_hold_each_pair_once.own w zone width pos i j lt ∙ ap (λ t. if t then 1 else 0) (outside_zone zone i j)

pub apart_never : (zone : ℕ) → IsIrreflexive (are_apart zone)
apart_never zone i = grind (arith, nat_tests)

pub apart_both : (zone : ℕ) → IsSymmetric (are_apart zone)
apart_both zone i j = grind (arith, nat_tests)
