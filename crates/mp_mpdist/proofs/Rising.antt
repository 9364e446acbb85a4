-- Numbers in rising order: how many are at most the one at a place.
use Rattle.std.proofs.Common.{◌≡◌, ℕ, zero, suc, ◌<◌, ◌≤◌, Bool, true, false, List, [], ◌∷◌, length, get_or, refl, ap}
use Rattle.std.proofs.Common.{◌∙◌, arith, ⊎_elim}
use Rattle.std.specs.List.{AllByRecursion, count_by}
use Rattle.std.specs.Prelude.{nat_le, nat_lt, if◌then◌else◌}
use Rattle.std.proofs.lemmas.List.Elements.{All-from_recursion, All-get_or, All-weaker}
use Rattle.std.proofs.lemmas.Bool.{cases_lt}
use Rattle.std.proofs.lemmas.Bool.Decides.{nat_tests}
use Rattle.mp_results.specs.Mpdist.{put_in_order, in_rising_order}
use Rattle.mp_mpdist.proofs.Counts.{tally, count_by-cons, count_by-none}

abbrev pub AllFrom : ℕ → List ℕ → Type 0
AllFrom x ds = AllByRecursion (λ d. x ≤ d) ds

abbrev pub IsRising : List ℕ → Type 0
IsRising [] = Unit {0}
IsRising (d ∷ ds) = AllFrom d ds × IsRising ds

AllFrom-weaker : (x d : ℕ) (ds : List ℕ) → x ≤ d → AllFrom d ds → AllFrom x ds
AllFrom-weaker x d [] le all = tt
AllFrom-weaker x d (e ∷ es) le all = (omega (arith, all.0), AllFrom-weaker x d es le all.1)

AllFrom-put_in_order : (x d : ℕ) (ds : List ℕ) → x ≤ d → AllFrom x ds → AllFrom x (put_in_order d ds)
AllFrom-put_in_order x d [] le all = (le, tt)
AllFrom-put_in_order x d (e ∷ es) le all =
    elim (nat_le d e) as (λ b. AllFrom x (if b then d ∷ e ∷ es else e ∷ put_in_order d es)) [
      | true ↦ (le, all)
      | false ↦ (all.0, AllFrom-put_in_order x d es le all.1)
    ]

IsRising-placed : (d e : ℕ) (es : List ℕ) → IsRising (e ∷ es) → IsRising (put_in_order d es)
    → (b : Bool) → nat_le d e ≡ b → IsRising (if b then d ∷ e ∷ es else e ∷ put_in_order d es)
IsRising-placed d e es rising rest true is =
    let le : d ≤ e = grind (arith, nat_tests) in
    ((le, AllFrom-weaker d e es le rising.0), rising)
IsRising-placed d e es rising rest false is =
    let le : e ≤ d = grind (arith, nat_tests) in
    (AllFrom-put_in_order e d es le rising.0, rest)

IsRising-put_in_order : (d : ℕ) (ds : List ℕ) → IsRising ds → IsRising (put_in_order d ds)
IsRising-put_in_order d [] rising = (tt, tt)
IsRising-put_in_order d (e ∷ es) rising =
    IsRising-placed d e es rising (IsRising-put_in_order d es rising.1) (nat_le d e) refl

pub IsRising-in_rising_order : (ds : List ℕ) → IsRising (in_rising_order ds)
unfolding in_rising_order
IsRising-in_rising_order [] = tt
IsRising-in_rising_order (d ∷ ds) = IsRising-put_in_order d (in_rising_order ds) (IsRising-in_rising_order ds)

count_by-placed : (p : ℕ → Bool) (d e : ℕ) (es : List ℕ) (b : Bool)
    → count_by p (put_in_order d es) ≡ count_by p (d ∷ es)
    → count_by p (if b then d ∷ e ∷ es else e ∷ put_in_order d es) ≡ count_by p (d ∷ e ∷ es)
count_by-placed p d e es true rest = refl
count_by-placed p d e es false rest =
    let before = count_by-cons p e (put_in_order d es) in
    let after = count_by-cons p d (e ∷ es) in
    omega (arith, rest, before, after, count_by-cons p d es, count_by-cons p e es)

count_by-put_in_order : (p : ℕ → Bool) (d : ℕ) (ds : List ℕ) → count_by p (put_in_order d ds) ≡ count_by p (d ∷ ds)
count_by-put_in_order p d [] = refl
count_by-put_in_order p d (e ∷ es) = count_by-placed p d e es (nat_le d e) (count_by-put_in_order p d es)

pub count_by-in_rising_order : (p : ℕ → Bool) (ds : List ℕ) → count_by p (in_rising_order ds) ≡ count_by p ds
unfolding in_rising_order
count_by-in_rising_order p [] = refl
count_by-in_rising_order p (d ∷ ds) =
    let rising = in_rising_order ds in
    let first = count_by-cons p d ds in
    omega (arith, first, count_by-put_in_order p d rising, count_by-cons p d rising, count_by-in_rising_order p ds)

length-placed : (d e : ℕ) (es : List ℕ) (b : Bool) → length (put_in_order d es) ≡ suc (length es)
    → length (if b then d ∷ e ∷ es else e ∷ put_in_order d es) ≡ suc (suc (length es))
length-placed d e es true rest = refl
length-placed d e es false rest = ap suc rest

length-put_in_order : (d : ℕ) (ds : List ℕ) → length (put_in_order d ds) ≡ suc (length ds)
length-put_in_order d [] = refl
length-put_in_order d (e ∷ es) = length-placed d e es (nat_le d e) (length-put_in_order d es)

pub length-in_rising_order : (ds : List ℕ) → length (in_rising_order ds) ≡ length ds
unfolding in_rising_order
length-in_rising_order [] = refl
length-in_rising_order (d ∷ ds) = length-put_in_order d (in_rising_order ds) ∙ ap suc (length-in_rising_order ds)

-- how many are less than v, and how many are at most v
abbrev pub less_than : ℕ → List ℕ → ℕ
less_than v ds = count_by (λ d. nat_lt d v) ds

abbrev pub up_to : ℕ → List ℕ → ℕ
up_to v ds = count_by (λ d. nat_le d v) ds

less_than-from : (v : ℕ) (ds : List ℕ) → AllFrom v ds → less_than v ds ≡ 0
less_than-from v ds all = count_by-none (λ d. nat_lt d v) ds
    (All-weaker (λ d. v ≤ d) (λ d. nat_lt d v ≡ false) (λ d le. grind (arith, nat_tests)) ds
    (All-from_recursion (λ d. v ≤ d) ds all))

up_to-above : (v d : ℕ) (ds : List ℕ) → v < d → AllFrom d ds → up_to v ds ≡ 0
up_to-above v d ds above all = count_by-none (λ e. nat_le e v) ds
    (All-weaker (λ e. d ≤ e) (λ e. nat_le e v ≡ false) (λ e le. grind (arith, nat_tests)) ds
    (All-from_recursion (λ e. d ≤ e) ds all))

-- of the first number, and of the rest
less_first : (v d : ℕ) (ds : List ℕ) → d < v → less_than v (d ∷ ds) ≡ suc (less_than v ds)
less_first v d ds lt =
    let first : tally (nat_lt d v) ≡ 1 = grind (arith, nat_tests) in
    omega (arith, first, count_by-cons (λ e. nat_lt e v) d ds)

not_less_first : (v d : ℕ) (ds : List ℕ) → v ≤ d → less_than v (d ∷ ds) ≡ less_than v ds
not_less_first v d ds le =
    let first : tally (nat_lt d v) ≡ 0 = grind (arith, nat_tests) in
    omega (arith, first, count_by-cons (λ e. nat_lt e v) d ds)

up_to_first : (v d : ℕ) (ds : List ℕ) → d ≤ v → up_to v (d ∷ ds) ≡ suc (up_to v ds)
up_to_first v d ds le =
    let first : tally (nat_le d v) ≡ 1 = grind (arith, nat_tests) in
    omega (arith, first, count_by-cons (λ e. nat_le e v) d ds)

not_up_to_first : (v d : ℕ) (ds : List ℕ) → v < d → up_to v (d ∷ ds) ≡ up_to v ds
not_up_to_first v d ds lt =
    let first : tally (nat_le d v) ≡ 0 = grind (arith, nat_tests) in
    omega (arith, first, count_by-cons (λ e. nat_le e v) d ds)

-- at most so many stand before a place, and more are at most what stands there
pub at_place : (ds : List ℕ) (place : ℕ) → IsRising ds → place < length ds
    → (less_than (get_or ds place 0) ds ≤ place) × (place < up_to (get_or ds place 0) ds)
at_place [] place rising within = absurd (omega (arith, within))
at_place (d ∷ ds) zero rising within =
    let none = less_than-from d ds rising.0 in
    (omega (arith, not_less_first d d ds (omega arith)), omega (arith, up_to_first d d ds (omega arith)))
at_place (d ∷ ds) (suc place) rising within =
    let inside : place < length ds = omega (arith, within) in
    let v = get_or ds place 0 in
    let le : d ≤ v = All-get_or (λ e. d ≤ e) ds place 0 inside (All-from_recursion (λ e. d ≤ e) ds rising.0) in
    let rest = at_place ds place rising.1 inside in
    let first = count_by-cons (λ e. nat_lt e v) d ds in
    let at_most_one : tally (nat_lt d v) ≤ 1 = grind (arith, nat_tests) in
    (omega (arith, rest.0, first, at_most_one), omega (arith, rest.1, up_to_first v d ds le))

first_is : (d v : ℕ) (ds : List ℕ) → IsRising (d ∷ ds) → less_than v (d ∷ ds) ≤ 0 → 0 < up_to v (d ∷ ds) → d ≡ v
first_is d v ds rising less more =
    ⊎_elim (λ below. absurd (omega (arith, less_first v d ds below)))
    (λ from. ⊎_elim
    (λ above. absurd (omega (arith, not_up_to_first v d ds above, up_to-above v d ds above rising.0)))
    (λ to. omega arith)
    (cases_lt v d))
    (cases_lt d v)

rest_less : (d v : ℕ) (ds : List ℕ) (place : ℕ) → IsRising (d ∷ ds)
    → less_than v (d ∷ ds) ≤ suc place → less_than v ds ≤ place
rest_less d v ds place rising less =
    ⊎_elim (λ below. omega (arith, less_first v d ds below))
    (λ from. omega (arith, less_than-from v ds (AllFrom-weaker v d ds from rising.0)))
    (cases_lt d v)

rest_more : (d v : ℕ) (ds : List ℕ) (place : ℕ) → suc place < up_to v (d ∷ ds) → place < up_to v ds
rest_more d v ds place more =
    let first = count_by-cons (λ e. nat_le e v) d ds in
    let at_most_one : tally (nat_le d v) ≤ 1 = grind (arith, nat_tests) in
    omega arith

-- and no other number is there
pub only_at_place : (ds : List ℕ) (place v : ℕ) → IsRising ds
    → less_than v ds ≤ place → place < up_to v ds → get_or ds place 0 ≡ v
only_at_place [] place v rising less more = absurd (omega (arith, more))
only_at_place (d ∷ ds) zero v rising less more = first_is d v ds rising less more
only_at_place (d ∷ ds) (suc place) v rising less more =
    only_at_place ds place v rising.1 (rest_less d v ds place rising less) (rest_more d v ds place more)
