-- All chains are whole, and each window stands in exactly one of them.
use Rattle.std.proofs.Common.{◌≡◌, ℕ, zero, suc, ◌+◌, ◌<◌, ◌≤◌, Bool, true, false, cond, List, [], ◌∷◌, length, map}
use Rattle.std.proofs.Common.{get_or, Option, None, Some, refl, sym, ap, ◌∙◌, add-zero, zero-add, arith, ⊎_elim}
use Rattle.std.specs.Prelude.{◌==◌, ◌≢◌, ◌&&◌, is_none, nat_le, nat_lt}
use Rattle.std.specs.List.{All, concat, count_by, sum_by, filter, range_with_len}
use Rattle.std.specs.Option.{option_map_or}
use Rattle.std.proofs.lemmas.Bool.{cases_eq, false≢true}
use Rattle.std.proofs.lemmas.Bool.Decides.{nat_tests}
use Rattle.std.proofs.lemmas.List.Elements.{All-map, All-filter, All-get_or, All-from_get_or, filter_passes}
use Rattle.std.proofs.lemmas.List.FromFn.{length-range_with_len, get_or-range_with_len}
use Rattle.std.proofs.lemmas.Option.{same_Some}
use Rattle.std.proofs.lemmas.List.Sums.{sum_by-cons, sum_by-append}
use Rattle.mp_nums.specs.declared.nearest.Near.{Near}
use Rattle.mp_results.specs.Columns.{AreColumns}
use Rattle.mp_results.specs.Chains.{successor, predecessor, is_first, links, chain_from, chains_of}
use Rattle.mp_chains.specs.Laws.{IsWholeChain, ChainsAreWhole, ChainsPartTheWindows}
use Rattle.mp_chains.proofs.Names.{named_back-back}
use Rattle.mp_chains.proofs.Links.{GoesOn}
use Rattle.mp_chains.proofs.Columns.{GoesOn-successor, predecessor-Succeeds, some_is_not_none, chains_follow_on}

abbrev tally : Bool → ℕ
tally b = cond b 1 0

tally-same : (k j : ℕ) → k ≡ j → tally (k == j) ≡ 1
tally-same k j same = grind (arith, nat_tests)

tally-other : (k j : ℕ) → k ≢ j → tally (k == j) ≡ 0
tally-other k j other = grind (arith, nat_tests)

-- how often j stands in a list
abbrev times : ℕ → List ℕ → ℕ
times j ks = count_by (λ k. k == j) ks

times-cons : (j k : ℕ) (ks : List ℕ) → times j (k ∷ ks) ≡ tally (k == j) + times j ks
times-cons j k ks = sum_by-cons (λ i. cond (i == j) 1 0) k ks

-- what comes next to none stands in links at their start alone
behind-start : (next : ℕ → Option ℕ) (n j s : ℕ) → ((i : ℕ) → next i ≡ Some j → ⊥)
    → ((k : ℕ) → next s ≡ Some k → times j (links next n k) ≡ tally (k == j))
    → (o : Option ℕ) → next s ≡ o → times j (option_map_or (links next n) o []) ≡ 0
behind-start next n j s none rest None is = refl
behind-start next n j s none rest (Some k) is = rest k is ∙ tally-other k j (λ same. none s (is ∙ ap Some same))

times-start : (next : ℕ → Option ℕ) (w j : ℕ) → GoesOn next w → ((i : ℕ) → next i ≡ Some j → ⊥)
    → (n s : ℕ) → 0 < n → w ≤ s + n → times j (links next n s) ≡ tally (s == j)
unfolding links
times-start next w j on none zero s some fits = absurd (omega (arith, some))
times-start next w j on none (suc n) s some fits =
    times-cons j s (option_map_or (links next n) (next s) [])
    ∙ ap (λ rest. tally (s == j) + rest) (behind-start next n j s none (λ k is.
    let goes = on s k is in
    times-start next w j on none n k (omega (arith, goes.0, goes.1, fits)) (omega (arith, goes.0, fits)))
    (next s) refl)
    ∙ add-zero (tally (s == j))

-- what comes next to i stands at their start, and as often as i
as_often : (next : ℕ → Option ℕ) (i j s k : ℕ) → next i ≡ Some j → ((l : ℕ) → next l ≡ Some j → l ≡ i) → next s ≡ Some k
    → tally (k == j) ≡ tally (s == i)
as_often next i j s k to only is = ⊎_elim
    (λ (same : s ≡ i). tally-same k j (same_Some k j (sym is ∙ ap next same ∙ to)) ∙ sym (tally-same s i same))
    (λ (other : s ≢ i). tally-other k j (λ same. other (only s (is ∙ ap Some same))) ∙ sym (tally-other s i other))
    (cases_eq s i)

behind-next : (next : ℕ → Option ℕ) (n i j s : ℕ) → next i ≡ Some j → ((l : ℕ) → next l ≡ Some j → l ≡ i)
    → ((k : ℕ) → next s ≡ Some k → times j (links next n k) ≡ tally (k == j) + times i (links next n k))
    → (o : Option ℕ) → next s ≡ o
    → times j (option_map_or (links next n) o []) ≡ tally (s == i) + times i (option_map_or (links next n) o [])
behind-next next n i j s to only rest None is =
    let other : s ≢ i = λ same. some_is_not_none _ j to (sym (ap next same) ∙ is) in
    omega (arith, tally-other s i other)
behind-next next n i j s to only rest (Some k) is =
    rest k is ∙ ap (λ t. t + times i (links next n k)) (as_often next i j s k to only is)

times-next : (next : ℕ → Option ℕ) (w i j : ℕ) → GoesOn next w → next i ≡ Some j → ((l : ℕ) → next l ≡ Some j → l ≡ i)
    → (n s : ℕ) → 0 < n → w ≤ s + n → times j (links next n s) ≡ tally (s == j) + times i (links next n s)
unfolding links
times-next next w i j on to only zero s some fits = absurd (omega (arith, some))
times-next next w i j on to only (suc n) s some fits =
    let rest = option_map_or (links next n) (next s) [] in
    let behind = behind-next next n i j s to only (λ k is.
    let goes = on s k is in
    times-next next w i j on to only n k (omega (arith, goes.0, goes.1, fits)) (omega (arith, goes.0, fits)))
    (next s) refl in
    omega (arith, times-cons j s rest, times-cons i s rest, behind)

-- sums over a list
sum_by-same : (f g : ℕ → ℕ) (ss : List ℕ) → ((s : ℕ) → f s ≡ g s) → sum_by f ss ≡ sum_by g ss
sum_by-same f g [] same = refl
sum_by-same f g (s ∷ ss) same = omega (arith, same s, sum_by-cons f s ss, sum_by-cons g s ss, sum_by-same f g ss same)

sum_by-both : (f g : ℕ → ℕ) (ss : List ℕ) → sum_by (λ s. f s + g s) ss ≡ sum_by f ss + sum_by g ss
sum_by-both f g [] = refl
sum_by-both f g (s ∷ ss) =
    omega (arith, sum_by-cons (λ t. f t + g t) s ss, sum_by-cons f s ss, sum_by-cons g s ss, sum_by-both f g ss)

times-concat : (j : ℕ) (f : ℕ → List ℕ) (ss : List ℕ) → times j (concat (map f ss)) ≡ sum_by (λ s. times j (f s)) ss
times-concat j f [] = refl
times-concat j f (s ∷ ss) =
    let first = sum_by-cons (λ t. times j (f t)) s ss in
    let parts = sum_by-append (λ k. tally (k == j)) (f s) (concat (map f ss)) in
    omega (arith, first, parts, times-concat j f ss)

-- in numbers that pass a test
none_by : (b : Bool) → times 0 [] ≡ cond b 0 0
none_by true = refl
none_by false = refl

kept : (p : ℕ → Bool) (j k : ℕ) (ks : List ℕ) (b : Bool) → p k ≡ b → (c : Bool) → p j ≡ c
    → times j (filter p ks) ≡ cond c (times j ks) 0
    → times j (cond b (k ∷ filter p ks) (filter p ks)) ≡ cond c (times j (k ∷ ks)) 0
kept p j k ks true is true at rest = omega (arith, rest, times-cons j k (filter p ks), times-cons j k ks)
kept p j k ks true is false at rest =
    let other : k ≢ j = λ same. false≢true (sym at ∙ ap p (sym same) ∙ is) in
    omega (arith, rest, times-cons j k (filter p ks), tally-other k j other)
kept p j k ks false is true at rest =
    let other : k ≢ j = λ same. false≢true (sym is ∙ ap p same ∙ at) in
    omega (arith, rest, times-cons j k ks, tally-other k j other)
kept p j k ks false is false at rest = rest

times-filter : (p : ℕ → Bool) (j : ℕ) (ks : List ℕ) → times j (filter p ks) ≡ cond (p j) (times j ks) 0
times-filter p j [] = none_by (p j)
times-filter p j (k ∷ ks) = kept p j k ks (p k) refl (p j) refl (times-filter p j ks)

times-range : (j a n : ℕ) → times j (range_with_len a n) ≡ tally (nat_le a j && nat_lt j (a + n))
times-range j a zero = grind (arith, nat_tests)
times-range j a (suc n) =
    let first = times-cons j a (range_with_len (a + 1) n) in
    let rest = times-range j (a + 1) n in
    grind (arith, nat_tests)

once : (p : ℕ → Bool) (j w : ℕ) → j < w → p j ≡ true → times j (filter p (range_with_len 0 w)) ≡ 1
once p j w within is =
    let there : tally (nat_le 0 j && nat_lt j (0 + w)) ≡ 1 = grind (arith, nat_tests) in
    times-filter p j (range_with_len 0 w) ∙ rw is (times-range j 0 w ∙ there)

never : (p : ℕ → Bool) (j w : ℕ) → p j ≡ false → times j (filter p (range_with_len 0 w)) ≡ 0
never p j w is = times-filter p j (range_with_len 0 w) ∙ rw is refl

none_comes : (left right : List (Option Near)) (j : ℕ) → predecessor left right j ≡ None → (i : ℕ)
    → successor left right i ≡ Some j → ⊥
none_comes left right j none i is = some_is_not_none _ i (named_back-back right left i j is) none

one_comes : (left right : List (Option Near)) (i j : ℕ) → predecessor left right j ≡ Some i
    → (l : ℕ) → successor left right l ≡ Some j → l ≡ i
one_comes left right i j is l to = same_Some l i (sym (named_back-back right left l j to) ∙ is)

-- the windows that all chains begin with
abbrev firsts : List (Option Near) → List (Option Near) → List ℕ
firsts left right = filter (is_first left right) (range_with_len 0 (length right))

part : (left right : List (Option Near)) (j : ℕ) → AreColumns left right → j < length right
    → ((i : ℕ) → i < j → times i (concat (chains_of left right)) ≡ 1)
    → (o : Option ℕ) → predecessor left right j ≡ o → times j (concat (chains_of left right)) ≡ 1
part left right j columns within before None is =
    let next = successor left right in
    let on = GoesOn-successor left right columns in
    let w = length right in
    let some : 0 < w = omega (arith, within) in
    let first : is_first left right j ≡ true = rw is refl in
    times-concat j (chain_from left right) (firsts left right)
    ∙ sum_by-same (λ s. times j (chain_from left right s)) (λ s. tally (s == j)) (firsts left right)
    (λ s. times-start next w j on (none_comes left right j is) w s some (omega arith))
    ∙ once (is_first left right) j w within first
part left right j columns within before (Some i) is =
    let on = GoesOn-successor left right columns in
    let w = length right in
    let some : 0 < w = omega (arith, within) in
    let later : is_first left right j ≡ false = rw is refl in
    let to : successor left right i ≡ Some j = named_back-back left right j i is in
    let of = λ (s : ℕ). times i (chain_from left right s) in
    let by_next = λ (s : ℕ).
    times-next (successor left right) w i j on to (one_comes left right i j is) w s some (omega arith) in
    let all = firsts left right in
    let starts = never (is_first left right) j w later in
    let rest = sym (times-concat i (chain_from left right) all) ∙ before i (on i j to).0 in
    let same = sum_by-same (λ s. times j (chain_from left right s)) (λ s. tally (s == j) + of s) all by_next in
    times-concat j (chain_from left right) all ∙ same ∙ sum_by-both (λ s. tally (s == j)) of all
    ∙ ap (λ n. n + sum_by of all) starts ∙ zero-add (sum_by of all) ∙ rest

parts_below : (left right : List (Option Near)) (m : ℕ) → AreColumns left right → (j : ℕ) → j < m → j < length right
    → times j (concat (chains_of left right)) ≡ 1
parts_below left right zero columns j below within = absurd (omega (arith, below))
parts_below left right (suc m) columns j below within =
    part left right j columns within
    (λ i earlier. parts_below left right m columns i (omega (arith, earlier, below)) (omega (arith, earlier, within)))
    (predecessor left right j) refl

pub chains_part : ChainsPartTheWindows
chains_part left right j columns within = parts_below left right (suc j) columns j (omega arith) within

-- all chains are from windows that succeed none
is_first-tells : (o : Option ℕ) → is_none o ≡ true → o ≡ None
is_first-tells None is = refl
is_first-tells (Some i) is = absurd (false≢true is)

whole : (left right : List (Option Near)) (j : ℕ) → AreColumns left right → j < length right
    → is_first left right j ≡ true → IsWholeChain left right (chain_from left right j)
whole left right j columns within first = (
  j,
  within,
  chains_follow_on left right j columns within,
  λ i after.
      let none = is_first-tells (predecessor left right j) first in
      some_is_not_none _ i (predecessor-Succeeds left right i j after) none,
)

below_w : (a n : ℕ) → All (λ k. k < a + n) (range_with_len a n)
below_w a n = All-from_get_or (λ k. k < a + n) (range_with_len a n) 0 (λ i inside.
    let short : i < n = omega (arith, inside, length-range_with_len a n) in
    omega (arith, get_or-range_with_len a n i 0 short, short))

pub chains_whole : ChainsAreWhole
chains_whole left right columns =
    let p = is_first left right in
    let w = length right in
    let ks = range_with_len 0 w in
    let all = All-filter p (λ i. i < 0 + w) ks (below_w 0 w) in
    All-map (IsWholeChain left right) (chain_from left right) (filter p ks) (λ k d inside.
    let within : get_or (filter p ks) k d < 0 + w = All-get_or (λ i. i < 0 + w) (filter p ks) k d inside all in
    let first = All-get_or (λ i. p i ≡ true) (filter p ks) k d inside (filter_passes p ks) in
    whole left right (get_or (filter p ks) k d) columns (omega (arith, within)) first)
