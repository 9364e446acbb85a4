-- Numbers one behind the other, by what comes next.
use Rattle.std.proofs.Common.{◌≡◌, ℕ, zero, suc, ◌+◌, ◌<◌, ◌≤◌, List, [], ◌∷◌, length, get_or, Option, None, Some}
use Rattle.std.proofs.Common.{refl, sym, ap, ◌∙◌, add-one, arith}
use Rattle.std.specs.Option.{option_map_or}
use Rattle.mp_results.specs.Chains.{links}

-- what comes next is later, and below a number
abbrev pub GoesOn : (ℕ → Option ℕ) → ℕ → Type 0
GoesOn next w = (j k : ℕ) → next j ≡ Some k → (j < k) × (k < w)

-- the links behind the first
abbrev pub links_behind : (ℕ → Option ℕ) → ℕ → ℕ → List ℕ
links_behind next n j = option_map_or (links next n) (next j) []

behind-same : (next : ℕ → Option ℕ) (w n m j : ℕ) → GoesOn next w → w ≤ j + suc n → w ≤ j + suc m
    → ((k : ℕ) → j < k → k < w → links next n k ≡ links next m k)
    → (o : Option ℕ) → next j ≡ o → option_map_or (links next n) o [] ≡ option_map_or (links next m) o []
behind-same next w n m j on fits fits' rest None is = refl
behind-same next w n m j on fits fits' rest (Some k) is = rest k (on j k is).0 (on j k is).1

-- more than there can be make no difference
pub links-same : (next : ℕ → Option ℕ) (w n m j : ℕ) → GoesOn next w → j < w → w ≤ j + n → w ≤ j + m
    → links next n j ≡ links next m j
unfolding links
links-same next w zero m j on within fits fits' = absurd (omega (arith, within, fits))
links-same next w (suc n) zero j on within fits fits' = absurd (omega (arith, within, fits'))
links-same next w (suc n) (suc m) j on within fits fits' =
    ap (λ rest. j ∷ rest) (behind-same next w n m j on fits fits'
    (λ k later inside. links-same next w n m k on inside (omega (arith, fits, later)) (omega (arith, fits', later)))
    (next j) refl)

pub links-step : (next : ℕ → Option ℕ) (w j : ℕ) → GoesOn next w → j < w → links next w j ≡ j ∷ links_behind next w j
unfolding links
links-step next zero j on within = absurd (omega (arith, within))
links-step next (suc n) j on within =
    ap (λ rest. j ∷ rest) (behind-same next (suc n) n (suc n) j on (omega arith) (omega arith)
    (λ k later inside. links-same next (suc n) n (suc n) k on inside (omega (arith, later)) (omega arith))
    (next j) refl)

-- each comes next to the one before, and behind the last there is none
pub record Follows (next : ℕ → Option ℕ) (j : ℕ) (chain : List ℕ) : Type 0 where
  pub some : 0 < length chain
  pub starts : get_or chain 0 0 ≡ j
  pub follows : (i : ℕ) → i + 1 < length chain → next (get_or chain i 0) ≡ Some (get_or chain (i + 1) 0)
  pub ends : (i : ℕ) → i + 1 ≡ length chain → next (get_or chain i 0) ≡ None

Follows-alone : (next : ℕ → Option ℕ) (j : ℕ) → next j ≡ None → Follows next j (j ∷ [])
Follows-alone next j none = record {
  some = omega arith;
  starts = refl;
  follows = λ i within. absurd (omega (arith, within));
  ends = λ i last. let first : i ≡ 0 = omega (arith, last) in rw first none;
}

follows-behind : (next : ℕ → Option ℕ) (j k : ℕ) (rest : List ℕ) → next j ≡ Some k → Follows next k rest
    → (i : ℕ) → i + 1 < length (j ∷ rest) → next (get_or (j ∷ rest) i 0) ≡ Some (get_or (j ∷ rest) (i + 1) 0)
follows-behind next j k rest is behind zero within = is ∙ ap Some (sym behind.starts)
follows-behind next j k rest is behind (suc i) within =
    let after = behind.follows i (omega (arith, within)) in
    rw add-one (rw add-one at after)

ends-behind : (next : ℕ → Option ℕ) (j k : ℕ) (rest : List ℕ) → Follows next k rest
    → (i : ℕ) → i + 1 ≡ length (j ∷ rest) → next (get_or (j ∷ rest) i 0) ≡ None
ends-behind next j k rest behind zero last = absurd (omega (arith, last, behind.some))
ends-behind next j k rest behind (suc i) last = behind.ends i (omega (arith, last))

Follows-behind : (next : ℕ → Option ℕ) (j k : ℕ) (rest : List ℕ) → next j ≡ Some k → Follows next k rest
    → Follows next j (j ∷ rest)
Follows-behind next j k rest is behind = record {
  some = omega arith;
  starts = refl;
  follows = follows-behind next j k rest is behind;
  ends = ends-behind next j k rest behind;
}

Follows-by : (next : ℕ → Option ℕ) (n j : ℕ) (o : Option ℕ) → next j ≡ o
    → ((k : ℕ) → next j ≡ Some k → Follows next k (links next n k))
    → Follows next j (j ∷ option_map_or (links next n) o [])
Follows-by next n j None is rest = Follows-alone next j is
Follows-by next n j (Some k) is rest = Follows-behind next j k (links next n k) is (rest k is)

pub Follows-links : (next : ℕ → Option ℕ) (w n j : ℕ) → GoesOn next w → j < w → w ≤ j + n
    → Follows next j (links next n j)
unfolding links
Follows-links next w zero j on within fits = absurd (omega (arith, within, fits))
Follows-links next w (suc n) j on within fits = Follows-by next n j (next j) refl (λ k is.
    let goes = on j k is in
    Follows-links next w n k on goes.1 (omega (arith, fits, goes.0)))
