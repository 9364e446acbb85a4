-- One more window of a farthest distance, and of a list.
use Rattle.std.proofs.Common.{◌≡◌, ℕ, zero, suc, ◌+◌, ◌-◌, ◌<◌, List, [], ◌∷◌, ◌++◌, refl, arith, ap, ◌∙◌, sym}
use Rattle.std.proofs.Common.{add-one, subst, max}
use Rattle.std.specs.Prelude.{Option, Some, None}
use Rattle.mp_nums.specs.declared.nearest.Near.{Near}
use Rattle.mp_results.specs.Consensus.{farther, farthest, listed, those_there}

-- ---- the farthest

pub farthest_zero : (f : ℕ → Option Near) → farthest f 0 ≡ Some 0
unfolding farthest
farthest_zero f = refl

pub farthest_more : (f : ℕ → Option Near) (n : ℕ) → farthest f (n + 1) ≡ farther (farthest f n) (f n)
unfolding farthest
farthest_more f n = rw add-one refl

pub farthest_takes : (f : ℕ → Option Near) (n d : ℕ) (found : Near) → farthest f n ≡ Some d → f n ≡ Some found
    → farthest f (n + 1) ≡ Some (max d found.dist.0)
farthest_takes f n d found e g = farthest_more f n ∙ ap (λ x. farther x (f n)) e ∙ ap (farther (Some d)) g

farther_none : (d : Option ℕ) → farther d None ≡ None
farther_none None = refl
farther_none (Some d) = refl

farthest_stays_none : (f : ℕ → Option Near) (n k : ℕ) → farthest f n ≡ None → farthest f (n + k) ≡ None
farthest_stays_none f n zero e = let same : n + 0 ≡ n = omega arith in subst (λ k. farthest f k ≡ None) (sym same) e
farthest_stays_none f n (suc k) e =
    let same : n + k + 1 ≡ n + suc k = omega arith in
    subst (λ k. farthest f k ≡ None) same
    (farthest_more f (n + k) ∙ ap (λ x. farther x (f (n + k))) (farthest_stays_none f n k e))

-- one of the first n isn't there
pub farthest_ends : (f : ℕ → Option Near) (q n : ℕ) → q < n → f q ≡ None → farthest f n ≡ None
farthest_ends f q n lt e =
    let same : q + 1 + (n - (q + 1)) ≡ n = omega arith in
    subst (λ k. farthest f k ≡ None) same
    (farthest_stays_none f (q + 1) (n - (q + 1))
    (farthest_more f q ∙ ap (farther (farthest f q)) e ∙ farther_none (farthest f q)))

-- ---- those that are there

pub those_zero : (f : ℕ → Option Near) → those_there f 0 ≡ []
unfolding those_there
those_zero f = refl

pub those_more : (f : ℕ → Option Near) (n : ℕ) → those_there f (n + 1) ≡ those_there f n ++ listed (f n)
unfolding those_there
those_more f n = rw add-one refl

pub those_take : (f : ℕ → Option Near) (n : ℕ) (old new : List Near) (found : Near) → old ≡ those_there f n
    → f n ≡ Some found → new ≡ old ++ found ∷ [] → new ≡ those_there f (n + 1)
those_take f n old new found e g more =
    more ∙ ap (λ items. items ++ found ∷ []) e ∙ ap (λ x. those_there f n ++ listed x) (sym g) ∙ sym (those_more f n)

append_none : (xs : List Near) → xs ++ [] ≡ xs
append_none [] = refl
append_none (x ∷ xs) = ap (λ ys. x ∷ ys) (append_none xs)

pub those_skip : (f : ℕ → Option Near) (n : ℕ) (items : List Near) → items ≡ those_there f n → f n ≡ None
    → items ≡ those_there f (n + 1)
those_skip f n items e g =
    e ∙ sym (append_none (those_there f n)) ∙ ap (λ x. those_there f n ++ listed x) (sym g) ∙ sym (those_more f n)
