-- One place more of a list that is written or that grows.
use Rattle.std.proofs.Common.{◌≡◌, ℕ, ◌+◌, ◌<◌, inl, inr, List, [], ◌∷◌, ◌++◌, length, get_or, set, sym, arith}
use Rattle.std.proofs.Common.{subst, ap, refl, take, drop}
use Rattle.std.proofs.Common.{◌∙◌, below_more}
use Rattle.std.proofs.Math.ListN.{get_or-append}
use Rattle.std.proofs.Math.Seq.{get_or-append_seam}
use Rattle.std.proofs.lemmas.Bool.{cases_eq}
use Rattle.std.proofs.lemmas.List.{get_or-set_same, get_or-set_other}

-- what holds of each place before t, and then of place t
pub set_more : {A : Type 0} (none : A) (P : ℕ → A → Type 0) (xs : List A) (t : ℕ) (y : A) → t < length xs
    → ((q : ℕ) → q < t → P q (get_or xs q none)) → P t y → (q : ℕ) → q < t + 1 → P q (get_or (set xs t y) q none)
set_more none P xs t y lt before here q below = elim (cases_eq q t) [
  | inl same ↦ subst (λ p. P p (get_or (set xs t y) p none)) (sym same)
      (subst (P t) (sym (get_or-set_same xs t y none lt)) here)
  | inr other ↦ subst (P q) (sym (get_or-set_other xs t q y none other)) (before q (omega (arith, below, other)))
]

-- what holds of each place, and then of one behind them
pub push_more : {A : Type 0} (none : A) (P : ℕ → A → Type 0) (xs : List A) (t : ℕ) (y : A) → length xs ≡ t
    → ((q : ℕ) → q < t → P q (get_or xs q none)) → P t y
    → (q : ℕ) → q < t + 1 → P q (get_or (xs ++ y ∷ []) q none)
push_more none P xs t y long before here =
    below_more (λ q. P q (get_or (xs ++ y ∷ []) q none)) t
    (λ q less. subst (P q) (sym (get_or-append xs (y ∷ []) none q (omega (arith, less, long)))) (before q less))
    (subst (P t) (sym (ap (λ q. get_or (xs ++ y ∷ []) q none) (sym long) ∙ get_or-append_seam xs y [] none)) here)

-- a list that was lent and given back
pub front_taken : {A : Type 0} (xs ys : List A) → take (length xs) (xs ++ ys) ≡ xs
front_taken [] ys = refl
front_taken (x ∷ xs) ys = ap (λ l. x ∷ l) (front_taken xs ys)

pub given_back : (whole old new : List ℕ) → whole ≡ take (length old) (new ++ drop (length new) old)
    → length new ≡ length old → whole ≡ new
given_back whole old new e same =
    e ∙ ap (λ n. take n (new ++ drop (length new) old)) (sym same) ∙ front_taken new (drop (length new) old)
