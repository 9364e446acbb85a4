-- Chains in the columns of a profile.
use Rattle.std.proofs.Common.{◌≡◌, ℕ, zero, suc, ◌+◌, ◌<◌, List, ◌∷◌, [], ◌++◌, length, Option, None, Some, sym, ap}
use Rattle.std.proofs.Common.{◌∙◌, append_assoc, add-zero, zero-add, add-one, Bool, true, false, cond, map, arith}
use Rattle.std.specs.List.{filter, range_with_len}
use Rattle.std.proofs.lemmas.List.Elements.{filter-append}
use Rattle.std.proofs.lemmas.List.{map-append, append-nil}
use Rattle.std.specs.Option.{option_map_or}
use Rattle.mp_nums.specs.declared.nearest.Near.{Near}
use Rattle.mp_results.specs.Columns.{AreColumns}
use Rattle.mp_results.specs.Chains.{successor, predecessor, chain_from}
use Rattle.mp_chains.specs.Laws.{Succeeds, ChainsFollow}
use Rattle.mp_chains.proofs.Names.{named_back-tells, named_back-same}
use Rattle.mp_chains.proofs.Links.{GoesOn, links-step, Follows-links}

pub GoesOn-successor : (left right : List (Option Near)) → AreColumns left right
    → GoesOn (successor left right) (length right)
GoesOn-successor left right columns j k is =
    let there = (named_back-tells right left j k is).0 in
    (columns.later j k there, columns.within j k there)

-- the chain from a window is that window, and then the chain from its successor
pub chain_from-step : (left right : List (Option Near)) (j : ℕ) → AreColumns left right → j < length right
    → chain_from left right j ≡ j ∷ option_map_or (chain_from left right) (successor left right j) []
chain_from-step left right j columns within =
    links-step (successor left right) (length right) j (GoesOn-successor left right columns) within

-- a chain so far, and one window more
pub chain_from-more : (left right : List (Option Near)) (j last next : ℕ) (chain : List ℕ) → AreColumns left right
    → last < length right
    → successor left right last ≡ Some next
    → chain_from left right j ≡ chain ++ option_map_or (chain_from left right) (successor left right last) []
    → chain_from left right j
    ≡ (chain ++ next ∷ []) ++ option_map_or (chain_from left right) (successor left right next) []
chain_from-more left right j last next chain columns within is before =
    let goes = GoesOn-successor left right columns last next is in
    rw is at before
    ∙ ap (λ rest. chain ++ rest) (chain_from-step left right next columns goes.1)
    ∙ sym (append_assoc chain (next ∷ []) (option_map_or (chain_from left right) (successor left right next) []))

range-more : (a n : ℕ) → range_with_len a (suc n) ≡ range_with_len a n ++ (a + n) ∷ []
range-more a zero = ap (λ k. k ∷ []) (sym (add-zero a))
range-more a (suc n) =
    let next : a + 1 + n ≡ a + suc n = omega arith in
    ap (λ rest. a ∷ rest) (rw next at (range-more (a + 1) n))

-- of the numbers below one more
pub firsts_more : (p : ℕ → Bool) (j : ℕ)
    → filter p (range_with_len 0 (j + 1)) ≡ filter p (range_with_len 0 j) ++ cond (p j) (j ∷ []) []
firsts_more p j =
    ap (λ n. filter p (range_with_len 0 n)) (add-one j)
    ∙ ap (filter p) (range-more 0 j)
    ∙ filter-append p (range_with_len 0 j) ((0 + j) ∷ [])
    ∙ ap (λ n. filter p (range_with_len 0 j) ++ cond (p n) (n ∷ []) []) (zero-add j)

-- what is made of each of them
made_more : {X : Type 0} (f : ℕ → X) (p : ℕ → Bool) (j : ℕ) (b : Bool) → p j ≡ b
    → map f (filter p (range_with_len 0 (j + 1))) ≡ map f (filter p (range_with_len 0 j)) ++ map f (cond b (j ∷ []) [])
made_more f p j b is =
    ap (map f) (firsts_more p j)
    ∙ map-append f (filter p (range_with_len 0 j)) (cond (p j) (j ∷ []) [])
    ∙ ap (λ c. map f (filter p (range_with_len 0 j)) ++ map f (cond c (j ∷ []) [])) is

pub made_more_yes : {X : Type 0} (f : ℕ → X) (p : ℕ → Bool) (j : ℕ) (xs : List X) (x : X) → p j ≡ true → x ≡ f j
    → xs ≡ map f (filter p (range_with_len 0 j)) → xs ++ x ∷ [] ≡ map f (filter p (range_with_len 0 (j + 1)))
made_more_yes f p j xs x is made so_far = rw (so_far, made) (sym (made_more f p j true is))

pub made_more_no : {X : Type 0} (f : ℕ → X) (p : ℕ → Bool) (j : ℕ) (xs : List X) → p j ≡ false
    → xs ≡ map f (filter p (range_with_len 0 j)) → xs ≡ map f (filter p (range_with_len 0 (j + 1)))
made_more_no f p j xs is so_far =
    let made = map f (filter p (range_with_len 0 j)) in
    so_far ∙ sym (made_more f p j false is ∙ append-nil made)

pub Succeeds-successor : (left right : List (Option Near)) (j k : ℕ) → successor left right j ≡ Some k
    → Succeeds left right j k
Succeeds-successor left right j k is =
    let tells = named_back-tells right left j k is in
    record { right_is = tells.0; left_is = tells.1 }

pub successor-Succeeds : (left right : List (Option Near)) (j k : ℕ) → Succeeds left right j k
    → successor left right j ≡ Some k
successor-Succeeds left right j k after = named_back-same right left j k after.right_is after.left_is

pub predecessor-Succeeds : (left right : List (Option Near)) (j k : ℕ) → Succeeds left right j k
    → predecessor left right k ≡ Some j
predecessor-Succeeds left right j k after = named_back-same left right k j after.left_is after.right_is

pub some_is_not_none : (o : Option ℕ) (k : ℕ) → o ≡ Some k → o ≡ None → ⊥
some_is_not_none o k some none = cc

pub chains_follow_on : ChainsFollow
chains_follow_on left right j columns within =
    let w = length right in
    let on = GoesOn-successor left right columns in
    let chain = Follows-links (successor left right) w w j on within (omega arith) in
    record {
      some = chain.some;
      starts = chain.starts;
      follows = λ i inside. Succeeds-successor left right _ _ (chain.follows i inside);
      ends = λ i k last after. some_is_not_none _ k (successor-Succeeds left right _ k after) (chain.ends i last);
    }
