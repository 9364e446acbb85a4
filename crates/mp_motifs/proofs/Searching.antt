-- The search for motifs over sorted candidates.
use Rattle.std.proofs.Common.{◌≡◌, ℕ, zero, suc, ◌+◌, ◌-◌, ◌<◌, ◌≤◌, Bool, true, false, cond, List, [], ◌∷◌, ◌++◌}
use Rattle.std.proofs.Common.{length}
use Rattle.std.proofs.Common.{get_or, map, take, drop, refl, sym, ap, ◌∙◌, subst, inl, inr, ⊎_elim, arith}
use Rattle.std.proofs.Common.{append_assoc, append-nil, length-append, length-drop}
use Rattle.std.specs.Prelude.{Option, Some, None, Contains, ◌⊎◌, ◌↔◌, ◌&&◌, filter, nat_lt, nat_le, replicate}
use Rattle.std.specs.Int.{abs_diff}
use Rattle.std.specs.List.{list_all}
use Rattle.std.specs.List.Sorted.{IsPermutation, IsSorted}
use Rattle.std.specs.Option.{option_map_or}
use Rattle.std.specs.Ordering.{is_lt, is_gt}
use Rattle.std.proofs.lemmas.Bool.Decides.{nat_tests}
use Rattle.std.proofs.lemmas.List.Sorted.{sorted_far, ranks_by, IsPermutation-sym, Contains-permutation}
use Rattle.std.proofs.lemmas.List.Sorted.{length_permutation}
use Rattle.std.proofs.Math.Seq.{take-append_seam, drop-cons}
use Rattle.std.proofs.Math.ListN.{drop_of_length-le}
use Rattle.std.proofs.lemmas.List.{map-append, length-replicate, get_or-replicate, get_or-drop}
use Rattle.mp_nums.specs.declared.finds.Motif.{Motif}
use Rattle.mp_nums.specs.declared.nearest.Near.{Near}
use Rattle.mp_picks.specs.Picks.{first_of}
use Rattle.mp_picks.specs.PickLaws.{contains_first, contains_later, contains_cases, contains_nothing, kept_passes}
use Rattle.mp_picks.specs.PickLaws.{passes_kept, swapped, first_itself, first_is_first, first_is_found}
use Rattle.mp_picks.specs.PickLaws.{none_first}
use Rattle.mp_results.specs.Order.{near_cmp, outside_all}
use Rattle.mp_results.specs.Motifs.{Repeated, repeated_of, motifs_among}
use Rattle.mp_motifs.proofs.MatchLemmas.{near_total, near_told_apart}

-- what stands in a list after all of it is written over
pub written_over : {X : Type 0} (n : ℕ) (new old : List X) → length new ≡ n
    → take n (new ++ drop (length new) old) ≡ new
written_over n new old e =
    ap (λ k. take k (new ++ drop (length new) old)) (sym e) ∙ take-append_seam new (drop (length new) old)

-- ---- filters

module _ {X : Type 0} where
  kept_first : (p : X → Bool) (x : X) (xs : List X) → p x ≡ true → filter p (x ∷ xs) ≡ x ∷ filter p xs
  kept_first p x xs e = ap (λ b. cond b (x ∷ filter p xs) (filter p xs)) e

  dropped_first : (p : X → Bool) (x : X) (xs : List X) → p x ≡ false → filter p (x ∷ xs) ≡ filter p xs
  dropped_first p x xs e = ap (λ b. cond b (x ∷ filter p xs) (filter p xs)) e

  twice_step : (q : X → Bool) (x : X) (xs ys : List X) (b : Bool) → filter q xs ≡ ys
      → filter q (cond b (x ∷ xs) xs) ≡ cond (b && q x) (x ∷ ys) ys
  twice_step q x xs ys false e = e
  twice_step q x xs ys true e = ap (λ zs. cond (q x) (x ∷ zs) zs) e

  -- those that pass one test and another
  kept_twice : (p q r : X → Bool) → ((x : X) → r x ≡ (p x && q x)) → (xs : List X)
      → filter q (filter p xs) ≡ filter r xs
  kept_twice p q r h [] = refl
  kept_twice p q r h (x ∷ xs) =
      twice_step q x (filter p xs) (filter r xs) (p x) (kept_twice p q r h xs)
      ∙ ap (λ b. cond b (x ∷ filter r xs) (filter r xs)) (sym (h x))

  kept_all : (p : X → Bool) (xs : List X) → ((x : X) → Contains xs x → p x ≡ true) → filter p xs ≡ xs
  kept_all p [] h = refl
  kept_all p (x ∷ xs) h =
      kept_first p x xs (h x (contains_first x xs))
      ∙ ap (λ ys. x ∷ ys) (kept_all p xs (λ y k. h y (contains_later x y xs k)))

  same_kept : (p : X → Bool) (xs ys : List X) → ((x : X) → Contains xs x ↔ Contains ys x) → (x : X)
      → Contains (filter p xs) x ↔ Contains (filter p ys) x
  same_kept p xs ys h x = (
    λ k. (let passed = kept_passes p x xs k in passes_kept p x ys passed.1 ((h x).0 passed.0)),
    λ k. (let passed = kept_passes p x ys k in passes_kept p x xs passed.1 ((h x).1 passed.0)),
  )

-- ---- the first candidate

none_of_none : first_of near_cmp [] ≡ None
unfolding first_of
none_of_none = refl

first_by : (xs ys : List Near) (r : Option Near) → first_of near_cmp xs ≡ r
    → ((x : Near) → Contains xs x ↔ Contains ys x) → r ≡ first_of near_cmp ys
first_by xs [] None e h = sym none_of_none
first_by xs (y ∷ ys) None e h = absurd
    (contains_nothing y (subst (λ zs. Contains zs y) (none_first near_cmp near_total xs e)
    ((h y).1 (contains_first y ys))))
first_by xs ys (Some x) e h =
    let there = first_is_first near_cmp near_total xs x e in
    sym (first_is_found near_cmp near_total ys (near_told_apart ys) x ((h x).0 there.0) (λ z k. there.1 z ((h z).1 k)))

same_first : (xs ys : List Near) → ((x : Near) → Contains xs x ↔ Contains ys x)
    → first_of near_cmp xs ≡ first_of near_cmp ys
same_first xs ys h = first_by xs ys (first_of near_cmp xs) refl h

-- a list that begins with window i
abbrev pub BeginsAt : ℕ → List Near → Type 0
BeginsAt i [] = ⊥
BeginsAt i (near ∷ nears) = near.index ≡ i

-- such a list shuts out its window
pub begins_shut : (zone i : ℕ) (list : List Near) → BeginsAt i list
    → list_all (λ near. nat_lt zone (abs_diff near.index i)) list ≡ false
begins_shut zone i [] h = absurd h
begins_shut zone i (near ∷ nears) h =
    let itself : nat_lt zone (abs_diff i i) ≡ false = grind (arith, nat_tests) in
    ap (λ n. nat_lt zone (abs_diff n i) && list_all (λ other. nat_lt zone (abs_diff other.index i)) nears) h
    ∙ ap (λ b. b && list_all (λ other. nat_lt zone (abs_diff other.index i)) nears) itself

-- so many beside the first
enough_beside : (neighbours i : ℕ) (list : List Near) → BeginsAt i list
    → nat_le neighbours (length list - 1) ≡ nat_lt neighbours (length list)
enough_beside neighbours i [] h = absurd h
enough_beside neighbours i (near ∷ nears) h = one_more neighbours (length nears)
  where
    one_more : (a b : ℕ) → nat_le a (suc b - 1) ≡ nat_lt a (suc b)
    one_more a b = grind (arith, nat_tests)

-- what is marked is shut out by such a list
abbrev pub ShutsOut : ℕ → List Bool → List Bool → List Near → Type 0
ShutsOut zone old new list = (other : ℕ)
    → get_or new other false
    ≡ (get_or old other false && list_all (λ near. nat_lt zone (abs_diff near.index other)) list)

-- those whose places aren't shut out
abbrev pub free_ones : List Bool → List Near → List Near
free_ones is_free nears = filter (λ near. get_or is_free near.index false) nears

abbrev is_open : List Bool → Near → Bool
is_open is_free near = get_or is_free near.index false

module _ (matches_at : ℕ → List Near) (zone neighbours : ℕ) where
  abbrev among : ℕ → ℕ → List Near → List Repeated
  among = motifs_among matches_at zone neighbours

  abbrev kept_of : ℕ → Bool
  kept_of i = nat_le neighbours (length (matches_at i) - 1)

  -- what one candidate and those that are left after it give
  abbrev after_one : ℕ → ℕ → List Near → Near → List Repeated
  after_one rounds count left first =
      let found = matches_at first.index in
      let is_kept = nat_le neighbours (length found - 1) in
      let others = among rounds (cond is_kept count (suc count)) (outside_all zone found left) in
      cond is_kept (record { start = first.index; matches = found } ∷ others) others

  none_among : (rounds : ℕ) (left : List Near) → among rounds 0 left ≡ []
  unfolding motifs_among
  none_among zero left = refl
  none_among (suc rounds) left = refl

  pub among_none : (rounds count : ℕ) → among rounds count [] ≡ []
  unfolding motifs_among first_of
  among_none zero count = refl
  among_none (suc rounds) zero = refl
  among_none (suc rounds) (suc count) = refl

  one_tried : (rounds count : ℕ) (left : List Near) (first : Near) → first_of near_cmp left ≡ Some first
      → among (suc rounds) (suc count) left ≡ after_one rounds count left first
  unfolding motifs_among
  one_tried rounds count left first e = ap (λ r. option_map_or (after_one rounds count left) r []) e

  same_by : (rounds count : ℕ) (xs ys : List Near) (r : Option Near) → ((x : Near) → Contains xs x ↔ Contains ys x)
      → ((n : ℕ) (us vs : List Near) → ((x : Near) → Contains us x ↔ Contains vs x)
      → among rounds n us ≡ among rounds n vs)
      → option_map_or (after_one rounds count xs) r [] ≡ option_map_or (after_one rounds count ys) r []
  same_by rounds count xs ys None h ih = refl
  same_by rounds count xs ys (Some first) h ih =
      let found = matches_at first.index in
      let test = λ (near : Near). list_all (λ other. nat_lt zone (abs_diff other.index near.index)) found in
      ap (λ others. cond (kept_of first.index) (record { start = first.index; matches = found } ∷ others) others)
      (ih (cond (kept_of first.index) count (suc count)) (outside_all zone found xs) (outside_all zone found ys)
      (same_kept test xs ys h))

  -- the motifs rest on which candidates there are, and not on their order
  same_among : (rounds count : ℕ) (xs ys : List Near) → ((x : Near) → Contains xs x ↔ Contains ys x)
      → among rounds count xs ≡ among rounds count ys
  unfolding motifs_among
  same_among zero count xs ys h = refl
  same_among (suc rounds) zero xs ys h = refl
  same_among (suc rounds) (suc count) xs ys h =
      ap (λ r. option_map_or (after_one rounds count xs) r []) (same_first xs ys h)
      ∙ same_by rounds count xs ys (first_of near_cmp ys) h (λ n us vs. same_among rounds n us vs)

  module _ (count : ℕ) (all sorted : List Near) where
    -- the motifs found so far, and those that would be found of the candidates not tried yet, are the motifs of all
    pub record IsSearching (places i : ℕ) (is_free : List Bool) (found : List Motif) : Type 0 where
      pub long : length is_free ≡ places
      pub few : length found ≤ count
      pub rounds : ℕ
      pub enough : length sorted - i ≤ rounds
      pub whole : map repeated_of found ++ among rounds (count - length found) (free_ones is_free (drop i sorted))
          ≡ among (length all) count all

    pub search_starts : (places : ℕ) (is_free : List Bool) (found : List Motif) → is_free ≡ replicate places true
        → found ≡ [] → IsPermutation all sorted
        → ((x : Near) → Contains all x → x.index < places) → IsSearching places 0 is_free found
    search_starts places is_free found free none same within =
        let nothing = ap length none in
        let count_is : count - length found ≡ count = omega arith in
        let back = IsPermutation-sym all sorted same in
        let all_free = kept_all (is_open is_free) sorted
        (λ x k. ap (λ bs. get_or bs x.index false) free ∙ get_or-replicate places x.index true false
        (within x (Contains-permutation sorted all x back k))) in
        record {
          long = ap length free ∙ length-replicate places true;
          few = omega arith;
          rounds = length all;
          enough = omega (arith, length_permutation all sorted same);
          whole = ap (λ ms. map repeated_of ms ++ among (length all) (count - length found)
              (free_ones is_free sorted)) none
              ∙ ap (λ n. among (length all) n (free_ones is_free sorted)) count_is
              ∙ ap (among (length all) count) all_free
              ∙ same_among (length all) count sorted all
              (λ x. (Contains-permutation sorted all x back, Contains-permutation all sorted x same));
        }

    pub search_ends : (places i : ℕ) (is_free : List Bool) (found : List Motif) → IsSearching places i is_free found
        → (count ≤ length found) ⊎ (length sorted ≤ i) → map repeated_of found ≡ among (length all) count all
    search_ends places i is_free found h (inl enough) =
        let none : count - length found ≡ 0 = omega arith in
        sym (append-nil (map repeated_of found))
        ∙ ap (λ rs. map repeated_of found ++ rs) (sym (none_among h.rounds (free_ones is_free (drop i sorted))))
        ∙ ap (λ n. map repeated_of found ++ among h.rounds n (free_ones is_free (drop i sorted))) (sym none)
        ∙ h.whole
    search_ends places i is_free found h (inr past) =
        sym (append-nil (map repeated_of found))
        ∙ ap (λ rs. map repeated_of found ++ rs) (sym (among_none h.rounds (count - length found)))
        ∙ ap (λ xs. map repeated_of found ++ among h.rounds (count - length found) (free_ones is_free xs))
        (sym (drop_of_length-le sorted past))
        ∙ h.whole

    module _ (places i : ℕ) (is_free : List Bool) (found : List Motif) (x : Near)
        (h : IsSearching places i is_free found) (lt : i < length sorted)
        (here : (d : Near) → get_or sorted i d ≡ x) where
      rest_is : drop i sorted ≡ x ∷ drop (i + 1) sorted
      rest_is =
          let next : suc i ≡ i + 1 = omega arith in
          drop-cons sorted i x lt ∙ ap (λ y. y ∷ drop (suc i) sorted) (here x) ∙ ap (λ n. x ∷ drop n sorted) next

      -- a candidate that is shut out is passed over
      pub passed_over : get_or is_free x.index false ≡ false → IsSearching places (i + 1) is_free found
      passed_over shut = record {
        long = h.long;
        few = h.few;
        rounds = h.rounds;
        enough = (let enough = h.enough in omega arith);
        whole = ap (λ xs. map repeated_of found ++ among h.rounds (count - length found) xs)
            (sym (ap (free_ones is_free) rest_is ∙ dropped_first (is_open is_free) x (drop (i + 1) sorted) shut))
            ∙ h.whole;
      }

      module _ (up : IsSorted near_cmp sorted) (free : get_or is_free x.index false ≡ true)
          (room : length found < count)
          (list : List Near) (list_is : list ≡ matches_at x.index) (begins : BeginsAt x.index list)
          (after : List Bool) (long : length after ≡ length is_free)
          (shut : ShutsOut zone is_free after list) where
        abbrev others : List Near
        others = free_ones is_free (drop (i + 1) sorted)

        candidate_first : first_of near_cmp (x ∷ others) ≡ Some x
        candidate_first = first_is_found near_cmp near_total (x ∷ others) (near_told_apart (x ∷ others)) x
            (contains_first x others)
            (λ y k. ⊎_elim (λ same. subst (λ z. is_gt (near_cmp x z) ≡ false) same
            (first_itself near_cmp near_total x))
            (λ later. behind y (kept_passes (is_open is_free) y (drop (i + 1) sorted) later).0)
            (contains_cases x y others k))
          where
            behind : (y : Near) → Contains (drop (i + 1) sorted) y → is_gt (near_cmp x y) ≡ false
            behind y (k, less, e) =
                let there : get_or sorted (i + 1 + k) y ≡ y = sym (get_or-drop (i + 1) sorted k y) ∙ e in
                let within : i + 1 + k < length sorted = omega (arith, less, length-drop (i + 1) sorted) in
                let far = sorted_far (λ a b. is_lt (near_cmp a b)) (ranks_by near_total (λ a. a)) sorted up i
                (i + 1 + k) y (omega arith) within in
                sym (swapped near_cmp near_total x y)
                ∙ subst (λ (w : Near). is_lt (near_cmp w x) ≡ false) there
                (subst (λ (v : Near). is_lt (near_cmp (get_or sorted (i + 1 + k) y) v) ≡ false) (here y) far)

        left_after : outside_all zone (matches_at x.index) (x ∷ others) ≡ free_ones after (drop (i + 1) sorted)
        left_after =
            ap (λ nears. outside_all zone nears (x ∷ others)) (sym list_is)
            ∙ dropped_first (λ near. list_all (λ other. nat_lt zone (abs_diff other.index near.index)) list) x others
            (begins_shut zone x.index list begins)
            ∙ kept_twice (is_open is_free)
            (λ near. list_all (λ other. nat_lt zone (abs_diff other.index near.index)) list) (is_open after)
            (λ near. shut near.index) (drop (i + 1) sorted)

        abbrev rounds_left : ℕ
        rounds_left = h.rounds - 1

        abbrev room_left : ℕ
        room_left = count - (length found + 1)

        -- what the candidate and those behind it give
        step_is : (b : Bool) → nat_lt neighbours (length list) ≡ b
            → among h.rounds (count - length found) (free_ones is_free (drop i sorted))
            ≡ (let rest = among rounds_left (cond b room_left (suc room_left))
            (free_ones after (drop (i + 1) sorted)) in
            cond b (record { start = x.index; matches = list } ∷ rest) rest)
        step_is b test =
            let enough = h.enough in
            let round : h.rounds ≡ suc rounds_left = omega arith in
            let one : count - length found ≡ suc room_left = omega arith in
            let kept_is : kept_of x.index ≡ b = ap (λ nears. nat_le neighbours (length nears - 1)) (sym list_is)
            ∙ enough_beside neighbours x.index list begins ∙ test in
            (λ k. among (round k) (one k) (free_ones is_free (drop i sorted)))
            ∙ ap (among (suc rounds_left) (suc room_left))
            (ap (free_ones is_free) rest_is ∙ kept_first (is_open is_free) x (drop (i + 1) sorted) free)
            ∙ one_tried rounds_left room_left (x ∷ others) x candidate_first
            ∙ (λ k. (let rest = among rounds_left (cond (kept_is k) room_left (suc room_left)) (left_after k) in
            cond (kept_is k) (record { start = x.index; matches = list_is_back k } ∷ rest) rest))
          where
            list_is_back : matches_at x.index ≡ list
            list_is_back = sym list_is

        -- a candidate that others match is kept
        pub tried_and_kept : (motif : Motif) → repeated_of motif ≡ record { start = x.index; matches = list }
            → nat_lt neighbours (length list) ≡ true
            → IsSearching places (i + 1) after (found ++ motif ∷ [])
        tried_and_kept motif e test =
            let more : length (found ++ motif ∷ []) ≡ length found + 1 = omega
            (arith, length-append found (motif ∷ [])) in
            let rest = among rounds_left room_left (free_ones after (drop (i + 1) sorted)) in
            record {
              long = long ∙ h.long;
              few = omega arith;
              rounds = rounds_left;
              enough = (let enough = h.enough in omega arith);
              whole = ap (λ n. map repeated_of (found ++ motif ∷ []) ++ among rounds_left (count - n)
                  (free_ones after (drop (i + 1) sorted))) more
                  ∙ ap (λ rs. rs ++ rest) (map-append repeated_of found (motif ∷ []))
                  ∙ append_assoc (map repeated_of found) (repeated_of motif ∷ []) rest
                  ∙ ap (λ r. map repeated_of found ++ r ∷ rest) e
                  ∙ ap (λ rs. map repeated_of found ++ rs) (sym (step_is true test))
                  ∙ h.whole;
            }

        -- a candidate that too few match isn't kept
        pub tried_and_left : nat_lt neighbours (length list) ≡ false → IsSearching places (i + 1) after found
        tried_and_left test =
            let one : count - length found ≡ suc room_left = omega arith in
            record {
              long = long ∙ h.long;
              few = h.few;
              rounds = rounds_left;
              enough = (let enough = h.enough in omega arith);
              whole = ap (λ n. map repeated_of found ++ among rounds_left n (free_ones after (drop (i + 1) sorted))) one
                  ∙ ap (λ rs. map repeated_of found ++ rs) (sym (step_is false test))
                  ∙ h.whole;
            }
