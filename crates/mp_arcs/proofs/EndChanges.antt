-- What changes of one window do to the numbers of ends.
use Rattle.std.proofs.Common.{◌≡◌, ℕ, ◌+◌, ◌-◌, ◌<◌, ◌≤◌, min, max, List, [], ◌∷◌, ◌++◌, length, get_or, set}
use Rattle.std.proofs.Common.{length-set, Option, None, Some, IfSome, refl, sym, ap, ◌∙◌, zero-add, arith, ⊎_elim}
use Rattle.std.proofs.Common.{subst, ◌≢◌, get_or-set_same, get_or-set_other, length-append}
use Rattle.std.proofs.lemmas.List.{get_or_append_left}
use Rattle.std.proofs.Math.Seq.{get_or-append_seam}
use Rattle.std.specs.Prelude.{◌==◌, slice_get}
use Rattle.std.proofs.lemmas.Bool.{cases_eq}
use Rattle.std.proofs.lemmas.Bool.Decides.{nat_tests}
use Rattle.std.proofs.lemmas.Option.{get_or_from_slice_get, slice_get_within, slice_get-get_or, same_Some, none-some}
use Rattle.mp_series.specs.declared.limits.TheConstants.{MAX_SAMPLES}
use Rattle.mp_arcs.specs.Board.{has_end, ends_at, CountEnds, AreEnds}
use Rattle.mp_results.specs.Arcs.{NameWithin}
use Rattle.mp_arcs.proofs.Counting.{tally, passing-push, passing-none}
use Rattle.mp_arcs.proofs.EndLemmas.{ends_at-le, ends_at-set, CountEnds-changed}

same_name : (x : Option ℕ) (l n : ℕ) → IfSome x (λ j. j < n) → x ≡ Some l → l < n
same_name None l n within is = absurd (none-some l is)
same_name (Some j) l n within is = subst (λ k. k < n) (same_Some j l is) within

-- a window that names another one of them, or none
pub named-set : (xs : List (Option ℕ)) (i : ℕ) (x : Option ℕ) → NameWithin xs → IfSome x (λ j. j < length xs)
    → NameWithin (set xs i x)
named-set xs i x named within k l is =
    let inside : k < length xs = omega (arith, slice_get_within (set xs i x) k (Some l) is, length-set xs i x) in
    let there : get_or (set xs i x) k None ≡ Some l = get_or_from_slice_get (set xs i x) k (Some l) None is in
    let small : l < length xs = ⊎_elim
    (λ (e : k ≡ i).
    let at_i : get_or (set xs i x) i None ≡ Some l = rw e at there in
    same_name x l (length xs) within (sym (get_or-set_same xs i x None (omega (arith, inside, e))) ∙ at_i))
    (λ (ne : k ≢ i).
    named k l (slice_get-get_or xs k None inside ∙ ap Some (sym (get_or-set_other xs i k x None ne) ∙ there)))
    (cases_eq k i) in
    omega (arith, small, length-set xs i x)

not_end : (n t : ℕ) → t ≢ n → tally (n == t) ≡ 0
not_end n t ne = grind (arith, nat_tests, ne)

is_end : (n t : ℕ) → t ≡ n → tally (n == t) ≡ 1
is_end n t is = grind (arith, nat_tests, is)

module _ (which : ℕ → ℕ → ℕ) (xs : List (Option ℕ)) (counts : List ℕ) (i j at : ℕ) (end : at ≡ which i j)
    (kept : CountEnds which xs counts) (inside : at < length xs) where
  -- numbers of ends are no more than there are windows, and not 0 where there is one
  pub count_bound : length xs ≤ MAX_SAMPLES → get_or counts at 0 ≤ MAX_SAMPLES
  count_bound few = omega (arith, few, kept.each at inside, ends_at-le which xs at)

  pub count_some : slice_get xs i ≡ Some (Some j) → 0 < get_or counts at 0
  count_some is =
      omega (arith, kept.each at inside, ends_at-set which at i xs None (Some j) is, is_end (which i j) at end)

  -- an arc that goes
  CountEnds-erase : slice_get xs i ≡ Some (Some j)
      → CountEnds which (set xs i None) (set counts at (get_or counts at 0 - 1))
  CountEnds-erase is = CountEnds-changed which xs (set xs i None) counts at (get_or counts at 0 - 1) kept
      (length-set xs i None)
      inside
      (omega (arith, ends_at-set which at i xs None (Some j) is, kept.each at inside, is_end (which i j) at end))
      (λ t ne.
      let other = not_end (which i j) t (λ e. ne (e ∙ sym end)) in
      omega (arith, ends_at-set which t i xs None (Some j) is, other))

  -- an arc that comes
  CountEnds-draw : slice_get xs i ≡ Some None
      → CountEnds which (set xs i (Some j)) (set counts at (get_or counts at 0 + 1))
  CountEnds-draw is = CountEnds-changed which xs (set xs i (Some j)) counts at (get_or counts at 0 + 1) kept
      (length-set xs i (Some j))
      inside
      (omega (arith, ends_at-set which at i xs (Some j) None is, kept.each at inside, is_end (which i j) at end))
      (λ t ne.
      let other = not_end (which i j) t (λ e. ne (e ∙ sym end)) in
      omega (arith, ends_at-set which t i xs (Some j) None is, other))

-- no end is behind the last window
no_end : (which : ℕ → ℕ → ℕ) (n i : ℕ) (x : Option ℕ) → ((k l : ℕ) → k < n → l < n → which k l < n)
    → i < n → IfSome x (λ j. j < n) → tally (has_end which n (i, x)) ≡ 0
no_end which n i None within inside named = refl
no_end which n i (Some j) within inside named = not_end (which i j) n (λ e. omega (arith, e, within i j inside named))

names : (xs : List (Option ℕ)) (i : ℕ) (x : Option ℕ) → NameWithin xs → slice_get xs i ≡ Some x
    → IfSome x (λ j. j < length xs)
names xs i None named is = tt
names xs i (Some j) named is = named i j is

ends_at-none : (which : ℕ → ℕ → ℕ) (xs : List (Option ℕ))
    → ((k l : ℕ) → k < length xs → l < length xs → which k l < length xs)
    → NameWithin xs → ends_at which xs (length xs) ≡ 0
ends_at-none which xs within named = passing-none (has_end which (length xs)) 0 xs (λ i d inside.
    let here : 0 + i ≡ i = zero-add i in
    rw here (no_end which (length xs) i (get_or xs i d) within inside
    (names xs i (get_or xs i d) named (slice_get-get_or xs i d inside))))

ends_at-push : (which : ℕ → ℕ → ℕ) (xs : List (Option ℕ)) (t : ℕ)
    → ends_at which (xs ++ None ∷ []) t ≡ ends_at which xs t
ends_at-push which xs t = omega (arith, passing-push (has_end which t) 0 xs None)

-- a window behind the others, without an arc
CountEnds-grow : (which : ℕ → ℕ → ℕ) (xs : List (Option ℕ)) (counts : List ℕ)
    → ((k l : ℕ) → k < length xs → l < length xs → which k l < length xs)
    → NameWithin xs → CountEnds which xs counts → CountEnds which (xs ++ None ∷ []) (counts ++ 0 ∷ [])
CountEnds-grow which xs counts within named kept = record {
  as_long = omega (arith, length-append xs (None ∷ []), length-append counts (0 ∷ []), kept.as_long);
  each = λ t inside. ⊎_elim
      (λ (e : t ≡ length xs).
      let behind : get_or (counts ++ 0 ∷ []) (length xs) 0 ≡ 0 =
      rw kept.as_long at (get_or-append_seam counts 0 [] 0) in
      ap (λ k. get_or (counts ++ 0 ∷ []) k 0) e ∙ behind ∙ sym (ends_at-none which xs within named)
      ∙ ap (ends_at which xs) (sym e) ∙ sym (ends_at-push which xs t))
      (λ (ne : t ≢ length xs).
      let before : t < length xs = omega (arith, inside, length-append xs (None ∷ []), ne) in
      get_or_append_left counts (0 ∷ []) 0 t (omega (arith, before, kept.as_long)) ∙ kept.each t before
      ∙ sym (ends_at-push which xs t))
      (cases_eq t (length xs));
}

named-push : (xs : List (Option ℕ)) → NameWithin xs → NameWithin (xs ++ None ∷ [])
named-push xs named k l is =
    let there : get_or (xs ++ None ∷ []) k None ≡ Some l = get_or_from_slice_get (xs ++ None ∷ []) k (Some l) None is in
    let inside = slice_get_within (xs ++ None ∷ []) k (Some l) is in
    let more = length-append xs (None ∷ []) in
    ⊎_elim
    (λ (e : k ≡ length xs). absurd (none-some l (sym (get_or-append_seam xs None [] None)
    ∙ ap (λ n. get_or (xs ++ None ∷ []) n None) (sym e) ∙ there)))
    (λ (ne : k ≢ length xs).
    let before : k < length xs = omega (arith, inside, more, ne) in
    let same = sym (get_or_append_left xs (None ∷ []) None k before) ∙ there in
    let small = named k l (slice_get-get_or xs k None before ∙ ap Some same) in
    omega (arith, small, more))
    (cases_eq k (length xs))

pub AreEnds-grow : (xs : List (Option ℕ)) (begun ended : List ℕ) → length xs < MAX_SAMPLES → AreEnds xs begun ended
    → AreEnds (xs ++ None ∷ []) (begun ++ 0 ∷ []) (ended ++ 0 ∷ [])
AreEnds-grow xs begun ended room kept = record {
  few = omega (arith, length-append xs (None ∷ []), room);
  named = named-push xs kept.named;
  begun_is = CountEnds-grow min xs begun (λ k l a b. grind (arith, a, b)) kept.named kept.begun_is;
  ended_is = CountEnds-grow max xs ended (λ k l a b. grind (arith, a, b)) kept.named kept.ended_is;
}

-- the lesser and the greater of two
pub lesser_within : (i j n b : ℕ) → b ≡ min i j → i < n → j < n → b < n
lesser_within i j n b is first second = grind (arith, is, first, second)

pub greater_within : (i j n e : ℕ) → e ≡ max i j → i < n → j < n → e < n
greater_within i j n e is first second = grind (arith, is, first, second)

module _ (xs : List (Option ℕ)) (begun ended : List ℕ) (i j b e : ℕ) (lesser : b ≡ min i j)
    (greater : e ≡ max i j) where
  pub AreEnds-erase : slice_get xs i ≡ Some (Some j) → AreEnds xs begun ended
      → AreEnds (set xs i None) (set begun b (get_or begun b 0 - 1)) (set ended e (get_or ended e 0 - 1))
  AreEnds-erase is kept =
      let inside = slice_get_within xs i (Some j) is in
      let named = kept.named i j is in
      let before = lesser_within i j (length xs) b lesser inside named in
      let behind = greater_within i j (length xs) e greater inside named in
      record {
        few = omega (arith, length-set xs i None, kept.few);
        named = named-set xs i None kept.named tt;
        begun_is = CountEnds-erase min xs begun i j b lesser kept.begun_is before is;
        ended_is = CountEnds-erase max xs ended i j e greater kept.ended_is behind is;
      }

  pub AreEnds-draw : slice_get xs i ≡ Some None → j < length xs → AreEnds xs begun ended
      → AreEnds (set xs i (Some j)) (set begun b (get_or begun b 0 + 1)) (set ended e (get_or ended e 0 + 1))
  AreEnds-draw is named kept =
      let inside = slice_get_within xs i None is in
      let before = lesser_within i j (length xs) b lesser inside named in
      let behind = greater_within i j (length xs) e greater inside named in
      record {
        few = omega (arith, length-set xs i (Some j), kept.few);
        named = named-set xs i (Some j) kept.named named;
        begun_is = CountEnds-draw min xs begun i j b lesser kept.begun_is before is;
        ended_is = CountEnds-draw max xs ended i j e greater kept.ended_is behind is;
      }

-- what an index read tells
pub some_at : (xs : List (Option ℕ)) (i j : ℕ) → i < length xs → get_or xs i None ≡ Some j
    → slice_get xs i ≡ Some (Some j)
some_at xs i j inside is = slice_get-get_or xs i None inside ∙ ap Some is
