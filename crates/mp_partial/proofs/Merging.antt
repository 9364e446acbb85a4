-- What becomes of columns that go together when one of them changes.
use Rattle.std.proofs.Common.{◌≡◌, ℕ, zero, suc, ◌+◌, ◌<◌, ◌≤◌, [], ◌∷◌, ◌++◌, length, get_or, set, refl, sym, ap, ◌∙◌}
use Rattle.std.proofs.Common.{◌-◌, inl, inr, arith, subst}
use Rattle.std.specs.Prelude.{Option, Some, None}
use Rattle.std.specs.Simd.Lanes.{zip2}
use Rattle.std.proofs.lemmas.Bool.{cases_eq}
use Rattle.std.proofs.lemmas.List.{ext_get_or, length-set, length_push, get_or-set_same, get_or-set_other}
use Rattle.std.proofs.lemmas.Simd.{length-zip2, get_or-zip2}
use Rattle.mp_nums.specs.declared.nearest.Near.{Near}
use Rattle.mp_nums.specs.Near.{nearer_of}
use Rattle.mp_nums.specs.NearLaws.{nearer_commutes, nearer_associates, nearer_repeats, nearer_with_none}
use Rattle.mp_partial.specs.Values.{Column, merged_column, empty_column, offered}
use Rattle.mp_partial.specs.Profiled.{IsProfile}
use Rattle.mp_partial.specs.Patching.{placed, IsCovered}
use Rattle.mp_partial.specs.PatchingLaws.{either_below, length_placed, placed_within, placed_before, placed_behind}
use Rattle.mp_partial.specs.PatchingLaws.{crossed}
use Rattle.mp_partial.specs.MergeLaws.{zip_commutes, zip_associates, zip_repeats}

-- ---- one column

-- the places before i are merged, and the others are as before
pub record IsMergedBelow (old other : Column) (i : ℕ) (new : Column) : Type 0 where
  pub places : length new ≡ length old
  pub before : (k : ℕ) → k < i → get_or new k None ≡ nearer_of (get_or old k None) (get_or other k None)
  pub from : (k : ℕ) → i ≤ k → get_or new k None ≡ get_or old k None

pub merged_when_all : (old other new : Column) (i : ℕ) → length other ≡ length old → i ≡ length old
    → IsMergedBelow old other i new → new ≡ merged_column old other
merged_when_all old other new i l e h =
    ext_get_or None new (merged_column old other) (h.places ∙ sym (length-zip2 nearer_of old other (sym l)))
    (λ k lt. h.before k (omega (arith, h.places))
    ∙ sym (get_or-zip2 nearer_of old other k None None None (omega (arith, h.places)) (omega (arith, h.places))))

-- ---- a part of a column

-- before a part nothing changes
pub merged_part_starts : (size : ℕ) (old slots : Column) (first k : ℕ) → size ≡ length old → first + length slots ≤ size
    → k ≡ first → IsMergedBelow old (placed size first slots) k old
merged_part_starts size old slots first k same fits e = record {
  places = refl;
  before = λ j lt. sym (ap (nearer_of (get_or old j None))
      (placed_before size first j slots (omega arith) (omega arith))
      ∙ (nearer_with_none (get_or old j None)).1);
  from = λ j le. refl;
}

merged_next : (old other new : Column) (i : ℕ) (slot : Option Near) → i < length old → IsMergedBelow old other i new
    → slot ≡ nearer_of (get_or new i None) (get_or other i None) → IsMergedBelow old other (i + 1) (set new i slot)
merged_next old other new i slot lt h e = record {
  places = length-set new i slot ∙ h.places;
  before = λ k below. elim (cases_eq k i) [
    | inl same ↦ subst (λ j. get_or (set new i slot) j None ≡ nearer_of (get_or old j None) (get_or other j None))
        (sym same) (get_or-set_same new i slot None (omega (arith, h.places)) ∙ e
        ∙ ap (λ x. nearer_of x (get_or other i None)) (h.from i (omega arith)))
    | inr ne ↦ get_or-set_other new i k slot None ne ∙ h.before k (omega (arith, ne))
  ];
  from = λ k le. get_or-set_other new i k slot None (λ e'. absurd (omega arith)) ∙ h.from k (omega arith);
}

pub merged_part_next : (size : ℕ) (old slots new : Column) (first k : ℕ) (slot : Option Near) → size ≡ length old
    → first + length slots ≤ size → k < length slots → IsMergedBelow old (placed size first slots) (first + k) new
    → slot ≡ nearer_of (get_or new (first + k) None) (get_or slots k None)
    → IsMergedBelow old (placed size first slots) (first + (k + 1)) (set new (first + k) slot)
merged_part_next size old slots new first k slot same fits lt h e =
    let here : first + k - first ≡ k = omega arith in
    let more : first + k + 1 ≡ first + (k + 1) = omega arith in
    subst (λ n. IsMergedBelow old (placed size first slots) n (set new (first + k) slot)) more
    (merged_next old (placed size first slots) new (first + k) slot (omega arith) h
    (e ∙ ap (nearer_of (get_or new (first + k) None))
    (sym (placed_within size first (first + k) slots (omega arith) (omega arith)
    ∙ ap (λ j. get_or slots j None) here))))

pub merged_part_ends : (size : ℕ) (old slots new : Column) (first i : ℕ) → size ≡ length old
    → first + length slots ≤ size → i ≡ first + length slots → IsMergedBelow old (placed size first slots) i new
    → new ≡ merged_column old (placed size first slots)
merged_part_ends size old slots new first i same fits e h =
    merged_when_all old (placed size first slots) new (length old) (length_placed size first slots ∙ same) refl record {
      places = h.places;
      before = λ k lt. elim (either_below k i) [
        | inl below ↦ h.before k below
        | inr behind ↦ h.from k behind ∙ sym (ap (nearer_of (get_or old k None))
            (placed_behind size first k slots (omega arith) (omega arith)) ∙ (nearer_with_none (get_or old k None)).1)
      ];
      from = λ k le. h.from k (omega arith);
    }

-- ---- columns that go together

set_zip_first : (f : Option Near → Option Near → Option Near) → (xs ys : Column) (i : ℕ) (x : Option Near)
    → length ys ≡ length xs → i < length xs → zip2 f (set xs i x) ys ≡ set (zip2 f xs ys) i (f x (get_or ys i None))
set_zip_first f [] ys i x l lt = refl
set_zip_first f (a ∷ xs) [] i x l lt = absurd (omega arith)
set_zip_first f (a ∷ xs) (b ∷ ys) zero x l lt = refl
set_zip_first f (a ∷ xs) (b ∷ ys) (suc i) x l lt =
    ap (λ zs. f a b ∷ zs) (set_zip_first f xs ys i x (omega arith) (omega arith))

set_zip_last : (f : Option Near → Option Near → Option Near) → (xs ys : Column) (i : ℕ) (y : Option Near)
    → length ys ≡ length xs → i < length xs → zip2 f xs (set ys i y) ≡ set (zip2 f xs ys) i (f (get_or xs i None) y)
set_zip_last f [] ys i y l lt = absurd (omega arith)
set_zip_last f (a ∷ xs) [] i y l lt = absurd (omega arith)
set_zip_last f (a ∷ xs) (b ∷ ys) zero y l lt = refl
set_zip_last f (a ∷ xs) (b ∷ ys) (suc i) y l lt =
    ap (λ zs. f a b ∷ zs) (set_zip_last f xs ys i y (omega arith) (omega arith))

-- what is found on one side is found among both
pub offered_first : (left right : Column) (i : ℕ) (found : Near) → length right ≡ length left → i < length left
    → merged_column (offered left i found) right ≡ offered (merged_column left right) i found
offered_first left right i found l lt =
    let swapped : nearer_of (nearer_of (get_or left i None) (Some found)) (get_or right i None)
    ≡ nearer_of (nearer_of (get_or left i None) (get_or right i None)) (Some found) =
    nearer_associates (get_or left i None) (Some found) (get_or right i None)
    ∙ ap (nearer_of (get_or left i None)) (nearer_commutes (Some found) (get_or right i None))
    ∙ sym (nearer_associates (get_or left i None) (get_or right i None) (Some found)) in
    set_zip_first nearer_of left right i (nearer_of (get_or left i None) (Some found)) l lt
    ∙ ap (set (merged_column left right) i)
    (swapped ∙ ap (λ x. nearer_of x (Some found))
    (sym (get_or-zip2 nearer_of left right i None None None lt (omega arith))))

pub offered_last : (left right : Column) (i : ℕ) (found : Near) → length right ≡ length left → i < length left
    → merged_column left (offered right i found) ≡ offered (merged_column left right) i found
offered_last left right i found l lt =
    set_zip_last nearer_of left right i (nearer_of (get_or right i None) (Some found)) l lt
    ∙ ap (set (merged_column left right) i)
    (sym (nearer_associates (get_or left i None) (get_or right i None) (Some found))
    ∙ ap (λ x. nearer_of x (Some found))
    (sym (get_or-zip2 nearer_of left right i None None None lt (omega arith))))

-- what doesn't change one side doesn't change both
pub covered_first : (all left right : Column) (i : ℕ) (found : Near) → IsProfile all left right → i < length all
    → offered left i found ≡ left → offered all i found ≡ all
covered_first all left right i found h lt e =
    ap (λ column. offered column i found) h.lesser
    ∙ sym (offered_first left right i found (h.right_is ∙ sym h.left_is) (omega (arith, h.left_is)))
    ∙ ap (λ column. merged_column column right) e
    ∙ sym h.lesser

pub covered_last : (all left right : Column) (i : ℕ) (found : Near) → IsProfile all left right → i < length all
    → offered right i found ≡ right → offered all i found ≡ all
covered_last all left right i found h lt e =
    ap (λ column. offered column i found) h.lesser
    ∙ sym (offered_last left right i found (h.right_is ∙ sym h.left_is) (omega (arith, h.left_is)))
    ∙ ap (λ column. merged_column left column) e
    ∙ sym h.lesser

offered_has : (column : Column) (i : ℕ) (found : Near) → length (offered column i found) ≡ length column
offered_has column i found = length-set column i (nearer_of (get_or column i None) (Some found))

pub profile_offered_first : (all left right all' left' : Column) (i : ℕ) (found : Near) → IsProfile all left right
    → i < length all → all' ≡ offered all i found → left' ≡ offered left i found → IsProfile all' left' right
profile_offered_first all left right all' left' i found h lt e f = record {
  left_is = ap length f ∙ offered_has left i found ∙ h.left_is ∙ sym (ap length e ∙ offered_has all i found);
  right_is = h.right_is ∙ sym (ap length e ∙ offered_has all i found);
  lesser = e ∙ ap (λ column. offered column i found) h.lesser
      ∙ sym (offered_first left right i found (h.right_is ∙ sym h.left_is) (omega (arith, h.left_is)))
      ∙ ap (λ column. merged_column column right) (sym f);
}

pub profile_offered_last : (all left right all' right' : Column) (i : ℕ) (found : Near) → IsProfile all left right
    → i < length all → all' ≡ offered all i found → right' ≡ offered right i found → IsProfile all' left right'
profile_offered_last all left right all' right' i found h lt e f = record {
  left_is = h.left_is ∙ sym (ap length e ∙ offered_has all i found);
  right_is = ap length f ∙ offered_has right i found ∙ h.right_is ∙ sym (ap length e ∙ offered_has all i found);
  lesser = e ∙ ap (λ column. offered column i found) h.lesser
      ∙ sym (offered_last left right i found (h.right_is ∙ sym h.left_is) (omega (arith, h.left_is)))
      ∙ ap (λ column. merged_column left column) (sym f);
}

-- ---- profiles as a whole

merged_empty : (size : ℕ) → merged_column (empty_column size) (empty_column size) ≡ empty_column size
merged_empty size = zip_repeats nearer_of nearer_repeats (empty_column size)

pub empty_profile : (size : ℕ) (all left right : Column) → all ≡ empty_column size → left ≡ empty_column size
    → right ≡ empty_column size → IsProfile all left right
empty_profile size all left right e f g = record {
  left_is = ap length f ∙ sym (ap length e);
  right_is = ap length g ∙ sym (ap length e);
  lesser = e ∙ sym (merged_empty size) ∙ ap (λ column. merged_column column (empty_column size)) (sym f)
      ∙ ap (merged_column left) (sym g);
}

merged_push : (xs ys : Column) (x y : Option Near) → length ys ≡ length xs
    → merged_column (xs ++ x ∷ []) (ys ++ y ∷ []) ≡ merged_column xs ys ++ nearer_of x y ∷ []
merged_push [] [] x y l = refl
merged_push [] (b ∷ ys) x y l = absurd (omega arith)
merged_push (a ∷ xs) [] x y l = absurd (omega arith)
merged_push (a ∷ xs) (b ∷ ys) x y l = ap (λ zs. nearer_of a b ∷ zs) (merged_push xs ys x y (omega arith))

pub profile_pushed : (all left right all' left' right' : Column) (l r : Option Near) → IsProfile all left right
    → all' ≡ all ++ nearer_of l r ∷ [] → left' ≡ left ++ l ∷ [] → right' ≡ right ++ r ∷ []
    → IsProfile all' left' right'
profile_pushed all left right all' left' right' l r h e f g =
    let both = nearer_of l r in
    record {
      left_is = ap length f ∙ length_push left l ∙ ap (λ n. n + 1) h.left_is
          ∙ sym (ap length e ∙ length_push all both);
      right_is = ap length g ∙ length_push right r ∙ ap (λ n. n + 1) h.right_is
          ∙ sym (ap length e ∙ length_push all both);
      lesser = e ∙ ap (λ column. column ++ both ∷ []) h.lesser
          ∙ sym (merged_push left right l r (h.right_is ∙ sym h.left_is))
          ∙ ap (λ column. merged_column column (right ++ r ∷ [])) (sym f) ∙ ap (merged_column left') (sym g);
    }

pub merged_has : (a b : Column) → length b ≡ length a → length (merged_column a b) ≡ length a
merged_has a b l = length-zip2 nearer_of a b (sym l)

still_covered : (side rest found : Option Near) → nearer_of side found ≡ side
    → nearer_of (nearer_of side rest) found ≡ nearer_of side rest
still_covered side rest found e =
    nearer_associates side rest found ∙ ap (nearer_of side) (nearer_commutes rest found)
    ∙ sym (nearer_associates side found rest) ∙ ap (λ x. nearer_of x rest) e

-- a column covers its merges
pub covered_by : (side both rest : Column) → length rest ≡ length side → both ≡ merged_column side rest
    → IsCovered side both
covered_by side both rest l e k found lt h =
    subst (λ x. nearer_of x found ≡ x)
    (sym (ap (λ column. get_or column k None) e
    ∙ get_or-zip2 nearer_of side rest k None None None lt (omega (arith, l))))
    (still_covered (get_or side k None) (get_or rest k None) found h)

pub covered_right : (all left right : Column) → IsProfile all left right → IsCovered right all
covered_right all left right h =
    covered_by right all left (h.left_is ∙ sym h.right_is)
    (h.lesser ∙ zip_commutes nearer_of nearer_commutes left right)

pub covered_left : (all left right rows new : Column) → IsProfile all left right → length rows ≡ length all
    → new ≡ merged_column all rows → IsCovered left new
covered_left all left right rows new h l e =
    covered_by left new (merged_column right rows)
    (merged_has right rows (l ∙ sym h.right_is) ∙ h.right_is ∙ sym h.left_is)
    (e ∙ ap (λ column. merged_column column rows) h.lesser ∙ zip_associates nearer_of nearer_associates left right rows)

-- what is merged one after the other is merged together
pub merged_twice : (all mid new first last : Column) → mid ≡ merged_column all first → new ≡ merged_column mid last
    → new ≡ merged_column all (merged_column first last)
merged_twice all mid new first last e f =
    f ∙ ap (λ column. merged_column column last) e ∙ zip_associates nearer_of nearer_associates all first last

pub profile_merged : (all left right all₂ left₂ right₂ all' left' right' : Column) → IsProfile all left right
    → IsProfile all₂ left₂ right₂ → length all₂ ≡ length all
    → all' ≡ merged_column all all₂ → left' ≡ merged_column left left₂ → right' ≡ merged_column right right₂
    → IsProfile all' left' right'
profile_merged all left right all₂ left₂ right₂ all' left' right' h k l e f g = record {
  left_is = ap length f ∙ merged_has left left₂ (k.left_is ∙ l ∙ sym h.left_is) ∙ h.left_is
      ∙ sym (ap length e ∙ merged_has all all₂ l);
  right_is = ap length g ∙ merged_has right right₂ (k.right_is ∙ l ∙ sym h.right_is) ∙ h.right_is
      ∙ sym (ap length e ∙ merged_has all all₂ l);
  lesser = e ∙ ap (λ column. merged_column column all₂) h.lesser
      ∙ ap (merged_column (merged_column left right)) k.lesser ∙ crossed left right left₂ right₂
      ∙ ap (λ column. merged_column column (merged_column right right₂)) (sym f) ∙ ap (merged_column left') (sym g);
}

pub absorbed_has : (all all' rows columns : Column) → length rows ≡ length all → length columns ≡ length all
    → all' ≡ merged_column all (merged_column rows columns) → length all' ≡ length all
absorbed_has all all' rows columns l l' e =
    ap length e ∙ merged_has all (merged_column rows columns) (merged_has rows columns (l' ∙ sym l) ∙ l)

pub profile_absorbed : (all left right all' left' right' rows columns : Column) → IsProfile all left right
    → length rows ≡ length all → length columns ≡ length all → all' ≡ merged_column all (merged_column rows columns)
    → left' ≡ merged_column left columns → right' ≡ merged_column right rows → IsProfile all' left' right'
profile_absorbed all left right all' left' right' rows columns h l l' e f g = record {
  left_is = ap length f ∙ merged_has left columns (l' ∙ sym h.left_is) ∙ h.left_is ∙ sym long;
  right_is = ap length g ∙ merged_has right rows (l ∙ sym h.right_is) ∙ h.right_is ∙ sym long;
  lesser = e ∙ ap (merged_column all) (zip_commutes nearer_of nearer_commutes rows columns)
      ∙ ap (λ column. merged_column column (merged_column columns rows)) h.lesser ∙ crossed left right columns rows
      ∙ ap (λ column. merged_column column (merged_column right rows)) (sym f) ∙ ap (merged_column left') (sym g);
}
  where
    long : length all' ≡ length all
    long = absorbed_has all all' rows columns l l' e
