-- What entries of both sides keep, and what a worker has that takes from them.
use Rattle.std.proofs.Common.{◌≡◌, ℕ, zero, suc, ◌+◌, ◌-◌, ◌*◌, ◌/◌, ◌<◌, ◌≤◌, List, [], ◌∷◌, length, get_or}
use Rattle.std.proofs.Common.{sym, ap, subst, ◌∙◌, arith}
use Rattle.std.specs.Prelude.{Option, None, replicate}
use Rattle.std.proofs.lemmas.List.{get_or_append_left, get_or-append_right, length-append}
use Rattle.mp_defs.specs.Series.{series_of}
use Rattle.mp_defs.specs.Window.{is_allowed}
use Rattle.mp_defs.specs.Profile.{windows_of, left_entry, right_entry}
use Rattle.mp_defs.specs.SeriesLaws.{series_are_of_samples}
use Rattle.mp_defs.specs.ColumnLaws.{columns_have_places}
use Rattle.mp_partial.specs.Values.{Column}
use Rattle.mp_tiles.specs.Compact.{IsWordOf, slot_of_word}
use Rattle.mp_tiles.specs.Scanning.{taken}
use Rattle.mp_workers.specs.declared.entries.EntriesView.{EntriesView}
use Rattle.mp_workers.specs.Entries.{AreEntriesOf, AreWithin, EntriesState, HasMore, HoldOf, IsWithin, IsWithinColumn}
use Rattle.mp_workers.specs.Entries.{count_of, left_of, no_word, right_of, view_of, whole_of}
use Rattle.mp_workers.specs.EntryLaws.{none_within, one_taken, told}
use Rattle.atomic_table.specs.Table.{opening}
use lib.ListN.{get_elem?}
use mathlib.Core.Option.{some, some-injective, some-ne-none}

-- ---- the places of both sides

pub left_count : (s : EntriesState) → length (left_of s) ≡ count_of s
left_count s =
    let a = series_of s.samples in
    columns_have_places.count (left_entry (is_allowed s.m) s.m a) (windows_of s.m a)
    ∙ series_are_of_samples.windows_are s.m s.samples

pub right_count : (s : EntriesState) → length (right_of s) ≡ count_of s
right_count s =
    let a = series_of s.samples in
    columns_have_places.count (right_entry (is_allowed s.m) s.m a) (windows_of s.m a)
    ∙ series_are_of_samples.windows_are s.m s.samples

pub whole_count : (s : EntriesState) → length (whole_of s) ≡ 2 * count_of s
whole_count s = omega (arith, length-append (left_of s) (right_of s), left_count s, right_count s)

pub left_at : (s : EntriesState) (p : ℕ) → p < count_of s
    → get_or (whole_of s) p None ≡ get_or (left_of s) p None
left_at s p lt = get_or_append_left (left_of s) (right_of s) None p (omega (arith, lt, left_count s))

pub right_at : (s : EntriesState) (p : ℕ) → get_or (whole_of s) (count_of s + p) None ≡ get_or (right_of s) p None
right_at s p =
    get_or-append_right (left_of s) (right_of s) (count_of s) (count_of s + p) None (left_count s) (omega arith)
    ∙ ap (λ i. get_or (right_of s) i None) (behind (count_of s) p)
  where
    behind : (n p : ℕ) → n + p - n ≡ p
    behind n p = omega arith

-- ---- words

-- words that tell nothing
pub opens : (s : EntriesState) (words : List ℕ) (count : ℕ) → words ≡ replicate count no_word
    → count ≡ length (whole_of s) → AreEntriesOf s (opening words [] (view_of s))
opens s words count is e = record {
  within = subst (AreWithin (whole_of s)) (sym is) (none_within (whole_of s) count e);
  told = λ seat view there. only words (view_of s) seat view there tt;
}
  where
    only : (words : List ℕ) (first : EntriesView) (seat : ℕ) (view : EntriesView)
        → get_elem? (first ∷ []) seat ≡ some view
        → HoldOf words first.told → HoldOf words view.told
    only words first zero view there h =
        subst (λ (v : EntriesView). HoldOf words v.told) (some-injective first view there) h
    only words first (suc seat) view there h = absurd (some-ne-none view (sym there))

-- ---- what loops need

-- half of the words are of the left
pub half_is : (words : ℕ) (s t : EntriesState) → words ≡ length (whole_of s) → s ≡ t → words / 2 ≡ count_of t
half_is words s t e same =
    ap (λ n. n / 2) (e ∙ whole_count s) ∙ half (count_of s) ∙ ap count_of same
  where
    half : (n : ℕ) → 2 * n / 2 ≡ n
    half n = omega arith

pub left_below : (s : EntriesState) (p count end : ℕ) → p < end → end ≤ count → count ≡ count_of s
    → p < length (whole_of s)
left_below s p count end lt le e = omega (arith, lt, le, e, whole_count s)

pub right_below : (s : EntriesState) (p count end : ℕ) → p < end → end ≤ count → count ≡ count_of s
    → count + p < length (whole_of s)
right_below s p count end lt le e = omega (arith, lt, le, e, whole_count s)

-- one more window on the left
pub left_taken : (s : EntriesState) (old new after : Column) (p word : ℕ) → HasMore (left_of s) old new
    → p < count_of s → IsWithin word (get_or (whole_of s) p None) → after ≡ taken new p (slot_of_word word)
    → HasMore (left_of s) old after
left_taken s old new after p word h lt is e =
    subst (HasMore (left_of s) old) (sym e)
    (one_taken (left_of s) old new p word h (subst (IsWithin word) (left_at s p lt) is))

-- and on the right
pub right_taken : (s : EntriesState) (old new after : Column) (count p word : ℕ) → HasMore (right_of s) old new
    → count ≡ count_of s → IsWithin word (get_or (whole_of s) (count + p) None)
    → after ≡ taken new p (slot_of_word word) → HasMore (right_of s) old after
right_taken s old new after count p word h same is e =
    subst (HasMore (right_of s) old) (sym e)
    (one_taken (right_of s) old new p word h
    (subst (IsWithin word) (ap (λ n. get_or (whole_of s) (n + p) None) same ∙ right_at s p) is))

-- what is told of a window on the left
pub left_told : (s : EntriesState) (column : Column) (p word : ℕ) → IsWithinColumn (left_of s) column
    → p < count_of s → IsWordOf (get_or column p None) word → IsWithin word (get_or (whole_of s) p None)
left_told s column p word h lt is =
    subst (IsWithin word) (sym (left_at s p lt))
    (told (left_of s) column p word h (omega (arith, lt, left_count s)) is)

-- and on the right
pub right_told : (s : EntriesState) (column : Column) (count p word : ℕ) → IsWithinColumn (right_of s) column
    → count ≡ count_of s → p < count_of s → IsWordOf (get_or column p None) word
    → IsWithin word (get_or (whole_of s) (count + p) None)
right_told s column count p word h same lt is =
    subst (IsWithin word) (sym (ap (λ n. get_or (whole_of s) (n + p) None) same ∙ right_at s p))
    (told (right_of s) column p word h (omega (arith, lt, right_count s)) is)
