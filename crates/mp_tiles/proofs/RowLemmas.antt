-- The rows of a tile as the windows of a series that has no others.
use Rattle.std.proofs.Common.{◌≡◌, ℕ, zero, suc, ◌+◌, ◌-◌, ◌<◌, ◌≤◌, ◌⊎◌, inl, inr, List, length, get_or, take, drop}
use Rattle.std.proofs.Common.{◌++◌}
use Rattle.std.proofs.Common.{Bool, false, refl, sym, ap, ◌∙◌, arith, length-take, length-drop}
use Rattle.std.specs.Prelude.{Option, None, if◌then◌else◌}
use Rattle.std.specs.List.{between}
use Rattle.std.proofs.Math.ListN.{get_or-append}
use Rattle.std.proofs.lemmas.Bool.Decides.{nat_tests}
use Rattle.std.proofs.lemmas.List.{get_or-take, get_or-drop, get_or-append_right}
use borrow.Rule.Slice.PartMut.{put_mid, post_of, same_len_mid}
use Rattle.mp_nums.specs.declared.nearest.Near.{Near}
use Rattle.mp_nums.specs.declared.samples.Sample.{Sample}
use Rattle.mp_nums.specs.declared.samples.Sample.TheVariants.{Missing}
use Rattle.mp_nums.specs.Near.{nearer_of}
use Rattle.mp_nums.specs.NearLaws.{nearer_with_none}
use Rattle.mp_defs.specs.Series.{Series, reading_of, series_of, number_at}
use Rattle.mp_defs.specs.SeriesLaws.{series_are_of_samples}
use Rattle.mp_defs.specs.Distance.{distance}
use Rattle.mp_defs.specs.Least.{at_distance, candidate}
use Rattle.mp_defs.specs.LeastLaws.{near_same}
use Rattle.mp_defs.specs.Profile.{windows_of, nearest}
use Rattle.mp_defs.specs.NearestLaws.{nearest_by_choice}
use Rattle.mp_partial.specs.Values.{Column}
use Rattle.mp_partial.specs.PatchingLaws.{either_below}
use Rattle.mp_cuts.specs.declared.cuts.Tile.{Tile}
use Rattle.mp_cuts.specs.Pairs.{on_its_diagonals, has_pair}
use Rattle.mp_tiles.specs.TakenLaws.{HasTaken, at_taken, are_taken}

-- ---- a part of a series

part_number : (a : List Sample) (i e k : ℕ) → k < e - i
    → number_at (series_of (between i e a)) k ≡ number_at (series_of a) (i + k)
part_number a i e k lt =
    series_are_of_samples.numbers (between i e a) k
    ∙ ap reading_of (get_or-take (e - i) (drop i a) k Missing lt ∙ get_or-drop i a k Missing)
    ∙ sym (series_are_of_samples.numbers a (i + k))

same_distance : (m : ℕ) (a a' : Series) (i i' : ℕ) (b : Series) (j : ℕ)
    → ((k : ℕ) → k < m → number_at a (i + k) ≡ number_at a' (i' + k)) → distance m a i b j ≡ distance m a' i' b j
unfolding distance
same_distance zero a a' i i' b j h = refl
same_distance (suc m) a a' i i' b j h =
    rw (same_distance m a a' i i' b j (λ k lt. h k (omega (arith, lt))), h m (omega arith)) refl

pub part_distance : (m : ℕ) (a : List Sample) (i e k : ℕ) (b : Series) (j : ℕ) → k + m ≤ e - i
    → distance m (series_of (between i e a)) k b j ≡ distance m (series_of a) (i + k) b j
part_distance m a i e k b j within =
    same_distance m (series_of (between i e a)) (series_of a) k (i + k) b j
    (λ n lt. part_number a i e (k + n) (omega (arith, within, lt))
    ∙ ap (number_at (series_of a)) (omega arith))

part_nearest : (m : ℕ) (p q : ℕ → Bool) (a : List Sample) (i e k : ℕ) (b : Series) → k + m ≤ e - i
    → ((j : ℕ) → p j ≡ q j)
    → nearest m p (series_of (between i e a)) k b ≡ nearest m q (series_of a) (i + k) b
part_nearest m p q a i e k b within same =
    near_same (candidate p (λ j. distance m (series_of (between i e a)) k b j))
    (candidate q (λ j. distance m (series_of a) (i + k) b j)) (windows_of m b)
    (λ j lt. ap (λ t. if t then at_distance j (distance m (series_of (between i e a)) k b j) else None) (same j)
    ∙ ap (λ d. if q j then at_distance j d else None) (part_distance m a i e k b j within))

-- ---- a part of a column

before_part : (slots part : Column) (top k i : ℕ) → i < top → top ≤ length slots
    → get_or (put_mid top k slots part) i None ≡ get_or slots i None
before_part slots part top k i lt le =
    get_or-append (take top slots) _ None i (omega (arith, length-take {A = Option Near}))
    ∙ get_or-take top slots i None lt

in_part : (slots part : Column) (top k i : ℕ) → top ≤ length slots → i < length part
    → get_or (put_mid top k slots part) (top + i) None ≡ get_or part i None
in_part slots part top k i le lt =
    get_or-append_right (take top slots) _ top (top + i) None (omega (arith, length-take {A = Option Near}))
    (omega arith)
    ∙ ap (λ n. get_or (part ++ post_of top k slots) n None) (omega arith)
    ∙ get_or-append part (post_of top k slots) None i lt

behind_part : (slots part : Column) (top k i : ℕ) → top ≤ length slots → length part ≡ k → top + k ≤ i
    → get_or (put_mid top k slots part) i None ≡ get_or slots i None
behind_part slots part top k i le l behind =
    get_or-append_right (take top slots) _ top i None (omega (arith, length-take {A = Option Near})) (omega arith)
    ∙ get_or-append_right part (post_of top k slots) k (i - top) None l (omega arith)
    ∙ get_or-drop k (drop top slots) (i - top - k) None
    ∙ get_or-drop top slots (k + (i - top - k)) None
    ∙ ap (λ n. get_or slots n None) (omega arith)

-- ---- the rows of a tile

-- a row that isn't the tile's is in no pair
no_pair : (tile : Tile) (origin i j : ℕ) → (i < tile.first_row) ⊎ (tile.last_row < i) → has_pair origin tile i j ≡ false
no_pair tile origin i j out = grind (arith, nat_tests)

-- and one that is has those on the diagonals
same_pair : (tile : Tile) (origin top i j : ℕ) → top ≡ tile.first_row → top + i ≤ tile.last_row → top ≤ origin
    → on_its_diagonals (origin - top) tile i j ≡ has_pair origin tile (top + i) j
same_pair tile origin top i j e le within = grind (arith, nat_tests)

-- they are as many windows
pub part_windows : (m : ℕ) (a : List Sample) (top k e w : ℕ) → 1 ≤ m → 1 ≤ k → e ≡ top + k + m - 1
    → windows_of m (series_of a) ≡ w → top + k ≤ w → windows_of m (series_of (between top e a)) ≡ k
part_windows m a top k e w some rows end windows within =
    let long : length a + 1 - m ≡ w = sym (series_are_of_samples.windows_are m a) ∙ windows in
    series_are_of_samples.windows_are m (between top e a)
    ∙ omega (arith, long, within, some, rows, end, length-take {A = Sample}, length-drop {A = Sample})

module _ (p q : ℕ → ℕ → Bool) (m w top k e : ℕ) (a : List Sample) (b : Series) (slots part : Column) where
  module _ (some : 1 ≤ m) (some_rows : 1 ≤ k) (end : e ≡ top + k + m - 1) (windows : windows_of m (series_of a) ≡ w)
      (within : top + k ≤ w) (places : length slots ≡ w) (part_places : length part ≡ k)
      (same : (i j : ℕ) → i < k → p i j ≡ q (top + i) j)
      (none : (i j : ℕ) → (i < top) ⊎ (top + k ≤ i) → i < w → q i j ≡ false)
      (taken : HasTaken p m (series_of (between top e a)) b (take k (drop top slots)) part) where
    own : windows_of m (series_of (between top e a)) ≡ k
    own = part_windows m a top k e w some some_rows end windows within

    outside : (i : ℕ) → i < w → (i < top) ⊎ (top + k ≤ i)
        → get_or (put_mid top k slots part) i None ≡ get_or slots i None
        → get_or (put_mid top k slots part) i None
        ≡ nearer_of (get_or slots i None) (nearest m (q i) (series_of a) i b)
    outside i lt out kept =
        kept
        ∙ sym (ap (nearer_of (get_or slots i None)) (nearest_by_choice.none m (q i) (series_of a) i b
        (λ j below. none i j out lt))
        ∙ (nearer_with_none (get_or slots i None)).1)

    inside : (i : ℕ) → i < k
        → get_or (put_mid top k slots part) (top + i) None
        ≡ nearer_of (get_or slots (top + i) None) (nearest m (q (top + i)) (series_of a) (top + i) b)
    inside i lt =
        in_part slots part top k i (omega (arith, within, places)) (omega (arith, part_places, lt))
        ∙ at_taken p m (series_of (between top e a)) b (take k (drop top slots)) part
        i (omega (arith, length-take {A = Option Near}, length-drop {A = Option Near}, own, places, within))
        (omega (arith, own, lt)) taken
        ∙ ap (λ s. nearer_of s (nearest m (p i) (series_of (between top e a)) i b))
        (get_or-take k (drop top slots) i None lt ∙ get_or-drop top slots i None)
        ∙ ap (nearer_of (get_or slots (top + i) None))
        (part_nearest m (p i) (q (top + i)) a top e i b (omega (arith, lt, some, end)) (λ j. same i j lt))

    at_row : (i : ℕ) → i < w
        → get_or (put_mid top k slots part) i None
        ≡ nearer_of (get_or slots i None) (nearest m (q i) (series_of a) i b)
    at_row i lt = elim (either_below i top) [
      | inl before ↦ outside i lt (inl before) (before_part slots part top k i before (omega (arith, within, places)))
      | inr from ↦ elim (either_below i (top + k)) [
        | inl before ↦
            let back : top + (i - top) ≡ i = omega (arith, from) in
            rw back at (inside (i - top) (omega (arith, from, before)))
        | inr behind ↦ outside i lt (inr behind)
            (behind_part slots part top k i (omega (arith, within, places)) part_places behind)
      ]
    ]

    -- what a part of the rows has taken is what their pairs give, where no other row has any
    pub part_taken : HasTaken q m (series_of a) b slots (put_mid top k slots part)
    part_taken =
        are_taken q m (series_of a) b slots (put_mid top k slots part) (places ∙ sym windows)
        (same_len_mid top k slots part
        (omega (arith, part_places, length-take {A = Option Near}, length-drop {A = Option Near}, places, within))
        ∙ places ∙ sym windows)
        (λ i lt. at_row i (omega (arith, lt, windows)))

module _ (tile : Tile) (m w top k e : ℕ) (a : List Sample) (b : Series) (slots part : Column) where
  module _ (some : 1 ≤ m) (here : top ≡ tile.first_row) (rows : top + k ≡ tile.last_row + 1) (some_rows : 1 ≤ k)
      (end : e ≡ top + k + m - 1) (windows : windows_of m (series_of a) ≡ w) (within : top + k ≤ w)
      (places : length slots ≡ w) (part_places : length part ≡ k)
      (taken : HasTaken (on_its_diagonals (w - 1 - top) tile) m (series_of (between top e a)) b
      (take k (drop top slots)) part) where
    -- what they have taken is what the tile's pairs give
    pub rows_taken : HasTaken (has_pair (w - 1) tile) m (series_of a) b slots (put_mid top k slots part)
    rows_taken =
        part_taken (on_its_diagonals (w - 1 - top) tile) (has_pair (w - 1) tile) m w top k e a b slots part some
        some_rows end windows within places part_places
        (λ i j lt. same_pair tile (w - 1) top i j here (omega (arith, lt, rows)) (omega (arith, within, lt)))
        (λ i j out _. no_pair tile (w - 1) i j (beyond i out)) taken
      where
        beyond : (i : ℕ) → (i < top) ⊎ (top + k ≤ i) → (i < tile.first_row) ⊎ (tile.last_row < i)
        beyond i (inl before) = inl (omega (arith, before, here))
        beyond i (inr behind) = inr (omega (arith, behind, rows))
