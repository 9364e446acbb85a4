-- The entries of the last windows of a series that has one sample more, by what was found among the last samples alone.
use Rattle.std.proofs.Common.{◌≡◌, ℕ, zero, suc, ◌+◌, ◌-◌, ◌<◌, ◌≤◌, inl, inr, List, length, get_or}
use Rattle.std.proofs.Common.{Bool, true, false, refl, sym, ap, ◌∙◌, arith, subst}
use Rattle.std.specs.Prelude.{Option, Some, None, if◌then◌else◌, ◌&&◌, nat_lt, ℤ}
use Rattle.std.proofs.lemmas.Bool.{cases_lt}
use Rattle.std.proofs.lemmas.Bool.Decides.{nat_tests}
use Rattle.mp_nums.specs.declared.nearest.Near.{Near}
use Rattle.mp_nums.specs.Near.{nearer_of}
use Rattle.mp_defs.specs.Series.{Series}
use Rattle.mp_defs.specs.Window.{is_free, excl}
use Rattle.mp_defs.specs.Distance.{distance}
use Rattle.mp_defs.specs.DistanceLaws.{symmetric}
use Rattle.mp_defs.specs.Least.{near, at_distance, candidate}
use Rattle.mp_defs.specs.LeastLaws.{grows_by_one_candidate, near_same, near_none}
use Rattle.mp_defs.specs.Profile.{left_entry, right_entry, windows_of}
use Rattle.mp_stream.specs.Blocks.{renumbered}
use Rattle.mp_defs.specs.Band.{is_allowed_in}
use Rattle.mp_stream.specs.Rows.{IsTaken, lowered, offered_before, row_candidate, sum_at}
use Rattle.mp_stream.specs.Appended.{with_one, AreNumbers}
use Rattle.mp_stream.proofs.EntryLemmas.{distance_by_sum, entries_grow, windows_more, taken_if, right_if, none_if}
use Rattle.mp_stream.proofs.EntryLemmas.{with_none, near_front}

-- ---- candidates by the places of the last windows

-- no candidates before k
near_behind : (c : ℕ → Option Near) (k n : ℕ) → ((j : ℕ) → j < k → c j ≡ None)
    → near c (k + n) ≡ near (λ p. c (k + p)) n
near_behind c k zero h =
    let same : k ≡ k + 0 = omega arith in
    subst (λ x. near c x ≡ near (λ p. c (k + p)) 0) same
    (near_none c k h ∙ sym (grows_by_one_candidate.no_candidates (λ p. c (k + p))))
near_behind c k (suc n) h =
    let same : k + n + 1 ≡ k + suc n = omega arith in
    let one : n + 1 ≡ suc n = omega arith in
    subst (λ x. near c x ≡ near (λ p. c (k + p)) (suc n)) same
    (subst (λ x. near c (k + n + 1) ≡ near (λ p. c (k + p)) x) one
    (grows_by_one_candidate.one_more c (k + n) ∙ ap (λ x. nearer_of x (c (k + n))) (near_behind c k n h)
    ∙ sym (grows_by_one_candidate.one_more (λ p. c (k + p)) n)))

-- the nearer of two, otherwise numbered
nearer_renumbered : (f : ℕ) (a b : Option Near)
    → renumbered (Some f) (nearer_of a b) ≡ nearer_of (renumbered (Some f) a) (renumbered (Some f) b)
nearer_renumbered f None b = refl
nearer_renumbered f (Some a) None = refl
nearer_renumbered f (Some a) (Some b) = grind (arith, nat_tests)

near_renumbered : (f : ℕ) (c : ℕ → Option Near) (n : ℕ)
    → near (λ p. renumbered (Some f) (c p)) n ≡ renumbered (Some f) (near c n)
near_renumbered f c zero =
    grows_by_one_candidate.no_candidates (λ p. renumbered (Some f) (c p))
    ∙ ap (renumbered (Some f)) (sym (grows_by_one_candidate.no_candidates c))
near_renumbered f c (suc n) =
    let one : n + 1 ≡ suc n = omega arith in
    subst (λ k. near (λ p. renumbered (Some f) (c p)) k ≡ renumbered (Some f) (near c k)) one
    (grows_by_one_candidate.one_more (λ p. renumbered (Some f) (c p)) n
    ∙ ap (λ x. nearer_of x (renumbered (Some f) (c n))) (near_renumbered f c n)
    ∙ sym (nearer_renumbered f (near c n) (c n))
    ∙ ap (renumbered (Some f)) (sym (grows_by_one_candidate.one_more c n)))

-- ---- which windows may be compared

may_right : (keep m i j : ℕ) → i + excl m < j → j ≤ i + (keep - m) → (is_allowed_in keep m i j && nat_lt i j) ≡ true
may_right keep m i j lt le = grind (arith, nat_tests)

may_not_right : (keep m i j : ℕ) → i < j → j ≤ i + excl m → (is_allowed_in keep m i j && nat_lt i j) ≡ false
may_not_right keep m i j lt le = grind (arith, nat_tests)

may_left : (keep m i j : ℕ) → j + excl m < i → i ≤ j + (keep - m) → (is_allowed_in keep m i j && nat_lt j i) ≡ true
may_left keep m i j lt le = grind (arith, nat_tests)

may_not_left : (keep m i j : ℕ) → i ≤ j + excl m → (is_allowed_in keep m i j && nat_lt j i) ≡ false
may_not_left keep m i j le = grind (arith, nat_tests)

may_not_behind : (keep m i j : ℕ) → j + (keep - m) < i → (is_allowed_in keep m i j && nat_lt j i) ≡ false
may_not_behind keep m i j lt = grind (arith, nat_tests)

-- ---- the last windows of a series

-- the windows from first on, up to the last one at place w, with the numbers of the whole series and what is kept of
-- the last samples: which of the windows are free, and their distances from the last one
pub record AreLast (keep m : ℕ) (a : Series) (s : Option ℤ) (xs : List ℤ) (first w : ℕ) (free : List Bool)
    (dist : ℕ → ℕ) : Type 0 where
  pub long : m ≤ length a + 1
  pub numbers : AreNumbers (with_one a s) xs
  pub last : windows_of m a ≡ first + w
  pub band : w ≤ keep - m
  pub whole : (j : ℕ) → j < first → w ≡ keep - m
  pub frees : (p : ℕ) → p < w + 1 → get_or free p false ≡ is_free m (with_one a s) (first + p)
  pub dists : (p : ℕ) → p < w + 1 → dist p ≡ sum_at xs m (first + p) (first + w)

module _ (keep m : ℕ) (a : Series) (s : Option ℤ) (xs : List ℤ) (first w : ℕ) (free : List Bool) (dist : ℕ → ℕ)
    (h : AreLast keep m a s xs first w free dist) where
  -- the distance of a window from the last one
  far : (p : ℕ) → p < w + 1
      → distance m (with_one a s) (first + p) (with_one a s) (first + w)
      ≡ (if get_or free p false && get_or free w false then Some (dist p) else None)
  far p lt =
      distance_by_sum m (with_one a s) xs (first + p) (first + w) h.numbers
      ∙ ap (λ t. if t && is_free m (with_one a s) (first + w) then Some (sum_at xs m (first + p) (first + w)) else None)
      (sym (h.frees p lt))
      ∙ ap (λ t. if get_or free p false && t then Some (sum_at xs m (first + p) (first + w)) else None)
      (sym (h.frees w (omega arith)))
      ∙ ap (λ d. if get_or free p false && get_or free w false then Some d else None) (sym (h.dists p lt))

  -- a right entry with the last window
  right_with_last : (p : ℕ) → p < w
      → right_entry (is_allowed_in keep m) m (with_one a s) (first + p)
      ≡ nearer_of (right_entry (is_allowed_in keep m) m a (first + p))
      (if is_allowed_in keep m (first + p) (first + w) && nat_lt (first + p) (first + w)
      then at_distance (first + w) (if get_or free p false && get_or free w false then Some (dist p) else None)
      else None)
  right_with_last p lt =
      let b = with_one a s in
      let i = first + p in
      let old = right_entry (is_allowed_in keep m) m a i in
      entries_grow.right (is_allowed_in keep m) m a s i h.long (omega (arith, lt, h.last))
      ∙ ap (λ j. nearer_of old (candidate (λ k. is_allowed_in keep m i k && nat_lt i k) (λ k. distance m b i b k) j))
      h.last
      ∙ ap (λ d. nearer_of old (if is_allowed_in keep m i (first + w) && nat_lt i (first + w)
      then at_distance (first + w) d else None)) (far p (omega (arith, lt)))

  taken_at : (t : Bool) → get_or free w false ≡ t → (old new : List (Option Near))
      → IsTaken free dist (first + w) 0 (offered_before t m w) old new
      → (p : ℕ) → p < w → get_or old p None ≡ right_entry (is_allowed_in keep m) m a (first + p)
      → get_or new p None ≡ right_entry (is_allowed_in keep m) m (with_one a s) (first + p)
  taken_at true some old new taken p lt before =
      let there = right_entry (is_allowed_in keep m) m a (first + p) in
      elim (cases_lt p (w - excl m)) [
        | inl within ↦ taken.within p (omega arith) within ∙ ap (lowered free dist (first + w) p) before
            ∙ sym (right_with_last p lt
            ∙ ap (λ t. nearer_of there (if t then at_distance (first + w)
            (if get_or free p false && get_or free w false then Some (dist p) else None) else None))
            (may_right keep m (first + p) (first + w) (omega (arith, within)) (omega (arith, h.band)))
            ∙ taken_if (get_or free p false) (get_or free w false) there (first + w) (dist p) some)
        | inr behind ↦ taken.behind p behind ∙ before
            ∙ sym (right_with_last p lt
            ∙ ap (λ t. nearer_of there (if t then at_distance (first + w)
            (if get_or free p false && get_or free w false then Some (dist p) else None) else None))
            (may_not_right keep m (first + p) (first + w) (omega (arith, lt)) (omega (arith, behind)))
            ∙ with_none there)
      ]
  taken_at false none old new taken p lt before =
      let there = right_entry (is_allowed_in keep m) m a (first + p) in
      taken.behind p (omega arith) ∙ before
      ∙ sym (right_with_last p lt
      ∙ right_if (is_allowed_in keep m (first + p) (first + w) && nat_lt (first + p) (first + w)) (first + w)
      (if get_or free p false && get_or free w false then Some (dist p) else None) there
      (none_if (get_or free p false) (get_or free w false) (dist p) none))

  -- the right entries after the offers
  pub rights_after : (old new : List (Option Near))
      → IsTaken free dist (first + w) 0 (offered_before (get_or free w false) m w) old new
      → ((p : ℕ) → p < w → get_or old p None ≡ right_entry (is_allowed_in keep m) m a (first + p))
      → get_or old w None ≡ None → (p : ℕ) → p < w + 1
      → get_or new p None ≡ right_entry (is_allowed_in keep m) m (with_one a s) (first + p)
  rights_after old new taken before none p lt = elim (cases_lt p w) [
    | inl less ↦ taken_at (get_or free w false) refl old new taken p less (before p less)
    | inr ge ↦ let same : w ≡ p = omega (arith, ge, lt) in
        subst (λ k. get_or new k None ≡ right_entry (is_allowed_in keep m) m (with_one a s) (first + k)) same
        (taken.behind w (within (get_or free w false)) ∙ none
        ∙ sym (ap (right_entry (is_allowed_in keep m) m (with_one a s)) (sym h.last)
        ∙ entries_grow.last_right (is_allowed_in keep m) m a s h.long))
  ]
    where
      within : (t : Bool) → offered_before t m w ≤ w
      within true = omega arith
      within false = omega arith

  -- the left entries that were there
  pub left_before : (p : ℕ) → p < w
      → left_entry (is_allowed_in keep m) m (with_one a s) (first + p) ≡ left_entry (is_allowed_in keep m) m a
      (first + p)
  left_before p lt = entries_grow.left (is_allowed_in keep m) m a s (first + p) h.long (omega (arith, lt, h.last))

  -- what may stand to the left of the last window
  abbrev lefts : ℕ → Option Near
  lefts j = candidate (λ k. is_allowed_in keep m (first + w) k && nat_lt k (first + w))
      (λ k. distance m (with_one a s) (first + w) (with_one a s) k) j

  none_before : (j : ℕ) → j < first → lefts j ≡ None
  none_before j lt =
      ap (λ t. if t then at_distance j (distance m (with_one a s) (first + w) (with_one a s) j) else None)
      (may_not_behind keep m (first + w) j (omega (arith, lt, h.whole j lt)))

  none_near : (p : ℕ) → w ≤ p + excl m → lefts (first + p) ≡ None
  none_near p le =
      ap (λ t. if t then at_distance (first + p)
      (distance m (with_one a s) (first + w) (with_one a s) (first + p)) else None)
      (may_not_left keep m (first + w) (first + p) (omega (arith, le)))

  left_at : (p : ℕ) → p + excl m < w
      → lefts (first + p)
      ≡ at_distance (first + p) (if get_or free p false && get_or free w false then Some (dist p) else None)
  left_at p lt =
      ap (λ t. if t then at_distance (first + p)
      (distance m (with_one a s) (first + w) (with_one a s) (first + p)) else None)
      (may_left keep m (first + w) (first + p) (omega (arith, lt)) (omega (arith, h.band)))
      ∙ ap (at_distance (first + p)) (symmetric m (with_one a s) (first + w) (with_one a s) (first + p)
      ∙ far p (omega (arith, lt)))

  found_at : (p : ℕ) → (t : Bool) → get_or free w false ≡ true → get_or free p false ≡ t
      → at_distance (first + p) (if get_or free p false && get_or free w false then Some (dist p) else None)
      ≡ renumbered (Some first) (row_candidate free dist p)
  found_at p true some e = rw (some, e) refl
  found_at p false some e = rw (some, e) refl

  missed_at : (p : ℕ) → get_or free w false ≡ false
      → at_distance (first + p) (if get_or free p false && get_or free w false then Some (dist p) else None) ≡ None
  missed_at p none = ap (at_distance (first + p)) (none_if (get_or free p false) (get_or free w false) (dist p) none)

  best_by : (t : Bool) → get_or free w false ≡ t
      → near (λ p. lefts (first + p)) (w + 1)
      ≡ renumbered (Some first) (near (row_candidate free dist) (offered_before t m w))
  best_by true some =
      let end = w - excl m in
      let rest : end + (w + 1 - end) ≡ w + 1 = omega arith in
      subst (λ n. near (λ p. lefts (first + p)) n
      ≡ renumbered (Some first) (near (row_candidate free dist) end)) rest
      (near_front (λ p. lefts (first + p)) end (w + 1 - end) (λ p low lt. none_near p (omega (arith, low)))
      ∙ near_same (λ p. lefts (first + p)) (λ p. renumbered (Some first) (row_candidate free dist p)) end
      (λ p lt. left_at p (omega (arith, lt)) ∙ found_at p (get_or free p false) some refl)
      ∙ near_renumbered first (row_candidate free dist) end)
  best_by false none =
      near_none (λ p. lefts (first + p)) (w + 1)
      (λ p lt. elim (cases_lt (p + excl m) w) [
        | inl far_off ↦ left_at p far_off ∙ missed_at p none
        | inr close ↦ none_near p close
      ])
      ∙ ap (renumbered (Some first)) (sym (grows_by_one_candidate.no_candidates (row_candidate free dist)))

  -- the left entry of the last window
  pub left_of_last : left_entry (is_allowed_in keep m) m (with_one a s) (first + w)
      ≡ renumbered (Some first) (near (row_candidate free dist) (offered_before (get_or free w false) m w))
  left_of_last =
      let count : windows_of m (with_one a s) ≡ first + (w + 1) =
      windows_more m a s h.long ∙ omega (arith, h.last) in
      ap (near lefts) count ∙ near_behind lefts first (w + 1) none_before ∙ best_by (get_or free w false) refl
