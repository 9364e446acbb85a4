-- What offers of one window make of a column, and of its own best.
use Rattle.std.proofs.Common.{◌≡◌, ℕ, zero, suc, ◌+◌, ◌-◌, ◌^◌, ◌<◌, ◌≤◌, inl, inr, List, [], ◌∷◌, length, get_or, set}
use Rattle.std.proofs.Common.{Bool, true}
use Rattle.std.proofs.Common.{false}
use Rattle.std.proofs.Common.{refl, sym, ap, ◌∙◌, arith, subst}
use Rattle.std.specs.Prelude.{Option, Some, None, IfSome, nat_lt, if◌then◌else◌}
use Rattle.std.proofs.lemmas.Bool.{cases_eq, cases_lt}
use Rattle.std.proofs.lemmas.Bool.Decides.{nat_tests}
use Rattle.std.proofs.lemmas.List.{get_or-set_same, get_or-set_other, length-set}
use Rattle.mp_nums.specs.declared.nearest.Near.{Near}
use Rattle.mp_nums.specs.Near.{nearer_of}
use Rattle.mp_defs.specs.Least.{near, near_at}
use Rattle.mp_defs.specs.LeastLaws.{grows_by_one_candidate, near_same}
use Rattle.mp_partial.specs.Values.{offered}
use Rattle.mp_stream.specs.Blocks.{numbered, renumbered}
use Rattle.mp_stream.specs.Limits.{limit_of, coarse, coarse_limit, StartsAtMost, AllStartAtMost, AreLimits}
use Rattle.mp_stream.specs.Offers.{AreOffered, IsReady, OnlyRightChanges}
use Rattle.mp_stream.specs.declared.entries.Entries.{Entries}
use Rattle.mp_stream.specs.Rows.{IsTaken, row_candidate, lowered}

-- ---- the column

pub taken_none : (free : List Bool) (dist : ℕ → ℕ) (j first : ℕ) (old : List (Option Near))
    → IsTaken free dist j first first old old
taken_none free dist j first old = record {
  places = refl;
  within = λ i le lt. absurd (omega (arith, le, lt));
  before = λ i lt. refl;
  behind = λ i le. refl;
}

pub taken_then : (free : List Bool) (dist : ℕ → ℕ) (j first middle end : ℕ) (old mid new : List (Option Near))
    → first ≤ middle → middle ≤ end → IsTaken free dist j first middle old mid → IsTaken free dist j middle end mid new
    → IsTaken free dist j first end old new
taken_then free dist j first middle end old mid new le le' h k = record {
  places = k.places ∙ h.places;
  within = λ i low high. elim (cases_lt i middle) [
    | inl lt ↦ k.before i lt ∙ h.within i low lt
    | inr ge ↦ k.within i ge high ∙ ap (lowered free dist j i) (h.behind i ge)
  ];
  before = λ i lt. k.before i (omega (arith, lt)) ∙ h.before i lt;
  behind = λ i ge. k.behind i ge ∙ h.behind i (omega (arith, ge));
}

one_within : (old new : List (Option Near)) (i : ℕ) (y : Option Near) (t : Bool) → i < length old
    → new ≡ (if t then set old i y else old) → get_or new i None ≡ (if t then y else get_or old i None)
one_within old new i y true lt e = ap (λ xs. get_or xs i None) e ∙ get_or-set_same old i y None lt
one_within old new i y false lt e = ap (λ xs. get_or xs i None) e

one_other : (old new : List (Option Near)) (i q : ℕ) (y : Option Near) (t : Bool) → (q ≡ i → ⊥)
    → new ≡ (if t then set old i y else old) → get_or new q None ≡ get_or old q None
one_other old new i q y true ne e = ap (λ xs. get_or xs q None) e ∙ get_or-set_other old i q y None ne
one_other old new i q y false ne e = ap (λ xs. get_or xs q None) e

one_long : (old new : List (Option Near)) (i : ℕ) (y : Option Near) (t : Bool)
    → new ≡ (if t then set old i y else old) → length new ≡ length old
one_long old new i y true e = ap length e ∙ length-set old i y
one_long old new i y false e = ap length e

-- one window
pub taken_one : (free : List Bool) (dist : ℕ → ℕ) (j i : ℕ) (old new : List (Option Near)) → i < length old
    → new ≡ (if get_or free i false then offered old i (near_at j (dist i)) else old)
    → IsTaken free dist j i (i + 1) old new
taken_one free dist j i old new lt e =
    let y = nearer_of (get_or old i None) (Some (near_at j (dist i))) in
    record {
      places = one_long old new i y (get_or free i false) e;
      within = λ q low high. let same : i ≡ q = omega (arith, low, high) in
          subst (λ p. get_or new p None ≡ lowered free dist j p (get_or old p None)) same
          (one_within old new i y (get_or free i false) lt e);
      before = λ q less. one_other old new i q y (get_or free i false) (λ s. omega (arith, less, s)) e;
      behind = λ q ge. one_other old new i q y (get_or free i false) (λ s. omega (arith, ge, s)) e;
    }

-- ---- the best of the last window

best_one : (t : Bool) (old new : Option Near) (d i : ℕ)
    → new ≡ (if t then nearer_of old (Some (near_at i d)) else old)
    → new ≡ nearer_of old (if t then Some (near_at i d) else None)
best_one true old new d i e = e
best_one false None new d i e = e
best_one false (Some a) new d i e = e

pub best_more : (free : List Bool) (dist : ℕ → ℕ) (i : ℕ) (old new : Option Near)
    → old ≡ near (row_candidate free dist) i
    → new ≡ (if get_or free i false then nearer_of old (Some (near_at i (dist i))) else old)
    → new ≡ near (row_candidate free dist) (i + 1)
best_more free dist i old new e f =
    best_one (get_or free i false) old new (dist i) i f ∙ ap (λ x. nearer_of x (row_candidate free dist i)) e
    ∙ sym (grows_by_one_candidate.one_more (row_candidate free dist) i)

-- the best of some windows is one of them
index_more : (t : Bool) (old : Option Near) (d n : ℕ) → IfSome old (λ best. best.index < n)
    → IfSome (nearer_of old (if t then Some (near_at n d) else None)) (λ best. best.index < n + 1)
index_more true None d n h = omega arith
index_more true (Some a) d n h = grind (arith, nat_tests)
index_more false None d n h = h
index_more false (Some a) d n h = omega (arith, h)

best_below : (free : List Bool) (dist : ℕ → ℕ) (n : ℕ)
    → IfSome (near (row_candidate free dist) n) (λ best. best.index < n)
best_below free dist zero =
    subst (λ best. IfSome best (λ found. found.index < 0))
    (sym (grows_by_one_candidate.no_candidates (row_candidate free dist))) tt
best_below free dist (suc n) =
    let one : n + 1 ≡ suc n = omega arith in
    subst (λ k. IfSome (near (row_candidate free dist) k) (λ best. best.index < k)) one
    (subst (λ best. IfSome best (λ found. found.index < n + 1))
    (sym (grows_by_one_candidate.one_more (row_candidate free dist) n))
    (index_more (get_or free n false) (near (row_candidate free dist) n) (dist n) n (best_below free dist n)))

index_within : (best : Option Near) (n last : ℕ) → n ≤ last → IfSome best (λ best. best.index < n)
    → IfSome best (λ best. best.index < last)
index_within None n last le h = tt
index_within (Some best) n last le h = omega (arith, le, h)

pub best_before : (free : List Bool) (dist : ℕ → ℕ) (n last : ℕ) (best : Option Near) → n ≤ last
    → best ≡ near (row_candidate free dist) n → IfSome best (λ best. best.index < last)
best_before free dist n last best le e =
    index_within best n last le (subst (λ x. IfSome x (λ found. found.index < n)) (sym e) (best_below free dist n))

-- the same distances, otherwise told
pub taken_as : (free : List Bool) (dist dist' : ℕ → ℕ) (j first end : ℕ) (old new : List (Option Near))
    → ((i : ℕ) → i < end → dist i ≡ dist' i) → IsTaken free dist j first end old new
    → IsTaken free dist' j first end old new
taken_as free dist dist' j first end old new same h = record {
  places = h.places;
  within = λ i low high. h.within i low high ∙ ap (lowered_at free j i (get_or old i None)) (same i high);
  before = h.before;
  behind = h.behind;
}
  where
    lowered_at : List Bool → ℕ → ℕ → Option Near → ℕ → Option Near
    lowered_at free j i old d = lowered free (λ _. d) j i old

pub best_as : (free : List Bool) (dist dist' : ℕ → ℕ) (n : ℕ) → ((i : ℕ) → i < n → dist i ≡ dist' i)
    → near (row_candidate free dist) n ≡ near (row_candidate free dist') n
best_as free dist dist' n same =
    near_same (row_candidate free dist) (row_candidate free dist') n (λ i lt. ap (candidate_at free i) (same i lt))
  where
    candidate_at : List Bool → ℕ → ℕ → Option Near
    candidate_at free i d = row_candidate free (λ _. d) i

-- ---- what is not below its limit changes nothing

pub same_kept : (old : Option Near) (d j : ℕ) → d < 2 ^ 63 → limit_of old ≤ d → StartsAtMost j old
    → nearer_of old (Some (near_at j d)) ≡ old
same_kept None d j small le h = absurd (omega arith)
same_kept (Some a) d j small le h = let near : a.dist.0 ≤ d = omega (arith, le, small) in grind (arith, nat_tests)

pub coarse_kept : (old : Option Near) (d j : ℕ) → d < 2 ^ 79 → coarse_limit old ≤ coarse d
    → nearer_of old (Some (near_at j d)) ≡ old
coarse_kept None d j small le = absurd (omega (arith, le, small))
coarse_kept (Some a) d j small le = let near : a.dist.0 < d = omega (arith, le, small) in grind (arith, nat_tests)

lowered_kept : (t : Bool) (old new : Option Near) → new ≡ old → (if t then new else old) ≡ old
lowered_kept true old new e = e
lowered_kept false old new e = refl

pub taken_kept : (free : List Bool) (dist : ℕ → ℕ) (j first end : ℕ) (old : List (Option Near))
    → ((i : ℕ) → first ≤ i → i < end → nearer_of (get_or old i None) (Some (near_at j (dist i))) ≡ get_or old i None)
    → IsTaken free dist j first end old old
taken_kept free dist j first end old h = record {
  places = refl;
  within = λ i low high. sym (lowered_kept (get_or free i false) (get_or old i None) _ (h i low high));
  before = λ i lt. refl;
  behind = λ i ge. refl;
}

pub starts_more : (old : Option Near) (j k : ℕ) → j ≤ k → StartsAtMost j old → StartsAtMost k old
starts_more None j k le h = tt
starts_more (Some a) j k le h = omega (arith, le, h)

pub nearer_starts : (old : Option Near) (d j : ℕ) → StartsAtMost j old
    → StartsAtMost j (nearer_of old (Some (near_at j d)))
nearer_starts None d j h = omega arith
nearer_starts (Some a) d j h = grind (arith, nat_tests)

if_some : (j : ℕ) (found : Option Near) → IfSome found (λ best. best.index < j) → StartsAtMost j found
if_some j None h = tt
if_some j (Some a) h = omega (arith, h)

pub best_starts : (free : List Bool) (dist : ℕ → ℕ) (n : ℕ) → StartsAtMost n (near (row_candidate free dist) n)
best_starts free dist n = if_some n (near (row_candidate free dist) n) (best_below free dist n)

-- what is not nearer than the best changes nothing
best_on : (free : List Bool) (dist : ℕ → ℕ) (first n : ℕ) (best : Option Near)
    → best ≡ near (row_candidate free dist) first
    → ((i : ℕ) → first ≤ i → i < first + n → nearer_of best (Some (near_at i (dist i))) ≡ best)
    → best ≡ near (row_candidate free dist) (first + n)
best_on free dist first zero best e h =
    let same : first ≡ first + 0 = omega arith in subst (λ k. best ≡ near (row_candidate free dist) k) same e
best_on free dist first (suc n) best e h =
    let same : first + n + 1 ≡ first + suc n = omega arith in
    subst (λ k. best ≡ near (row_candidate free dist) k) same
    (best_more free dist (first + n) best best (best_on free dist first n best e (λ i low high. h i low (omega
    (arith, high))))
    (sym (lowered_kept (get_or free (first + n) false) best _ (h (first + n) (omega arith) (omega arith)))))

pub best_kept : (free : List Bool) (dist : ℕ → ℕ) (first end : ℕ) (best : Option Near) → first ≤ end
    → best ≡ near (row_candidate free dist) first
    → ((i : ℕ) → first ≤ i → i < end → nearer_of best (Some (near_at i (dist i))) ≡ best)
    → best ≡ near (row_candidate free dist) end
best_kept free dist first end best le e h =
    let whole : first + (end - first) ≡ end = omega arith in
    subst (λ n. best ≡ near (row_candidate free dist) n) whole
    (best_on free dist first (end - first) best e (λ i low high. h i low (omega (arith, high))))

-- ---- limits

-- a place of a column and its limit
limits_set : (limit_by : Option Near → ℕ) (old : List (Option Near)) (limits : List ℕ) (i : ℕ) (y : Option Near)
    → i < length old → AreLimits limit_by old limits → AreLimits limit_by (set old i y) (set limits i (limit_by y))
limits_set limit_by old limits i y lt are = record {
  places = length-set limits i (limit_by y) ∙ are.places ∙ sym (length-set old i y);
  each = λ q below. elim (cases_eq q i) [
    | inl same ↦ subst (λ p. get_or (set limits i (limit_by y)) p 0 ≡ limit_by (get_or (set old i y) p None)) (sym same)
        (get_or-set_same limits i (limit_by y) 0 (omega (arith, lt, are.places))
        ∙ ap limit_by (sym (get_or-set_same old i y None lt)))
    | inr other ↦ get_or-set_other limits i q (limit_by y) 0 other
        ∙ are.each q (omega (arith, below, length-set old i y))
        ∙ ap limit_by (sym (get_or-set_other old i q y None other))
  ];
}

-- ---- entries of which only those on the right change

pub only_same : (entries : Entries) → OnlyRightChanges entries entries
only_same entries = record { left = refl; spare = refl; first = refl; limits = refl; known = λ known was. was }

pub only_then : (a b c : Entries) → OnlyRightChanges a b → OnlyRightChanges b c → OnlyRightChanges a c
only_then a b c h g = record {
  left = g.left ∙ h.left;
  spare = g.spare ∙ h.spare;
  first = g.first ∙ h.first;
  limits = g.limits ∙ h.limits;
  known = λ known was. g.known known (h.known known was);
}

-- after one window
pub ready_one : (limit_by : Option Near → ℕ) (last i d limit : ℕ) (old new : Entries) → i < last
    → IsReady limit_by last old → new.profile.first ≡ old.profile.first
    → new.profile.right ≡ offered old.profile.right i (near_at (numbered old.profile.first last) d)
    → limit ≡ limit_by (get_or new.profile.right i None) → new.limits.items ≡ set old.limits.items i limit
    → IsReady limit_by last new
ready_one limit_by last i d limit old new lt h first right limit_is limits =
    let column = old.profile.right in
    let j = numbered old.profile.first last in
    let y = nearer_of (get_or column i None) (Some (near_at j d)) in
    let within : i < length column = omega (arith, lt, h.rights) in
    let here : get_or new.profile.right i None ≡ y =
    ap (λ list. get_or list i None) right ∙ get_or-set_same column i y None within in
    record {
      rights = ap length right ∙ length-set column i y ∙ h.rights;
      number = subst (λ f. numbered f last < 2 ^ 64) (sym first) h.number;
      starts = subst (λ f. AllStartAtMost (numbered f last) new.profile.right) (sym first)
          (λ q. subst (λ list. StartsAtMost j (get_or list q None)) (sym right) (elim (cases_eq q i) [
            | inl same ↦ subst (λ p. StartsAtMost j (get_or (set column i y) p None)) (sym same)
                (subst (StartsAtMost j) (sym (get_or-set_same column i y None within))
                (nearer_starts (get_or column i None) d j (h.starts i)))
            | inr other ↦ subst (StartsAtMost j) (sym (get_or-set_other column i q y None other)) (h.starts q)
          ]));
      limits = subst (λ list. AreLimits limit_by list new.limits.items) (sym right)
          (subst (AreLimits limit_by (set column i y)) (sym (limits
          ∙ ap (set old.limits.items i) (limit_is ∙ ap limit_by here)))
          (limits_set limit_by column old.limits.items i y within h.limits));
    }

-- which side a window is offered to
pub when_less : (i j : ℕ) (x y : List (Option Near)) → i < j → (if nat_lt i j then x else y) ≡ x
when_less i j x y lt = grind (arith, nat_tests)

limit_taken : (old : Option Near) (d j : ℕ) → d < limit_of old → d < 2 ^ 63
    → d ≡ limit_of (nearer_of old (Some (near_at j d)))
limit_taken None d j lt small = omega arith
limit_taken (Some a) d j lt small = let near : d < a.dist.0 = omega (arith, lt) in grind (arith, nat_tests)

-- after a window that is nearer than its limit
pub limit_less : (last i d : ℕ) (old : Entries) (seen : List ℕ) (right : List (Option Near)) → i < last → d < 2 ^ 63
    → IsReady limit_of last old → seen ≡ old.limits.items → d < get_or seen i 0
    → right ≡ offered old.profile.right i (near_at (numbered old.profile.first last) d)
    → d ≡ limit_of (get_or right i None)
limit_less last i d old seen right lt small h seen_is below right_is =
    let column = old.profile.right in
    let within : i < length column = omega (arith, lt, h.rights) in
    let less : d < limit_of (get_or column i None) =
    omega (arith, below, ap (λ list. get_or list i 0) seen_is, h.limits.each i within) in
    limit_taken (get_or column i None) d (numbered old.profile.first last) less small
    ∙ ap limit_of (sym (ap (λ list. get_or list i None) right_is ∙ get_or-set_same column i _ None within))

-- window after window
pub offered_none : (limit_by : Option Near → ℕ) (free : List Bool) (dist : ℕ → ℕ) (last first : ℕ) (entries : Entries)
    → IsReady limit_by last entries → AreOffered limit_by free dist last first first entries entries
offered_none limit_by free dist last first entries h = record {
  right = taken_none free dist (numbered entries.profile.first last) first entries.profile.right;
  only = only_same entries;
  ready = h;
}

pub offered_then : (limit_by : Option Near → ℕ) (free : List Bool) (dist : ℕ → ℕ) (last first middle end : ℕ)
    (a b c : Entries) → first ≤ middle → middle ≤ end → AreOffered limit_by free dist last first middle a b
    → AreOffered limit_by free dist last middle end b c → AreOffered limit_by free dist last first end a c
offered_then limit_by free dist last first middle end a b c le le' h g = record {
  right = taken_then free dist (numbered a.profile.first last) first middle end _ _ _ le le' h.right
      (subst (λ f. IsTaken free dist (numbered f last) middle end b.profile.right c.profile.right) h.only.first
      g.right);
  only = only_then a b c h.only g.only;
  ready = g.ready;
}

pub offered_one : (limit_by : Option Near → ℕ) (free : List Bool) (dist : ℕ → ℕ) (last i : ℕ) (old new : Entries)
    → i < last → IsReady limit_by last old
    → new.profile.right ≡ (if get_or free i false then offered old.profile.right i
    (near_at (numbered old.profile.first last) (dist i)) else old.profile.right)
    → OnlyRightChanges old new → IsReady limit_by last new → AreOffered limit_by free dist last i (i + 1) old new
offered_one limit_by free dist last i old new lt h right only ready = record {
  right = taken_one free dist (numbered old.profile.first last) i old.profile.right new.profile.right
      (omega (arith, lt, h.rights)) right;
  only = only;
  ready = ready;
}

-- the same distances, otherwise told, and the same last place
pub offered_as : (limit_by : Option Near → ℕ) (free : List Bool) (dist dist' : ℕ → ℕ) (last last' first end : ℕ)
    (old new : Entries) → last ≡ last' → ((i : ℕ) → i < end → dist i ≡ dist' i)
    → AreOffered limit_by free dist last first end old new → AreOffered limit_by free dist' last' first end old new
offered_as limit_by free dist dist' last last' first end old new at same h =
    subst (λ j. AreOffered limit_by free dist' j first end old new) at
    (record {
      right = taken_as free dist dist' (numbered old.profile.first last) first end _ _ same h.right;
      only = h.only;
      ready = h.ready;
    })

-- no window is nearer than what its limit tells
pub offered_kept : (limit_by : Option Near → ℕ) (free : List Bool) (dist : ℕ → ℕ) (last first end : ℕ)
    (entries : Entries) → IsReady limit_by last entries
    → ((i : ℕ) → first ≤ i → i < end
    → nearer_of (get_or entries.profile.right i None) (Some (near_at (numbered entries.profile.first last) (dist i)))
    ≡ get_or entries.profile.right i None)
    → AreOffered limit_by free dist last first end entries entries
offered_kept limit_by free dist last first end entries h kept = record {
  right = taken_kept free dist (numbered entries.profile.first last) first end entries.profile.right kept;
  only = only_same entries;
  ready = h;
}

-- a window that is not nearer than its limit changes no column
pub same_right : (last i d : ℕ) (entries : Entries) → i < last → d < 2 ^ 63 → IsReady limit_of last entries
    → get_or entries.limits.items i 0 ≤ d
    → entries.profile.right ≡ offered entries.profile.right i (near_at (numbered entries.profile.first last) d)
same_right last i d entries lt small h le =
    let column = entries.profile.right in
    let each = h.limits.each i (omega (arith, lt, h.rights)) in
    let kept = same_kept (get_or column i None) d (numbered entries.profile.first last) small (omega (arith, le, each))
    (h.starts i) in
    sym (ap (set column i) kept ∙ set_same column i)
  where
    set_same : (xs : List (Option Near)) (i : ℕ) → set xs i (get_or xs i None) ≡ xs
    set_same [] i = refl
    set_same (x ∷ xs) zero = refl
    set_same (x ∷ xs) (suc i) = ap (λ l. x ∷ l) (set_same xs i)

-- ---- numbers of places

-- those of earlier places are no greater
pub numbered_less : (first : Option ℕ) (i j : ℕ) → i < j → numbered first j < 2 ^ 64 → numbered first i < 2 ^ 64
numbered_less None i j lt h = omega (arith, lt, h)
numbered_less (Some first) i j lt h = omega (arith, lt, h)

-- where all windows are there, a place is a number
pub renumbered_whole : (found : Option Near) → renumbered None found ≡ found
renumbered_whole None = refl
renumbered_whole (Some found) = refl
