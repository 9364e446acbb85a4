-- Why entries are nearest windows, and what the nearest window is by which windows may be chosen.
use Rattle.std.proofs.Common.{◌≡◌, ℕ, ◌<◌, ◌≤◌, ◌⊎◌, Bool, true, false, refl, arith, ap, ◌∙◌, sym, subst}
use Rattle.std.specs.Prelude.{Option, Some, None, ◌&&◌, ◌||◌, nat_lt, if◌then◌else◌, length}
use Rattle.std.proofs.lemmas.Bool.Decides.{nat_tests}
use Rattle.mp_nums.specs.declared.nearest.Near.{Near}
use Rattle.mp_nums.specs.Near.{comes_before, nearer_of}
use Rattle.mp_nums.specs.NearLaws.{nearer_repeats, nearer_with_none}
use Rattle.mp_defs.specs.Series.{Series}
use Rattle.mp_defs.specs.Window.{windows}
use Rattle.mp_defs.specs.Distance.{distance}
use Rattle.mp_defs.specs.Least.{near_at, at_distance, candidate}
use Rattle.mp_defs.specs.Profile.{windows_of, nearest}
use Rattle.mp_defs.specs.Laws.{IsLeast, IsNearest, EntriesAreNearest, NearestByChoice}
use Rattle.mp_defs.specs.Laws.{ZoneIsMutual, EntriesAreOfBothSides}
use Rattle.mp_defs.specs.LeastLaws.{near_is_first, near_same, near_both, near_none, near_one}

-- ---- the nearest window is the first of those that may be chosen

none_some : (x : Near) → None ≡ Some x → ⊥
none_some x e = cc

at_none : (j : ℕ) (d : Option ℕ) → at_distance j d ≡ None → d ≡ None
at_none j None e = refl
at_none j (Some d) e = absurd (none_some _ (sym e))

-- a candidate is a window that may be chosen, at its distance
chosen_by : (j : ℕ) (d : Option ℕ) (a : Near) → at_distance j d ≡ Some a → (a.index ≡ j) × (d ≡ Some a.dist.0)
chosen_by j None a e = absurd (none_some a e)
chosen_by j (Some d) a e =
    let same : near_at j d ≡ a = cc in
    subst (λ (x : Near). (x.index ≡ j) × (Some d ≡ Some x.dist.0)) same (refl, refl)

chosen_if : (t : Bool) (j : ℕ) (d : Option ℕ) (a : Near) → (if t then at_distance j d else None) ≡ Some a
    → (t ≡ true) × (a.index ≡ j) × (d ≡ Some a.dist.0)
chosen_if true j d a e = let h = chosen_by j d a e in (refl, h.0, h.1)
chosen_if false j d a e = absurd (none_some a e)

not_before_order : (a : Near) (j d : ℕ) → comes_before (near_at j d) a ≡ false
    → (a.dist.0 < d) ⊎ ((a.dist.0 ≡ d) × (a.index ≤ j))
not_before_order a j d h = grind (arith, nat_tests)

is_nearest_by : (m : ℕ) (may : ℕ → Bool) (a : Series) (i : ℕ) (b : Series) (p : Option Near)
    → IsLeast (candidate may (λ j. distance m a i b j)) (windows (length b) m) p → IsNearest m may a i b p
is_nearest_by m may a i b None h = λ j lt t.
    at_none j _ (subst (λ (u : Bool). (if u then at_distance j (distance m a i b j) else None) ≡ None) t (h j lt))
is_nearest_by m may a i b (Some found) h =
    let place : (may h.place ≡ true) × (found.index ≡ h.place) × (distance m a i b h.place ≡ Some found.dist.0) =
    chosen_if (may h.place) h.place (distance m a i b h.place) found h.chosen in
    record {
      window = subst (λ (k : ℕ). k < windows (length b) m) (sym place.1) h.below;
      may_be = subst (λ (k : ℕ). may k ≡ true) (sym place.1) place.0;
      distance_is = subst (λ (k : ℕ). distance m a i b k ≡ Some found.dist.0) (sym place.1) place.2;
      none_nearer = λ j d lt t e. not_before_order found j d (h.none_before j (near_at j d) lt
          (subst (λ (u : Bool). (if u then at_distance j (distance m a i b j) else None) ≡ Some (near_at j d)) (sym t)
          (ap (at_distance j) e)));
    }

nearest_is_nearest : (m : ℕ) (may : ℕ → Bool) (a : Series) (i : ℕ) (b : Series)
    → IsNearest m may a i b (nearest m may a i b)
nearest_is_nearest m may a i b = is_nearest_by m may a i b _ (near_is_first _ _)

pub entries_are_nearest : EntriesAreNearest
entries_are_nearest = record {
  all = λ may m a i. nearest_is_nearest m _ a i a;
  left = λ may m a i. nearest_is_nearest m _ a i a;
  right = λ may m a i. nearest_is_nearest m _ a i a;
  joined = λ m a b i. nearest_is_nearest m (λ _. true) a i b;
}

-- ---- by which windows may be chosen

candidate_or : (p q : Bool) (x : Option Near)
    → (if p || q then x else None) ≡ nearer_of (if p then x else None) (if q then x else None)
candidate_or true true x = sym (nearer_repeats x)
candidate_or true false x = sym (nearer_with_none x).1
candidate_or false q x = refl

nearest_or : (m : ℕ) (p q : ℕ → Bool) (a : Series) (i : ℕ) (b : Series)
    → nearest m (λ j. p j || q j) a i b ≡ nearer_of (nearest m p a i b) (nearest m q a i b)
nearest_or m p q a i b =
    let found : ℕ → Option ℕ = λ j. distance m a i b j in
    near_same (candidate (λ j. p j || q j) found) (λ j. nearer_of (candidate p found j) (candidate q found j))
    (windows (length b) m) (λ j lt. candidate_or (p j) (q j) (at_distance j (distance m a i b j)))
    ∙ near_both (candidate p found) (candidate q found) (windows (length b) m)

nearest_same : (m : ℕ) (p q : ℕ → Bool) (a : Series) (i : ℕ) (b : Series)
    → ((j : ℕ) → j < windows_of m b → p j ≡ q j) → nearest m p a i b ≡ nearest m q a i b
nearest_same m p q a i b h =
    near_same (candidate p (λ j. distance m a i b j)) (candidate q (λ j. distance m a i b j)) (windows (length b) m)
    (λ j lt. ap (λ t. if t then at_distance j (distance m a i b j) else None) (h j lt))

pub nearest_by_choice : NearestByChoice
nearest_by_choice = record {
  either = nearest_or;
  same = nearest_same;
  none = λ m p a i b h.
      near_none (candidate p (λ j. distance m a i b j)) (windows (length b) m)
      (λ j lt. ap (λ t. if t then at_distance j (distance m a i b j) else None) (h j lt));
  only = λ m p a i b k lt here h.
      near_one (candidate p (λ j. distance m a i b j)) k (windows (length b) m) lt
      (λ j below ne. ap (λ t. if t then at_distance j (distance m a i b j) else None) (h j ne))
      ∙ ap (λ t. if t then at_distance k (distance m a i b k) else None) here;
}

-- ---- both sides of an entry

pub zone_is_mutual : ZoneIsMutual
zone_is_mutual = record {
  irreflexive = λ m i. grind (arith, nat_tests);
  symmetric = λ m i j. grind (arith, nat_tests);
}

-- an allowed window is on one side
on_a_side : (t : Bool) (i j : ℕ) → (i ≡ j → t ≡ false) → t ≡ ((t && nat_lt j i) || (t && nat_lt i j))
on_a_side t i j h = grind (arith, nat_tests)

pub entries_are_of_both_sides : EntriesAreOfBothSides
entries_are_of_both_sides may irreflexive m a i =
    nearest_same m (may i) (λ j. (may i j && nat_lt j i) || (may i j && nat_lt i j)) a i a
    (λ j lt. on_a_side (may i j) i j (λ e. subst (λ (k : ℕ). may i k ≡ false) e (irreflexive i)))
    ∙ nearest_or m (λ j. may i j && nat_lt j i) (λ j. may i j && nat_lt i j) a i a
