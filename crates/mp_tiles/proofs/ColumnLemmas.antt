-- Columns of nearest windows that are cleared or merged place by place, and what residues tell of them.
use Rattle.std.proofs.Common.{◌≡◌, ◌≢◌, ℕ, ◌+◌, ◌<◌, ◌≤◌, inl, inr, List, length, get_or, set, refl, sym, ap, ◌∙◌}
use Rattle.std.proofs.Common.{arith, subst, replicate, ℤ, pos, Bool, true, false, w32, FitsSigned}
use Rattle.std.specs.Prelude.{Option, Some, None}
use Rattle.std.proofs.lemmas.Bool.{cases_eq}
use Rattle.std.proofs.lemmas.Bool.Decides.{nat_tests}
use Rattle.std.proofs.lemmas.List.{ext_get_or, length-set, get_or-set_same, get_or-set_other, get_or-replicate}
use Rattle.std.proofs.lemmas.List.{length-replicate}
use Rattle.std.proofs.lemmas.Simd.{length-zip2, get_or-zip2}
use Rattle.mp_nums.specs.declared.nearest.Near.{Near}
use Rattle.mp_nums.specs.Near.{nearer_of}
use Rattle.mp_sums.specs.declared.limits.Limit.TheVariants.{Every, Within}
use Rattle.mp_sums.specs.Residues.{item}
use Rattle.mp_sums.specs.ResidueLaws.{is_limit}
use Rattle.mp_partial.specs.Values.{Column, merged_column}
use Rattle.mp_scans.specs.Offering.{TellsNothing}
use Rattle.mp_scans.specs.Slots.{Covers}
use Rattle.mp_tiles.specs.Compact.{AreBounds, slot_bound}

-- ---- lists

set_at : {X : Type 0} (P : ℕ → X → Type 0) (d : X) (v : List X) (n : ℕ) (z : X) → n < length v → P n z → (k : ℕ)
    → (k ≢ n → P k (get_or v k d)) → P k (get_or (set v n z) k d)
set_at P d v n z lt here k before = elim (cases_eq k n) [
  | inl same ↦ subst (λ q. P q (get_or (set v n z) q d)) (sym same)
      (subst (P n) (sym (get_or-set_same v n z d lt)) here)
  | inr other ↦ subst (P k) (sym (get_or-set_other v n k z d other)) (before other)
]

-- places before i are merged
pub record AreMergedBelow (i : ℕ) (old others new : Column) : Type 0 where
  pub places : length new ≡ length old
  pub done : (k : ℕ) → k < i → get_or new k None ≡ nearer_of (get_or old k None) (get_or others k None)
  pub left : (k : ℕ) → i ≤ k → get_or new k None ≡ get_or old k None

pub none_merged : (old others : Column) → AreMergedBelow 0 old others old
none_merged old others = record {
  places = refl;
  done = λ k lt. absurd (omega (arith, lt));
  left = λ _ _. refl;
}

pub merged_next : (i : ℕ) (old others new : Column) (slot : Option Near) → i < length old
    → AreMergedBelow i old others new → slot ≡ nearer_of (get_or new i None) (get_or others i None)
    → AreMergedBelow (i + 1) old others (set new i slot)
merged_next i old others new slot lt h e = record {
  places = length-set new i slot ∙ h.places;
  done = λ k below. set_at (λ j s. s ≡ nearer_of (get_or old j None) (get_or others j None)) None new i slot
      (omega (arith, h.places, lt)) (e ∙ ap (λ x. nearer_of x (get_or others i None)) (h.left i (omega arith))) k
      (λ ne. h.done k (omega (arith, below, ne)));
  left = λ k behind. get_or-set_other new i k slot None (λ same. omega (arith, same, behind))
      ∙ h.left k (omega (arith, behind));
}

pub all_merged : (i : ℕ) (old others new : Column) → length others ≡ length old → length old ≤ i
    → AreMergedBelow i old others new → new ≡ merged_column old others
all_merged i old others new long all h =
    ext_get_or None new (merged_column old others) (h.places ∙ sym (length-zip2 nearer_of old others (sym long)))
    (λ k lt. h.done k (omega (arith, lt, all, h.places))
    ∙ sym (get_or-zip2 nearer_of old others k None None None (omega (arith, lt, h.places))
    (omega (arith, lt, long, h.places))))

-- ---- columns that are copied

pub copied_next : (i : ℕ) (slots others : Column) (slot : Option Near) → i < length slots
    → ((q : ℕ) → q < i → get_or slots q None ≡ get_or others q None) → slot ≡ get_or others i None
    → (q : ℕ) → q < i + 1 → get_or (set slots i slot) q None ≡ get_or others q None
copied_next i slots others slot lt before e q below =
    set_at (λ j s. s ≡ get_or others j None) None slots i slot lt e q
    (λ ne. before q (omega (arith, below, ne)))

-- ---- columns that are cleared

pub record AreClearBelow (i : ℕ) (old new : Column) : Type 0 where
  pub places : length new ≡ length old
  pub each : (k : ℕ) → k < i → get_or new k None ≡ None

pub none_cleared : (old : Column) → AreClearBelow 0 old old
none_cleared old = record {
  places = refl;
  each = λ k lt. absurd (omega (arith, lt));
}

pub cleared_next : (i : ℕ) (old new : Column) (slot : Option Near) → i < length old → AreClearBelow i old new
    → slot ≡ None → AreClearBelow (i + 1) old (set new i slot)
cleared_next i old new slot lt h e = record {
  places = length-set new i slot ∙ h.places;
  each = λ k below. set_at (λ _ s. s ≡ None) None new i slot (omega (arith, h.places, lt)) e k
      (λ ne. h.each k (omega (arith, below, ne)));
}

pub all_cleared : (i : ℕ) (old new : Column) → length old ≤ i → AreClearBelow i old new
    → new ≡ replicate (length old) None
all_cleared i old new all h =
    ext_get_or None new (replicate (length old) None)
    (h.places ∙ sym (length-replicate {A = Option Near} (length old) None))
    (λ k lt. h.each k (omega (arith, lt, all, h.places))
    ∙ sym (get_or-replicate (length old) k None None (omega (arith, lt, h.places))))

-- ---- bounds

-- those below i are by this rounding
pub record AreBoundsBelow (i m shift : ℕ) (slots : Column) (bounds : List ℤ) : Type 0 where
  pub places : length bounds ≡ length slots
  pub each : (k : ℕ) → k < i → item bounds k ≡ slot_bound m shift (get_or slots k None)

pub bounds_next : (i m shift : ℕ) (slots : Column) (bounds there : List ℤ) (bound : ℤ) → i < length slots
    → there ≡ bounds → AreBoundsBelow i m shift slots bounds → bound ≡ slot_bound m shift (get_or slots i None)
    → AreBoundsBelow (i + 1) m shift slots (set there i bound)
bounds_next i m shift slots bounds there bound lt same h e =
    subst (λ v. AreBoundsBelow (i + 1) m shift slots (set v i bound)) (sym same) (record {
      places = length-set bounds i bound ∙ h.places;
      each = λ k below. set_at (λ j z. z ≡ slot_bound m shift (get_or slots j None)) (pos 0) bounds i bound
          (omega (arith, h.places, lt)) e k (λ ne. h.each k (omega (arith, below, ne)));
    })

pub bounds_all : (i m shift : ℕ) (slots : Column) (bounds : List ℤ) → length slots ≤ i
    → AreBoundsBelow i m shift slots bounds → AreBounds m shift slots bounds
bounds_all i m shift slots bounds all h = record {
  places = h.places;
  each = λ k lt. h.each k (omega (arith, lt, all));
}

-- the same slots and bounds, by the same rounding
pub bounds_same : (m m' shift shift' : ℕ) (slots slots' : Column) (bounds bounds' : List ℤ) → m ≡ m' → shift ≡ shift'
    → slots ≡ slots' → bounds ≡ bounds' → AreBounds m' shift' slots' bounds' → AreBounds m shift slots bounds
bounds_same m m' shift shift' slots slots' bounds bounds' e f g h is =
    subst (λ n. AreBounds n shift slots bounds) (sym e)
    (subst (λ n. AreBounds m' n slots bounds) (sym f)
    (subst (λ v. AreBounds m' shift' v bounds) (sym g) (subst (AreBounds m' shift' slots') (sym h) is)))

-- where a slot and its bound are put
pub bounds_set : (i m shift : ℕ) (slots slots' : Column) (bounds bounds' : List ℤ) (slot : Option Near) (bound : ℤ)
    → slots' ≡ slots → bounds' ≡ bounds → i < length slots → AreBounds m shift slots bounds
    → bound ≡ slot_bound m shift slot → AreBounds m shift (set slots' i slot) (set bounds' i bound)
bounds_set i m shift slots slots' bounds bounds' slot bound e f lt h is =
    subst (λ v. AreBounds m shift (set v i slot) (set bounds' i bound)) (sym e)
    (subst (λ v. AreBounds m shift (set slots i slot) (set v i bound)) (sym f) (record {
      places = length-set bounds i bound ∙ h.places ∙ sym (length-set slots i slot);
      each = λ k below. set_at (λ j z. z ≡ slot_bound m shift (get_or (set slots i slot) j None)) (pos 0) bounds i bound
          (omega (arith, h.places, lt)) (is ∙ ap (slot_bound m shift) (sym (get_or-set_same slots i slot None lt))) k
          (λ ne. h.each k (omega (arith, below, length-set slots i slot))
          ∙ ap (slot_bound m shift) (sym (get_or-set_other slots i k slot None ne)));
    }))

far : (near : Near) (index d : ℕ) → near.dist.0 < d → Covers (Some near) index d
far near index d lt = grind (arith, nat_tests)

-- beyond the windows that are as near as what was found, none gives a slot something
pub within_tells : (m shift first : ℕ) (slot : Option Near) (bound : ℤ) → bound ≡ slot_bound m shift slot
    → TellsNothing m shift first (Covers slot) bound
within_tells m shift first None bound e = record {
  above = λ a i b j d there above index le. absurd ((is_limit m shift Every bound e).beyond a i b j d there above);
}
within_tells m shift first (Some near) bound e = record {
  above = λ a i b j d there above index le.
      far near index d ((is_limit m shift (Within near.dist) bound e).beyond a i b j d there above);
}

-- ---- bounds of successive windows

before_or_at : (q k : ℕ) → q < k + 1 → q ≢ k → q < k
before_or_at q k lt other = omega (arith, lt, other)

-- what is told of the first places is told of one more
pub told_next : (m shift : ℕ) (first : ℕ → ℕ) (gives_nothing : ℕ → ℕ → ℕ → Type 0) (free : List Bool) (bounds : List ℤ)
    (places k : ℕ) (bound : ℤ) → k < length bounds → length bounds ≡ places
    → ((q : ℕ) → q < k → get_or free q false ≡ true
    → TellsNothing m shift (first q) (gives_nothing q) (item bounds q))
    → ((q : ℕ) → q < k → FitsSigned w32 (item bounds q))
    → (get_or free k false ≡ true → TellsNothing m shift (first k) (gives_nothing k) bound) → FitsSigned w32 bound
    → record {
      places : length (set bounds k bound) ≡ places;
      done : (q : ℕ) → q < k + 1 → get_or free q false ≡ true
          → TellsNothing m shift (first q) (gives_nothing q) (item (set bounds k bound) q);
      fit : (q : ℕ) → q < k + 1 → FitsSigned w32 (item (set bounds k bound) q);
    }
told_next m shift first gives_nothing free bounds places k bound lt same done fit told fits = record {
  places = length-set bounds k bound ∙ same;
  done = λ q below.
      set_at (λ q b. get_or free q false ≡ true → TellsNothing m shift (first q) (gives_nothing q) b) (pos 0) bounds k
      bound lt told q (λ other. done q (before_or_at q k below other));
  fit = λ q below.
      set_at (λ q b. FitsSigned w32 b) (pos 0) bounds k bound lt fits q (λ other. fit q (before_or_at q k below other));
}
