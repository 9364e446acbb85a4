-- An entry is the window of least value.
use Rattle.std.proofs.Common.{◌≡◌, ℕ, ◌<◌, ◌≤◌, ◌⊎◌, List, Bool, true, false, refl, ap, sym, subst, arith}
use Rattle.std.specs.Prelude.{Option, Some, None, if◌then◌else◌, MatchOption}
use Rattle.std.proofs.lemmas.Bool.Decides.{nat_tests}
use Rattle.mp_nums.specs.declared.nearest.Near.{Near}
use Rattle.mp_nums.specs.Near.{comes_before}
use Rattle.mp_defs.specs.Series.{Series}
use Rattle.mp_defs.specs.Window.{is_allowed}
use Rattle.mp_defs.specs.Least.{near_at, at_distance, candidate}
use Rattle.mp_defs.specs.Laws.{IsLeast}
use Rattle.mp_defs.specs.LeastLaws.{near_is_first}
use Rattle.mp_results.specs.Multi.{windows_in, pair_value, multi_entry}
use Rattle.mp_multi.specs.Laws.{IsNearestByValue, EntryIsNearest}

none_some : (x : Near) → None ≡ Some x → ⊥
none_some x e = cc

at_none : (j : ℕ) (v : Option ℕ) → at_distance j v ≡ None → v ≡ None
at_none j None e = refl
at_none j (Some v) e = absurd (none_some _ (sym e))

-- a candidate is a window that may be chosen, at its value
chosen_by : (j : ℕ) (v : Option ℕ) (a : Near) → at_distance j v ≡ Some a → (a.index ≡ j) × (v ≡ Some a.dist.0)
chosen_by j None a e = absurd (none_some a e)
chosen_by j (Some v) a e =
    let same : near_at j v ≡ a = cc in
    subst (λ (x : Near). (x.index ≡ j) × (Some v ≡ Some x.dist.0)) same (refl, refl)

chosen_if : (t : Bool) (j : ℕ) (v : Option ℕ) (a : Near) → (if t then at_distance j v else None) ≡ Some a
    → (t ≡ true) × (a.index ≡ j) × (v ≡ Some a.dist.0)
chosen_if true j v a e = let h = chosen_by j v a e in (refl, h.0, h.1)
chosen_if false j v a e = absurd (none_some a e)

not_before_order : (a : Near) (j v : ℕ) → comes_before (near_at j v) a ≡ false
    → (a.dist.0 < v) ⊎ ((a.dist.0 ≡ v) × (a.index ≤ j))
not_before_order a j v h = grind (arith, nat_tests)

nearest_by : (m k : ℕ) (channels : List Series) (i : ℕ) (x : Option Near)
    → IsLeast (candidate (is_allowed m i) (pair_value m k channels i)) (windows_in m channels) x
    → MatchOption x
    ((j : ℕ) → j < windows_in m channels → is_allowed m i j ≡ true → pair_value m k channels i j ≡ None)
    (IsNearestByValue m k channels i)
nearest_by m k channels i None h = λ j lt t.
    at_none j _
    (subst (λ (u : Bool). (if u then at_distance j (pair_value m k channels i j) else None) ≡ None) t (h j lt))
nearest_by m k channels i (Some found) h =
    let place : (is_allowed m i h.place ≡ true) × (found.index ≡ h.place)
    × (pair_value m k channels i h.place ≡ Some found.dist.0) =
    chosen_if (is_allowed m i h.place) h.place (pair_value m k channels i h.place) found h.chosen in
    record {
      window = subst (λ (j : ℕ). j < windows_in m channels) (sym place.1) h.below;
      allowed = subst (λ (j : ℕ). is_allowed m i j ≡ true) (sym place.1) place.0;
      value_is = subst (λ (j : ℕ). pair_value m k channels i j ≡ Some found.dist.0) (sym place.1) place.2;
      none_nearer = λ j v lt t e. not_before_order found j v (h.none_before j (near_at j v) lt
          (subst (λ (u : Bool). (if u then at_distance j (pair_value m k channels i j) else None) ≡ Some (near_at j v))
          (sym t) (ap (at_distance j) e)));
    }

pub entry_is_nearest : EntryIsNearest
entry_is_nearest m k channels i = nearest_by m k channels i (multi_entry m k channels i) (near_is_first _ _)
