-- The columns of a profile are those that chains are made of.
use Rattle.std.proofs.Common.{◌≡◌, ℕ, ◌<◌, Bool, true, false, List, length, refl, ap, ◌∙◌, sym, subst, arith}
use Rattle.std.specs.Prelude.{Option, Some, None, slice_get, slice_index_or, ◌&&◌, nat_lt}
use Rattle.std.proofs.lemmas.Bool.Decides.{nat_tests}
use Rattle.std.proofs.lemmas.Option.{slice_get-get_or, slice_get_within}
use Rattle.mp_nums.specs.declared.nearest.Near.{Near}
use Rattle.mp_results.specs.Columns.{AreColumns, index_at, index_of}
use Rattle.mp_defs.specs.ColumnLaws.{columns_have_places}
use Rattle.mp_defs.specs.Laws.{IsNearest, IsNearestWindow}
use Rattle.mp_defs.specs.NearestLaws.{entries_are_nearest}
use Rattle.mp_defs.specs.Profile.{Columns, column, entry, left_entry, matrix_profile, right_entry, windows_of}
use Rattle.mp_partial.specs.Profiled.{Profiled}
use Rattle.mp_replies.specs.Profiles.{columns_in}
use Rattle.mp_replies.specs.State.{Store, series_at}
use Rattle.mp_replies.specs.declared.refs.Ref.{Ref}
use Rattle.mp_stores.specs.StoreLaws.{series_stands}
use Rattle.mp_stores.specs.Stores.{IsChannel, StandFor, Stored, channel_series}
use Rattle.mp_defs.specs.Series.{Series}
use Rattle.mp_defs.specs.Window.{is_allowed}

-- a window that stands in a column
record Stands (f : ℕ → Option Near) (w j k : ℕ) : Type 0 where
  near : Near
  below : j < w
  here : f j ≡ Some near
  named : near.index ≡ k

index_some : (o : Option (Option Near)) (k : ℕ) → index_of o ≡ Some k
    → (near : Near) × (o ≡ Some (Some near)) × (near.index ≡ k)
index_some None k h = absurd (cc h)
index_some (Some None) k h = absurd (cc h)
index_some (Some (Some near)) k h = (near, refl, cc)

stands : (f : ℕ → Option Near) (w j k : ℕ) → index_at (column f w) j ≡ Some k → Stands f w j k
stands f w j k h =
    let found = index_some (slice_get (column f w) j) k h in
    let long = columns_have_places.count f w in
    let within = slice_get_within (column f w) j (Some found.0) found.1 in
    let below : j < w = omega (arith, long, within) in
    let there : Some (slice_index_or (column f w) j None) ≡ Some (Some found.0) =
    sym (slice_get-get_or (column f w) j None within) ∙ found.1 in
    let place = columns_have_places.at_place f w j below in
    let same : slice_index_or (column f w) j None ≡ Some found.0 = cc there in
    record { near = found.0; below = below; here = sym place ∙ same; named = found.2 }

nearest_is : (m : ℕ) (may : ℕ → Bool) (a : Series) (i : ℕ) (found : Option Near) (near : Near) → found ≡ Some near
    → IsNearest m may a i a found → IsNearestWindow m may a i a near
nearest_is m may a i found near e h = subst (IsNearest m may a i a) e h

later_by : (allowed : Bool) (i j : ℕ) → (allowed && nat_lt i j) ≡ true → i < j
later_by true i j h = grind (arith, nat_tests)
later_by false i j h = absurd (cc h)

pub are_columns : (m : ℕ) (a : Series) → AreColumns (matrix_profile m a).left (matrix_profile m a).right
are_columns m a =
    let may = is_allowed m in
    let w = windows_of m a in
    record {
      as_long = columns_have_places.count (left_entry may m a) w
          ∙ sym (columns_have_places.count (right_entry may m a) w);
      earlier = λ j k h.
          let s = stands (left_entry may m a) w j k h in
          let near = nearest_is m (λ n. may j n && nat_lt n j) a j (left_entry may m a j) s.near s.here
          (entries_are_nearest.left may m a j) in
          subst (λ n. n < j) s.named (later_by (may j s.near.index) s.near.index j near.may_be);
      later = λ j k h.
          let s = stands (right_entry may m a) w j k h in
          let near = nearest_is m (λ n. may j n && nat_lt j n) a j (right_entry may m a j) s.near s.here
          (entries_are_nearest.right may m a j) in
          subst (λ n. j < n) s.named (later_by (may j s.near.index) j s.near.index near.may_be);
      within = λ j k h.
          let s = stands (right_entry may m a) w j k h in
          let near = nearest_is m (λ n. may j n && nat_lt j n) a j (right_entry may m a j) s.near s.here
          (entries_are_nearest.right may m a j) in
          omega (arith, columns_have_places.count (right_entry may m a) w, near.window, s.named);
    }

-- a profile has a place for each window
pub profile_long : (m : ℕ) (a : Series) (profile : Profiled) → columns_in profile ≡ matrix_profile m a
    → length profile.all ≡ windows_of m a
profile_long m a profile is =
    ap (λ (c : Columns). length c.all) is ∙ columns_have_places.count (entry (is_allowed m) m a) (windows_of m a)

pub profile_right_long : (m : ℕ) (a : Series) (profile : Profiled) → columns_in profile ≡ matrix_profile m a
    → length profile.right ≡ windows_of m a
profile_right_long m a profile is =
    ap (λ (c : Columns). length c.right) is
    ∙ columns_have_places.count (right_entry (is_allowed m) m a) (windows_of m a)

-- the columns of a profile of the program
pub columns_of_profile : (m : ℕ) (a : Series) (profile : Profiled) (left right : List (Option Near))
    → columns_in profile ≡ matrix_profile m a → left ≡ profile.left → right ≡ profile.right → AreColumns left right
columns_of_profile m a profile left right is left_is right_is =
    let l : left ≡ (matrix_profile m a).left = left_is ∙ ap (λ (c : Columns). c.left) is in
    let r : right ≡ (matrix_profile m a).right = right_is ∙ ap (λ (c : Columns). c.right) is in
    subst (λ ls. AreColumns ls right) (sym l)
    (subst (λ rs. AreColumns (matrix_profile m a).left rs) (sym r) (are_columns m a))

-- the profile of a channel is that of its series in the stores
pub profile_stands : (held : Stored) (stores : List Store) (at : Ref) (profile : Profiled) → StandFor held stores
    → IsChannel held at → columns_in profile ≡ matrix_profile held.m (channel_series held at)
    → columns_in profile ≡ matrix_profile held.m (series_at stores at)
profile_stands held stores at profile stand there is =
    is ∙ ap (matrix_profile held.m) (sym (series_stands held stores at stand there))

-- the entries to the left and to the right of a profile
pub record AreSidesOf (columns : Columns) (left right : List (Option Near)) : Type 0 where
  pub left_is : left ≡ columns.left
  pub right_is : right ≡ columns.right

-- so those of a channel's profile are those of its series in the stores
pub sides_stand : (held : Stored) (stores : List Store) (at : Ref) (profile : Profiled)
    (left right : List (Option Near))
    → StandFor held stores → IsChannel held at → columns_in profile ≡ matrix_profile held.m (channel_series held at)
    → left ≡ profile.left → right ≡ profile.right
    → AreSidesOf (matrix_profile held.m (series_at stores at)) left right
sides_stand held stores at profile left right stand there is left_is right_is =
    let same = profile_stands held stores at profile stand there is in
    record {
      left_is = left_is ∙ ap (λ (cs : Columns). cs.left) same;
      right_is = right_is ∙ ap (λ (cs : Columns). cs.right) same;
    }
