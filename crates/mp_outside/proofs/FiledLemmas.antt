-- The map that a shelf in memory is seen as, from the entries that hold its files.
use Rattle.std.proofs.Common.{◌≡◌, refl, sym, ap, ◌∙◌, ℕ, true, false, cond, List, [], ◌∷◌, Some, Vec, Global, Ordering}
use Rattle.std.proofs.Common.{nat_cmp}
use Rattle.std.specs.declared.cmp.Ordering.TheVariants.{Less, Equal, Greater}
use Rattle.std.specs.Ordering.{is_eq, match_ordering}
use Rattle.std.specs.Option.{option_map}
use Rattle.std.proofs.lemmas.Cmp.{nat_list_cmp_total}
use Rattle.std.specs.Cmp.Lexicographic.{slice_cmp}
use Rattle.std.specs.BTreeMap.{insert_entry, is_at}
use Rattle.std.specs.Map.{lookup}
use Rattle.std.specs.FinMap.{get, find, put, insert, from_entries, get-from_entries, get-insert, same_map}
use Rattle.std.specs.FinMap.{slice_cmp-IsAntisymmetric, nat_cmp-IsAntisymmetric}
use Rattle.std.specs.FinMap.Entries.{by_order, find-put}
use Rattle.mp_outside.specs.Filed.{filed}

-- the order of names, as the entries' keys have it
abbrev pub name_cmp : Vec ℕ Global → Vec ℕ Global → Ordering
name_cmp a b = slice_cmp nat_cmp a.items b.items

find-filed : (q : List ℕ) (es : List (Vec ℕ Global × Vec ℕ Global))
    → find (slice_cmp nat_cmp) q (filed es)
    ≡ option_map (λ bytes. bytes.items)
    (lookup (is_at (λ (name : Vec ℕ Global). slice_cmp nat_cmp q name.items)) es)
find-filed q [] = refl
find-filed q (e ∷ es) =
    elim (is_eq (slice_cmp nat_cmp q e.0.items))
    as (λ b.
    cond b (Some e.1.items) (find (slice_cmp nat_cmp) q (filed es))
    ≡ option_map (λ (bytes : Vec ℕ Global). bytes.items)
    (cond b (Some e.1) (lookup (is_at (λ (name : Vec ℕ Global). slice_cmp nat_cmp q name.items)) es))) [
      | true ↦ refl
      | false ↦ find-filed q es
    ]

-- a name's file is what its entry holds
pub get-filed : (q : List ℕ) (es : List (Vec ℕ Global × Vec ℕ Global))
    → get (from_entries {R = slice_cmp nat_cmp} (filed es)) q
    ≡ option_map (λ bytes. bytes.items)
    (lookup (is_at (λ (name : Vec ℕ Global). slice_cmp nat_cmp q name.items)) es)
get-filed q es = get-from_entries nat_list_cmp_total (filed es) q ∙ find-filed q es

filed-insert_entry : (k v : Vec ℕ Global) (es : List (Vec ℕ Global × Vec ℕ Global))
    → filed (insert_entry name_cmp es k v) ≡ put (slice_cmp nat_cmp) k.items v.items (filed es)
filed-insert_entry k v [] = refl
filed-insert_entry k v (e ∷ es) =
    elim (slice_cmp nat_cmp k.items e.0.items)
    as (λ r.
    filed (match_ordering r ((k, v) ∷ e ∷ es) ((e.0, v) ∷ es) (e ∷ insert_entry name_cmp es k v))
    ≡ by_order r ((k.items, v.items) ∷ filed (e ∷ es)) ((e.0.items, v.items) ∷ filed es)
    ((e.0.items, e.1.items) ∷ put (slice_cmp nat_cmp) k.items v.items (filed es))) [
      | Less ↦ refl
      | Equal ↦ refl
      | Greater ↦ ap (λ fs. (e.0.items, e.1.items) ∷ fs) (filed-insert_entry k v es)
    ]

-- to insert an entry is to insert its file
pub from_entries-insert_entry : (es : List (Vec ℕ Global × Vec ℕ Global)) (k v : Vec ℕ Global)
    → from_entries {R = slice_cmp nat_cmp} (filed (insert_entry name_cmp es k v))
    ≡ insert (from_entries (filed es)) k.items v.items
from_entries-insert_entry es k v =
    same_map nat_list_cmp_total (slice_cmp-IsAntisymmetric nat_cmp-IsAntisymmetric) _ _ (λ q.
    get-from_entries nat_list_cmp_total (filed (insert_entry name_cmp es k v)) q
    ∙ ap (find (slice_cmp nat_cmp) q) (filed-insert_entry k v es)
    ∙ find-put (slice_cmp nat_cmp) nat_list_cmp_total q k.items v.items (filed es)
    ∙ ap (cond _ (Some v.items)) (sym (get-from_entries nat_list_cmp_total (filed es) q))
    ∙ sym (get-insert nat_list_cmp_total _ k.items v.items q))
