-- What a worker that shares entries has behind a piece.
use Rattle.std.proofs.Common.{◌≡◌, ℕ, ◌<◌, [], ◌∷◌, length, get_or, refl, subst, ◌∙◌, arith}
use Rattle.mp_partial.specs.Values.{Column, HasColumns, Value, empty_columns, merged_column, merged_columns}
use Rattle.mp_partial.specs.MergeLaws.{columns_merge}
use Rattle.mp_cuts.specs.Pairs.{has_pair, no_tile}
use Rattle.mp_tiles.specs.Pieces.{OwnTiling, own_size, own_together, own_value, own_whole, sides_have_columns}
use Rattle.mp_tiles.specs.Pieces.{two_columns}
use Rattle.mp_tiles.specs.Sides.{Sided}
use Rattle.mp_workers.specs.SharingLaws.{one_more_run, piece_within}
use Rattle.mp_workers.specs.SharedTiles.{AreWithinProfile, HaveMore, profile_of, series_in}
use Rattle.mp_workers.specs.EntryLaws.{none_taken}
use Rattle.mp_workers.proofs.Entering.{left_count, right_count}

abbrev sides : Sided → Value
sides s = s.left ∷ s.right ∷ []

two_same : (a b c d : Column) → ◌≡◌ {A = Value} (a ∷ b ∷ []) (c ∷ d ∷ []) → (a ≡ c) × (b ≡ d)
two_same a b c d e = (cc, cc)

both_same : (a b c d : Column) → a ≡ c → b ≡ d → ◌≡◌ {A = Value} (a ∷ b ∷ []) (c ∷ d ∷ [])
both_same a b c d e f = cc (e, f)

-- sides whose value is within the whole
pub within_profile : (own : OwnTiling) (found : Sided) → length found.left ≡ own_size own
    → merged_columns (sides found) (own_whole own) ≡ own_whole own → AreWithinProfile own found
within_profile own found size h =
    let p = profile_of own in
    let both = two_same (merged_column found.left p.left) (merged_column found.right p.right) p.left p.right h in
    record { size = size; left = both.0; right = both.1 }

pub value_within : (own : OwnTiling) (found : Sided) → AreWithinProfile own found
    → merged_columns (sides found) (own_whole own) ≡ own_whole own
value_within own found h =
    let p = profile_of own in
    both_same (merged_column found.left p.left) (merged_column found.right p.right) p.left p.right h.left h.right

-- where nothing is taken
pub none_more : (own : OwnTiling) (found : Sided) → AreWithinProfile own found → HaveMore own found found
none_more own found h = record {
  left = none_taken (profile_of own).left found.left h.left;
  right = none_taken (profile_of own).right found.right h.right;
  room = refl;
}

-- two columns of a size have that size each
left_size : (size : ℕ) (s : Sided) → HasColumns 2 size (sides s) → length s.left ≡ size
left_size size s h = h.places 0 [] (omega arith)

right_size : (size : ℕ) (s : Sided) → HasColumns 2 size (sides s) → length s.right ≡ size
right_size size s h = h.places 1 [] (omega arith)

-- a worker takes what others found, and then the value of a piece
pub piece_run : (own : OwnTiling) (old found new : Sided) (piece : ℕ) → own_together own ≡ own_whole own
    → piece < length own.tiles → HasColumns 2 (own_size own) (sides old) → HaveMore own old found
    → sides new ≡ merged_columns (sides found) (own_value own piece)
    → (merged_columns (sides new) (own_value own piece) ≡ sides new)
    × (merged_columns (sides new) (sides old) ≡ sides new)
    × (merged_columns (sides new) (own_whole own) ≡ own_whole own)
piece_run own old found new piece together lt is_old more e =
    let size = own_size own in
    let p = profile_of own in
    let series = series_in own in
    let values = λ (k : ℕ) (_ : k < length own.tiles).
    sides_have_columns (has_pair 0 (get_or own.tiles k no_tile)) own.m own.samples in
    let is_found = two_columns size found.left found.right (more.left.places ∙ left_size size old is_old)
    (more.right.places ∙ right_size size old is_old) in
    let is_whole = two_columns size p.left p.right (left_count series) (right_count series) in
    let within_whole = subst (λ v. merged_columns (own_value own piece) v ≡ v) together
    (piece_within (HasColumns 2) (empty_columns 2) merged_columns (columns_merge 2) size (own_value own)
    (length own.tiles) piece values lt) in
    one_more_run (HasColumns 2) (empty_columns 2) merged_columns (columns_merge 2) size (own_whole own) (sides old)
    (sides found) (own_value own piece) (sides new) is_whole is_old is_found (values piece lt)
    (both_same (merged_column found.left old.left) (merged_column found.right old.right) found.left found.right
    more.left.more more.right.more)
    (both_same (merged_column found.left p.left) (merged_column found.right p.right) p.left p.right
    more.left.within more.right.within)
    within_whole e
