-- Samples behind those of channels.
use Rattle.std.proofs.Common.{◌≡◌, ℕ, zero, suc, ◌+◌, ◌<◌, false, List, [], ◌∷◌, ◌++◌, length, map, refl, ap, ◌∙◌, sym}
use Rattle.std.proofs.Common.{arith, append_assoc, length-append}
use Rattle.std.specs.Prelude.{None, slice_index_or, slice_set}
use Rattle.std.specs.List.{range_with_len}
use Rattle.std.proofs.lemmas.List.{map-append, length-map}
use Rattle.mp_defs.specs.Series.{Series}
use Rattle.mp_text.specs.Rows.{Row, column_at, columns_of}
use Rattle.mp_replies.specs.Change.{extended, grown}
use Rattle.mp_replies.specs.State.{Store, Closed, Open, Kept, Lazy, store_at, is_closed, keep_in, channels_in}
use Rattle.mp_replies.specs.State.{samples_in}

pub length-extended : (channels added : List Series) → length (extended channels added) ≡ length channels
length-extended [] added = refl
length-extended (channel ∷ channels) [] = refl
length-extended (channel ∷ channels) (samples ∷ added) = ap suc (length-extended channels added)

column-append : (rows more : List Row) (k : ℕ) → column_at (rows ++ more) k ≡ column_at rows k ++ column_at more k
column-append rows more k = map-append (λ (row : Row). slice_index_or row k None) rows more

extended-columns : (channels : List Series) (rows more : List Row) (ks : List ℕ)
    → extended (extended channels (map (column_at rows) ks)) (map (column_at more) ks)
    ≡ extended channels (map (column_at (rows ++ more)) ks)
extended-columns [] rows more ks = refl
extended-columns (channel ∷ channels) rows more [] = refl
extended-columns (channel ∷ channels) rows more (k ∷ ks) =
    ap (λ (s : Series). s ∷ extended (extended channels (map (column_at rows) ks)) (map (column_at more) ks))
    (append_assoc channel (column_at rows k) (column_at more k)
    ∙ ap (λ (s : Series). channel ++ s) (sym (column-append rows more k)))
    ∙ ap (λ (ss : List Series). (channel ++ column_at (rows ++ more) k) ∷ ss) (extended-columns channels rows more ks)

-- the rows behind the samples of the channels
pub with_rows : List Series → List Row → List Series
with_rows channels rows = extended channels (columns_of (length channels) rows)

pub with_rows-is : (channels : List Series) (rows : List Row)
    → with_rows channels rows ≡ extended channels (columns_of (length channels) rows)
unfolding with_rows
with_rows-is channels rows = refl

pub length-with_rows : (channels : List Series) (rows : List Row) → length (with_rows channels rows) ≡ length channels
unfolding with_rows
length-with_rows channels rows = length-extended channels (columns_of (length channels) rows)

-- some rows and then others
pub with_rows-append : (channels : List Series) (rows more : List Row)
    → with_rows (with_rows channels rows) more ≡ with_rows channels (rows ++ more)
unfolding with_rows
with_rows-append channels rows more =
    ap (λ (n : ℕ). extended (extended channels (columns_of (length channels) rows)) (columns_of n more))
    (length-extended channels (columns_of (length channels) rows))
    ∙ extended-columns channels rows more (range_with_len 0 (length channels))

pub samples_in-with_rows : (channels : List Series) (rows : List Row) → 0 < length channels
    → samples_in (with_rows channels rows) ≡ samples_in channels + length rows
unfolding with_rows
samples_in-with_rows [] rows some = absurd (omega (arith, some))
samples_in-with_rows (channel ∷ channels) rows some =
    length-append channel (column_at rows 0)
    ∙ ap (λ (n : ℕ). length channel + n) (length-map rows (λ (values : Row). slice_index_or values 0 None))

-- ---- slots

-- a slot with a channel is open
pub open_with_channels : (store : Store) → 0 < length (channels_in store) → is_closed store ≡ false
open_with_channels Closed some = absurd (omega (arith, some))
open_with_channels (Open channels) some = refl
open_with_channels (Kept keep series) some = refl
open_with_channels (Lazy series covered) some = refl

-- the rows behind the samples of a slot
pub store_with : Store → List Row → Store
store_with store rows = grown store (columns_of (length (channels_in store)) rows)

pub store_with-is : (store : Store) (rows : List Row)
    → store_with store rows ≡ grown store (columns_of (length (channels_in store)) rows)
unfolding store_with
store_with-is store rows = refl

pub channels-store_with : (store : Store) (rows : List Row)
    → channels_in (store_with store rows) ≡ with_rows (channels_in store) rows
unfolding store_with with_rows
channels-store_with Closed rows = refl
channels-store_with (Open channels) rows = refl
channels-store_with (Kept keep series) rows = refl
channels-store_with (Lazy series covered) rows = refl

pub keep-store_with : (store : Store) (rows : List Row) → keep_in (store_with store rows) ≡ keep_in store
unfolding store_with
keep-store_with Closed rows = refl
keep-store_with (Open channels) rows = refl
keep-store_with (Kept keep series) rows = refl
keep-store_with (Lazy series covered) rows = refl

pub store_with-append : (store : Store) (rows more : List Row)
    → store_with (store_with store rows) more ≡ store_with store (rows ++ more)
unfolding store_with with_rows
store_with-append Closed rows more = refl
store_with-append (Open channels) rows more = ap Open (with_rows-append channels rows more)
store_with-append (Kept keep series) rows more =
    ap (Kept keep)
    (append_assoc series (column_at rows 0) (column_at more 0)
    ∙ ap (λ (s : Series). series ++ s) (sym (column-append rows more 0)))
store_with-append (Lazy series covered) rows more =
    ap (λ (s : Series). Lazy s covered)
    (append_assoc series (column_at rows 0) (column_at more 0)
    ∙ ap (λ (s : Series). series ++ s) (sym (column-append rows more 0)))

pub store_at-set : (stores : List Store) (slot : ℕ) (store : Store) → is_closed (store_at stores slot) ≡ false
    → store_at (slice_set stores slot store) slot ≡ store
store_at-set [] slot store h = absurd (cc h)
store_at-set (s ∷ stores) zero store h = refl
store_at-set (s ∷ stores) (suc slot) store h = store_at-set stores slot store h
