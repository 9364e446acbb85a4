-- What a merge of values keeps, and its proof for columns.
use Rattle.std.specs.Prelude.{◌≡◌, ℕ, zero, suc, List, [], ◌∷◌, All, length, replicate, None, ⊤}
use Rattle.std.specs.Simd.Lanes.{zip2}
use Rattle.std.proofs.Common.{arith, refl, sym, ◌∙◌}
use Rattle.std.proofs.lemmas.List.{length-replicate}
use Rattle.std.proofs.lemmas.List.Elements.{All-head, All-tail, All-cons, All-nil, All-replicate}
use Rattle.std.proofs.lemmas.Simd.{length-zip2}
use Rattle.mp_nums.specs.Near.{nearer_of}
use Rattle.mp_nums.specs.NearLaws.{nearer_commutes, nearer_associates, nearer_repeats, nearer_with_none}
use Rattle.mp_partial.specs.Values.{Value, Column, merged_column, merged_columns, empty_column, empty_columns}
use Rattle.mp_partial.specs.Values.{HasColumns}

-- the values of one size are merged in any order, any number of times, and the unit changes none of them
pub record IsMerging (IsValue : ℕ → Value → Type 0) (unit : ℕ → Value) (merged : Value → Value → Value) : Type 0 where
  pub commutative : (size : ℕ) (a b : Value) → IsValue size a → IsValue size b → merged a b ≡ merged b a
  pub associative : (size : ℕ) (a b c : Value) → IsValue size a → IsValue size b → IsValue size c
      → merged (merged a b) c ≡ merged a (merged b c)
  pub idempotent : (size : ℕ) (a : Value) → IsValue size a → merged a a ≡ a
  pub unit_first : (size : ℕ) (a : Value) → IsValue size a → merged (unit size) a ≡ a
  pub unit_last : (size : ℕ) (a : Value) → IsValue size a → merged a (unit size) ≡ a
  pub unit_is_value : (size : ℕ) → IsValue size (unit size)
  pub merged_is_value : (size : ℕ) (a b : Value) → IsValue size a → IsValue size b → IsValue size (merged a b)

-- ---- lists of any items

pub zip_commutes : {A : Type 0} (f : A → A → A) → ((a b : A) → f a b ≡ f b a) → (xs ys : List A)
    → zip2 f xs ys ≡ zip2 f ys xs
zip_commutes f h [] [] = refl
zip_commutes f h [] (y ∷ ys) = refl
zip_commutes f h (x ∷ xs) [] = refl
zip_commutes f h (x ∷ xs) (y ∷ ys) = cc (h x y, zip_commutes f h xs ys)

pub zip_associates : {A : Type 0} (f : A → A → A) → ((a b c : A) → f (f a b) c ≡ f a (f b c)) → (xs ys zs : List A)
    → zip2 f (zip2 f xs ys) zs ≡ zip2 f xs (zip2 f ys zs)
zip_associates f h [] ys zs = refl
zip_associates f h (x ∷ xs) [] zs = refl
zip_associates f h (x ∷ xs) (y ∷ ys) [] = refl
zip_associates f h (x ∷ xs) (y ∷ ys) (z ∷ zs) = cc (h x y z, zip_associates f h xs ys zs)

pub zip_repeats : {A : Type 0} (f : A → A → A) → ((a : A) → f a a ≡ a) → (xs : List A) → zip2 f xs xs ≡ xs
zip_repeats f h [] = refl
zip_repeats f h (x ∷ xs) = cc (h x, zip_repeats f h xs)

pub zip_unit_first : {A : Type 0} (f : A → A → A) (P : A → Type 0) (e : A) → ((a : A) → P a → f e a ≡ a)
    → (n : ℕ) (xs : List A) → length xs ≡ n → All P xs → zip2 f (replicate n e) xs ≡ xs
zip_unit_first f P e h zero [] l p = refl
zip_unit_first f P e h zero (x ∷ xs) l p = absurd (omega arith)
zip_unit_first f P e h (suc n) [] l p = refl
zip_unit_first f P e h (suc n) (x ∷ xs) l p =
    cc (h x (All-head P x xs p), zip_unit_first f P e h n xs (omega arith) (All-tail P x xs p))

pub all_zip : {A : Type 0} (f : A → A → A) (P : A → Type 0) → ((a b : A) → P a → P b → P (f a b)) → (xs ys : List A)
    → All P xs → All P ys → All P (zip2 f xs ys)
all_zip f P h [] ys p q = All-nil P
all_zip f P h (x ∷ xs) [] p q = All-nil P
all_zip f P h (x ∷ xs) (y ∷ ys) p q =
    All-cons P (f x y) (zip2 f xs ys) (h x y (All-head P x xs p) (All-head P y ys q))
    (all_zip f P h xs ys (All-tail P x xs p) (All-tail P y ys q))

-- ---- columns

pub column_unit : (size : ℕ) (a : Column) → length a ≡ size → merged_column (empty_column size) a ≡ a
column_unit size a l = zip_unit_first nearer_of (λ _. ⊤) None (λ x _. (nearer_with_none x).0) size a l (λ _ _ _. tt)

column_commutes : (a b : Column) → merged_column a b ≡ merged_column b a
column_commutes a b = zip_commutes nearer_of nearer_commutes a b

columns_commute : (a b : Value) → merged_columns a b ≡ merged_columns b a
columns_commute a b = zip_commutes merged_column column_commutes a b

columns_unit : (count size : ℕ) (a : Value) → HasColumns count size a → merged_columns (empty_columns count size) a ≡ a
columns_unit count size a h =
    zip_unit_first merged_column (λ column. length column ≡ size) (empty_column size)
    (λ column l. column_unit size column l) count a h.columns h.places

empty_has : (count size : ℕ) → HasColumns count size (empty_columns count size)
empty_has count size = record {
  columns = length-replicate count (empty_column size);
  places = All-replicate (λ column. length column ≡ size) count (empty_column size) (length-replicate size None);
}

merged_has : (count size : ℕ) (a b : Value) → HasColumns count size a → HasColumns count size b
    → HasColumns count size (merged_columns a b)
merged_has count size a b h k = record {
  columns = length-zip2 merged_column a b (h.columns ∙ sym k.columns) ∙ h.columns;
  places = all_zip merged_column (λ column. length column ≡ size)
      (λ x y l r. length-zip2 nearer_of x y (l ∙ sym r) ∙ l) a b h.places k.places;
}

pub columns_merge : (count : ℕ) → IsMerging (HasColumns count) (empty_columns count) merged_columns
columns_merge count = record {
  commutative = λ size a b h k. columns_commute a b;
  associative = λ size a b c h k l. zip_associates merged_column (zip_associates nearer_of nearer_associates) a b c;
  idempotent = λ size a h. zip_repeats merged_column (zip_repeats nearer_of nearer_repeats) a;
  unit_first = λ size a h. columns_unit count size a h;
  unit_last = λ size a h. columns_commute a (empty_columns count size) ∙ columns_unit count size a h;
  unit_is_value = λ size. empty_has count size;
  merged_is_value = λ size a b h k. merged_has count size a b h k;
}
