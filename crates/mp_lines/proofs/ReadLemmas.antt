-- Texts that are read one by one, all by the same reader.
use Rattle.std.proofs.Common.{◌≡◌, ℕ, ◌+◌, ◌<◌, ◌≤◌, true, false, List, [], ◌∷◌, ◌++◌, length, map, refl, ap, ◌∙◌}
use Rattle.std.proofs.Common.{sym, arith, append_assoc, append-nil}
use Rattle.std.specs.Prelude.{Option, Some, None, is_some, unwrap_or}
use Rattle.mp_replies.specs.Numbers.{all_some, onto_some}

-- what all of them say, where none is malformed
abbrev pub all_read : {A : Type 0} → (List ℕ → Option A) → List (List ℕ) → Option (List A)
all_read reader texts = all_some (map reader texts)

-- ---- whether none is malformed

some_onto : {A : Type 0} (x : A) (others : Option (List A)) → is_some (onto_some (Some x) others) ≡ is_some others
some_onto x None = refl
some_onto x (Some xs) = refl

-- some texts were gone over, none is malformed, and the others are left
pub record AreGoneOver {A : Type 0} (reader : List ℕ → Option A) (all left : List (List ℕ)) : Type 0 where
  pub same : is_some (all_read reader all) ≡ is_some (all_read reader left)

pub gone_over_none : {A : Type 0} (reader : List ℕ → Option A) (all : List (List ℕ)) → AreGoneOver reader all all
gone_over_none reader all = record { same = refl }

pub gone_over_more : {A : Type 0} (reader : List ℕ → Option A) (all : List (List ℕ)) (text : List ℕ)
    (left : List (List ℕ)) (x : A) → reader text ≡ Some x
    → AreGoneOver reader all (text ∷ left) → AreGoneOver reader all left
gone_over_more {A} reader all text left x good gone = record {
  same =
      gone.same
      ∙ (ap (λ (o : Option A). is_some (onto_some o (all_read reader left))) good
      ∙ some_onto x (all_read reader left));
}

pub malformed : {A : Type 0} (reader : List ℕ → Option A) (all : List (List ℕ)) (text : List ℕ)
    (left : List (List ℕ)) → reader text ≡ None → AreGoneOver reader all (text ∷ left)
    → false ≡ is_some (all_read reader all)
malformed {A} reader all text left bad gone =
    sym (gone.same ∙ ap (λ (o : Option A). is_some (onto_some o (all_read reader left))) bad)

pub well_formed : {A : Type 0} (reader : List ℕ → Option A) (all : List (List ℕ)) → AreGoneOver reader all []
    → true ≡ is_some (all_read reader all)
well_formed reader all gone = sym gone.same

-- ---- what they say

abbrev pub in_front : {A : Type 0} → List A → Option (List A) → Option (List A)
in_front first None = None
in_front first (Some others) = Some (first ++ others)

pub front_none : {A : Type 0} (found : Option (List A)) → found ≡ in_front [] found
front_none None = refl
front_none (Some xs) = refl

front_onto : {A : Type 0} (first : List A) (x : A) (others : Option (List A))
    → in_front first (onto_some (Some x) others) ≡ in_front (first ++ x ∷ []) others
front_onto first x None = refl
front_onto first x (Some xs) = ap Some (sym (append_assoc first (x ∷ []) xs))

pub front_more : {A : Type 0} (reader : List ℕ → Option A) (found : Option (List A)) (first : List A) (text : List ℕ)
    (left : List (List ℕ)) (x : A) → reader text ≡ Some x
    → found ≡ in_front first (all_read reader (text ∷ left)) → found ≡ in_front (first ++ x ∷ []) (all_read reader left)
front_more {A} reader found first text left x good h =
    h
    ∙ (ap (λ (o : Option A). in_front first (onto_some o (all_read reader left))) good
    ∙ front_onto first x (all_read reader left))

head_by : {A : Type 0} (first : List A) (o : Option A) (others : Option (List A))
    → is_some (in_front first (onto_some o others)) ≡ true → is_some o ≡ true
head_by first None others h = cc
head_by first (Some x) others h = refl

pub front_head : {A : Type 0} (reader : List ℕ → Option A) (found : Option (List A)) (first : List A) (text : List ℕ)
    (left : List (List ℕ)) → is_some found ≡ true
    → found ≡ in_front first (all_read reader (text ∷ left)) → is_some (reader text) ≡ true
front_head reader found first text left some h =
    head_by first (reader text) (all_read reader left) (ap is_some (sym h) ∙ some)

pub front_all : {A : Type 0} (reader : List ℕ → Option A) (found : Option (List A)) (first : List A)
    → found ≡ in_front first (all_read reader []) → found ≡ Some first
front_all reader found first h = h ∙ ap Some (append-nil first)

-- ---- how many there are

-- so many of the texts were counted, and the others are left
pub record AreCounted (all left : List (List ℕ)) (count : ℕ) : Type 0 where
  pub counted : count + length left ≡ length all

pub counted_none : (all : List (List ℕ)) → AreCounted all all 0
counted_none all = record { counted = omega arith }

pub counted_more : (all : List (List ℕ)) (text : List ℕ) (left : List (List ℕ)) (count : ℕ)
    → AreCounted all (text ∷ left) count → AreCounted all left (count + 1)
counted_more all text left count h = record { counted = omega (arith, h.counted) }

-- the same, and there are no more than may be
pub record AreFew (most : ℕ) (all left : List (List ℕ)) (count : ℕ) : Type 0 where
  pub counted : count + length left ≡ length all
  pub few : count ≤ most

pub few_none : (most : ℕ) (all : List (List ℕ)) → AreFew most all all 0
few_none most all = record { counted = omega arith; few = omega arith }

pub few_more : (most : ℕ) (all : List (List ℕ)) (text : List ℕ) (left : List (List ℕ)) (count : ℕ) → count < most
    → AreFew most all (text ∷ left) count → AreFew most all left (count + 1)
few_more most all text left count below h = record { counted = omega (arith, h.counted); few = omega arith }

length_onto : {A : Type 0} (o : Option A) (others : Option (List A)) (k : ℕ) → is_some (onto_some o others) ≡ true
    → (is_some others ≡ true → length (unwrap_or others []) ≡ k) → length (unwrap_or (onto_some o others) []) ≡ k + 1
length_onto None others k h is = absurd (cc h)
length_onto (Some x) None k h is = absurd (cc h)
length_onto (Some x) (Some xs) k h is = omega (arith, is refl)

pub read_length : {A : Type 0} (reader : List ℕ → Option A) (texts : List (List ℕ))
    → is_some (all_read reader texts) ≡ true → length (unwrap_or (all_read reader texts) []) ≡ length texts
read_length reader [] h = refl
read_length reader (text ∷ texts) h =
    let more : length (unwrap_or (all_read reader (text ∷ texts)) []) ≡ length texts + 1 =
    length_onto (reader text) (all_read reader texts) (length texts) h (read_length reader texts) in
    omega (arith, more)
