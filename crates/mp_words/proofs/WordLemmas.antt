-- What words give, by the first of them.
use Rattle.std.proofs.Common.{◌≡◌, ℕ, suc, ◌+◌, ◌-◌, ◌<◌, ◌≤◌, Bool, true, false, cond, List, [], ◌∷◌, ◌++◌, length}
use Rattle.std.proofs.Common.{take, drop, map}
use Rattle.std.proofs.Common.{refl, sym, ap, ◌∙◌, append_assoc, arith, lt-ltb, nat_lt, slice_index_or}
use Rattle.std.specs.Prelude.{◌||◌, not, position, Option, Some, None, MatchOption, option_map}
use Rattle.std.specs.Prelude.{option_and_then}
use Rattle.std.specs.Prelude.{if◌then◌else◌}
use Rattle.std.specs.List.{position_or_len}
use Rattle.std.proofs.lemmas.List.{length-drop, take_all}
use Rattle.std.proofs.lemmas.Bool.Decides.{Decides-like, Decides-ltb, same_from_decides}
use Rattle.mp_replies.specs.Numbers.{onto_some}
use Rattle.mp_replies.specs.Words.{Given, are_options, given, given_in, given_of, has_equals, is_equals}
use Rattle.mp_words.specs.Numbers.{numbers_of, numbers_of_options}
use Rattle.mp_words.specs.Reading.{IsReading, numbers_with}
use Rattle.mp_words.specs.declared.numbers.Numbers.{Numbers}
use Rattle.mp_words.proofs.GivenLemmas.{of_known, of_unknown, unknown_stays}

-- ---- the first equals sign

any_step : (b any : Bool) (k n : ℕ) → any ≡ nat_lt k n → (b || any) ≡ nat_lt (cond (not b) (1 + k) 0) (suc n)
any_step true any k n h = sym (lt-ltb 0 (suc n) (omega arith))
any_step false any k n h =
    h ∙ same_from_decides (nat_lt k n) (nat_lt (1 + k) (suc n)) (Decides-ltb k n)
    (Decides-like (nat_lt (1 + k) (suc n)) (λ lt. omega (arith, lt)) (λ lt. omega (arith, lt))
    (Decides-ltb (1 + k) (suc n)))

any_first : (word : List ℕ) → has_equals word ≡ nat_lt (position_or_len is_equals word) (length word)
any_first [] = refl
any_first (x ∷ word) =
    any_step (is_equals x) (has_equals word) (position_or_len is_equals word) (length word) (any_first word)

found_by : (word : List ℕ) (at : ℕ) (some : Bool)
    → (if some then Some (position_or_len is_equals word) else None) ≡ Some at
    → (some ≡ true) × (position_or_len is_equals word ≡ at)
found_by word at true e = (refl, cc)
found_by word at false e = cc

-- an option with its value
pub given_found : (word : List ℕ) (at : ℕ) → Some at ≡ position is_equals word
    → (has_equals word ≡ true) × (given_in word ≡ given_of (take at word) (drop (at + 1) word))
given_found word at e =
    let found = found_by word at (nat_lt (position_or_len is_equals word) (length word)) (sym e) in
    (any_first word ∙ found.0, ap (λ (k : ℕ). given_of (take k word) (drop (k + 1) word)) found.1)

none_by : (word : List ℕ) (some : Bool) → (if some then Some (position_or_len is_equals word) else None) ≡ None
    → some ≡ false
none_by word true e = cc
none_by word false e = refl

pub given_apart : (word : List ℕ) → None ≡ position is_equals word → has_equals word ≡ false
given_apart word e =
    any_first word ∙ none_by word (nat_lt (position_or_len is_equals word) (length word)) (sym e)

-- ---- the first word

one_by : (word : List ℕ) (words : List (List ℕ)) (b : Bool) → b ≡ true
    → (if b then onto_some (given_in word) (given words) else None) ≡ onto_some (given_in word) (given words)
one_by word words true e = refl
one_by word words false e = cc

pub given_one : (word : List ℕ) (words : List (List ℕ)) → has_equals word ≡ true
    → given (word ∷ words) ≡ onto_some (given_in word) (given words)
given_one word [] e = ap (λ b. if b then onto_some (given_in word) (Some []) else None) e
given_one word (next ∷ words) e =
    ap (λ b.
    if b then onto_some (given_in word) (given (next ∷ words)) else onto_some (given_of word next) (given words)) e

pub given_two : (word value : List ℕ) (words : List (List ℕ)) → has_equals word ≡ false
    → given (word ∷ value ∷ words) ≡ onto_some (given_of word value) (given words)
given_two word value words e =
    ap (λ b.
    if b then onto_some (given_in word) (given (value ∷ words)) else onto_some (given_of word value) (given words)) e

pub given_alone : (word : List ℕ) → has_equals word ≡ false → given (word ∷ []) ≡ None
given_alone word e = ap (λ b. if b then onto_some (given_in word) (Some []) else None) e

-- ---- one option more

abbrev pub behind : List Given → Option (List Given) → Option Numbers
behind options later = option_and_then (λ (more : List Given). numbers_of_options (options ++ more)) later

none_later : (options : List Given) (g : Given) (later : Option (List Given))
    → None ≡ numbers_of_options (options ++ g ∷ [])
    → behind options (onto_some (Some g) later) ≡ None
none_later options g None e = refl
none_later options g (Some more) e =
    ap numbers_of_options (sym (append_assoc options (g ∷ []) more))
    ∙ of_unknown ((options ++ g ∷ []) ++ more)
    (unknown_stays (options ++ g ∷ []) more (unknown (are_options (options ++ g ∷ [])) refl))
  where
    unknown : (b : Bool) → are_options (options ++ g ∷ []) ≡ b → b ≡ false
    unknown true known = let bad : None ≡ Some _ = e ∙ of_known (options ++ g ∷ []) known in cc
    unknown false known = refl

some_later : (options : List Given) (g : Given) (later : Option (List Given))
    → behind options (onto_some (Some g) later) ≡ behind (options ++ g ∷ []) later
some_later options g None = refl
some_later options g (Some more) = ap numbers_of_options (sym (append_assoc options (g ∷ []) more))

module _ {U : Type 0} (all : List (List ℕ)) (options : List Given) (now : Numbers) where
  pub refused : (o : Option Given) (later : Option (List Given)) (r : Option U)
      → numbers_of all ≡ behind options (onto_some o later) → option_map (λ (u : U). now) r ≡ numbers_with options o
      → r ≡ None → numbers_of all ≡ None
  refused None later r whole e none = whole
  refused (Some g) later r whole e none =
      whole ∙ none_later options g later (sym (ap (option_map (λ (u : U). now)) none) ∙ e)

  pub passed : (o : Option Given) (left : List (List ℕ)) (r : Option U) (u : U)
      → numbers_of all ≡ behind options (onto_some o (given left))
      → option_map (λ (v : U). now) r ≡ numbers_with options o
      → r ≡ Some u → IsReading all left now
  passed None left r u whole e some = let bad : Some now ≡ None = sym (ap (option_map (λ (v : U). now)) some) ∙ e in cc
  passed (Some g) left r u whole e some = record {
    options = options ++ g ∷ [];
    numbers_are = sym e ∙ ap (option_map (λ (v : U). now)) some;
    whole = whole ∙ some_later options g (given left);
  }

-- ---- words that are strings

pub whole_rest : {X : Type 0} (xs : List X) (k : ℕ) → take (length xs - k) (drop k xs) ≡ drop k xs
whole_rest xs k = take_all (length xs - k) (drop k xs) (omega (arith, length-drop k xs))

module _ {S : Type 0} (text : S → List ℕ) where
  -- the first word, and those behind it
  pub first_word : (words : List S) (word : S) → 0 < length words → word ≡ slice_index_or words 0 word
      → map text words ≡ text word ∷ drop 1 (map text words)
  first_word [] word some e = absurd (omega (arith, some))
  first_word (first ∷ words) word some e = ap (λ (w : S). text w ∷ map text words) (sym e)

  pub two_words : (words : List S) (word next : S) → word ≡ slice_index_or words 0 word → 1 < length words
      → next ≡ slice_index_or words 1 next → map text words ≡ text word ∷ text next ∷ drop 2 (map text words)
  two_words [] word next e some f = absurd (omega (arith, some))
  two_words (first ∷ []) word next e some f = absurd (omega (arith, some))
  two_words (first ∷ second ∷ words) word next e some f =
      ap (λ (w : S). text w ∷ text second ∷ map text words) (sym e)
      ∙ ap (λ (w : S). text word ∷ text w ∷ map text words) (sym f)

  pub no_more_words : (words : List S) (word : S) → 0 < length words → word ≡ slice_index_or words 0 word
      → length words ≤ 1 → map text words ≡ text word ∷ []
  no_more_words [] word some e few = absurd (omega (arith, some))
  no_more_words (first ∷ []) word some e few = ap (λ (w : S). text w ∷ []) (sym e)
  no_more_words (first ∷ second ∷ words) word some e few = absurd (omega (arith, few))

  -- what the words give, where the first holds its value, where the next does, and where there is none
  pub attached : (words : List S) (word : S) (t : List ℕ) (at : ℕ) → 0 < length words
      → word ≡ slice_index_or words 0 word → t ≡ text word → Some at ≡ position is_equals t
      → given (map text words)
      ≡ onto_some (given_of (take at t) (take (length t - (at + 1)) (drop (at + 1) t)))
      (given (drop 1 (map text words)))
  attached words word t at some e same sign =
      let found = given_found t at sign in
      ap given (first_word words word some e ∙ ap (λ (w : List ℕ). w ∷ drop 1 (map text words)) (sym same))
      ∙ given_one t (drop 1 (map text words)) found.0
      ∙ ap (λ (o : Option Given). onto_some o (given (drop 1 (map text words))))
      (found.1 ∙ ap (given_of (take at t)) (sym (whole_rest t (at + 1))))

  pub apart : (words : List S) (word next : S) (t v : List ℕ) → word ≡ slice_index_or words 0 word → t ≡ text word
      → None ≡ position is_equals t → 1 < length words → next ≡ slice_index_or words 1 next → v ≡ text next
      → given (map text words) ≡ onto_some (given_of t v) (given (drop 2 (map text words)))
  apart words word next t v e same none some f value =
      ap given (two_words words word next e some f
      ∙ ap (λ (w : List ℕ). w ∷ text next ∷ drop 2 (map text words)) (sym same)
      ∙ ap (λ (w : List ℕ). t ∷ w ∷ drop 2 (map text words)) (sym value))
      ∙ given_two t v (drop 2 (map text words)) (given_apart t none)

  pub alone : (words : List S) (word : S) (t : List ℕ) → 0 < length words → word ≡ slice_index_or words 0 word
      → t ≡ text word → None ≡ position is_equals t → length words ≤ 1 → given (map text words) ≡ None
  alone words word t some e same none few =
      ap given (no_more_words words word some e few ∙ ap (λ (w : List ℕ). w ∷ []) (sym same))
      ∙ given_alone t (given_apart t none)

pub on_none : {T : Type 0} (r : Option T) (P : Type 0) (Q : T → Type 0) → r ≡ None → P → MatchOption r P Q
on_none None P Q e p = p
on_none (Some x) P Q e p = cc
