-- One more option behind others.
use Rattle.std.proofs.Common.{◌≡◌, ◌≤◌, ℕ, Bool, leb-true, nat_le, true, false, cond, List, [], ◌∷◌, ◌++◌, refl, sym}
use Rattle.std.proofs.Common.{ap, ◌∙◌, codes, append-nil, subst}
use Rattle.std.proofs.Common.{append_assoc}
use Rattle.std.specs.Prelude.{◌&&◌, ◌||◌, ◌↔◌, not, find, is_some, Option, Some, None, IfSome, IsNone, IsSome}
use Rattle.std.specs.Prelude.{option_map}
use Rattle.std.specs.Prelude.{option_and_then, if◌then◌else◌, ok_or, Result, Ok, Err, IfOk, IsErrOf}
use Rattle.std.specs.List.{list_any}
use Rattle.mp_bytes.specs.Bytes.{same_text}
use Rattle.mp_replies.specs.Numbers.{with_next}
use Rattle.mp_defs.specs.Limits.{max_samples}
use Rattle.mp_replies.specs.Words.{Given, Job, Setup, are_options, given_of, is_named, is_option, job_of, job_with}
use Rattle.mp_replies.specs.Words.{make_with}
use Rattle.mp_replies.specs.Words.{number_for, setup_with, word_number}
use Rattle.mp_replies.specs.declared.makes.Make.{Make}
use Rattle.mp_words.specs.Names.{name_of, spelled}
use Rattle.mp_words.specs.Numbers.{numbers_in, numbers_of_options}
use Rattle.mp_words.specs.Reading.{numbers_with}
use Rattle.mp_words.specs.declared.names.Name.{Name}
use Rattle.mp_words.specs.declared.names.Name.TheVariants as names
use Rattle.mp_words.specs.declared.numbers.Numbers.{Numbers}
use Rattle.std.proofs.lemmas.Bool.{false≢true}
use Rattle.std.proofs.lemmas.Bool.Decides.{Decides-like, same_from_decides}
use Rattle.std.proofs.lemmas.Slice.Eq.{bytes_eq-Decides}

abbrev Text : Type 0
Text = List ℕ

abbrev option : Text → ℕ → Given
option name number = record { name = name; number = number }

-- the first number that is there
abbrev pub or_first : Option ℕ → Option ℕ → Option ℕ
or_first None later = later
or_first (Some n) later = Some n

or_none : (n : Option ℕ) → or_first n None ≡ n
or_none None = refl
or_none (Some n) = refl

-- ---- the numbers with one option more

abbrev given_here : Text → Given → Option ℕ
given_here name g = if same_text name g.name then Some g.number else None

number_step : (b : Bool) (o : Given) (f g : Option Given) (late : Option ℕ)
    → option_map (λ (x : Given). x.number) f ≡ or_first (option_map (λ (x : Given). x.number) g) late
    → option_map (λ (x : Given). x.number) (cond b (Some o) f)
    ≡ or_first (option_map (λ (x : Given). x.number) (cond b (Some o) g)) late
number_step true o f g late h = refl
number_step false o f g late h = h

number_alone : (b : Bool) (g : Given)
    → option_map (λ (x : Given). x.number) (cond b (Some g) None) ≡ (if b then Some g.number else None)
number_alone true g = refl
number_alone false g = refl

pub number_more : (name : Text) (options : List Given) (g : Given)
    → number_for name (options ++ g ∷ []) ≡ or_first (number_for name options) (given_here name g)
number_more name [] g = number_alone (same_text name g.name) g
number_more name (o ∷ options) g =
    number_step (is_named name o) o (find (is_named name) (options ++ g ∷ [])) (find (is_named name) options)
    (given_here name g) (number_more name options g)

-- ---- whether they are options that are given once

any_more : (test : Given → Bool) (options : List Given) (g : Given)
    → list_any test (options ++ g ∷ []) ≡ (list_any test options || (test g || false))
any_more test [] g = refl
any_more test (o ∷ options) g = ap (λ b. test o || b) (any_more test options g) ∙ or_assoc (test o)
    (list_any test options) (test g || false)
  where
    or_assoc : (a b c : Bool) → (a || (b || c)) ≡ ((a || b) || c)
    or_assoc true b c = refl
    or_assoc false b c = refl

pub same_text_sym : (a b : Text) → same_text a b ≡ same_text b a
same_text_sym a b = same_from_decides (same_text a b) (same_text b a) (bytes_eq-Decides a b)
    (Decides-like (same_text b a) sym sym (bytes_eq-Decides b a))

some_named : (name : Text) (options : List Given) → is_some (number_for name options) ≡ list_any (is_named name) options
some_named name [] = refl
some_named name (o ∷ options) = step (is_named name o) (find (is_named name) options) (some_named name options)
  where
    step : (b : Bool) (f : Option Given) → is_some (option_map (λ (x : Given). x.number) f)
        ≡ list_any (is_named name) options
        → is_some (option_map (λ (x : Given). x.number) (cond b (Some o) f)) ≡ (b || list_any (is_named name) options)
    step true f h = refl
    step false f h = h

bools : (a b c d e f : Bool)
    → (a && (not (b || (c || false)) && (d && (e && not f)))) ≡ ((a && (not b && d)) && (e && not (c || f)))
bools false b c d e f = refl
bools true true c d e f = refl
bools true false true false e f = refl
bools true false true true false f = refl
bools true false true true true f = refl
bools true false false d e f = refl

alone : (e : Bool) → (e && (not false && true)) ≡ (true && (e && not false))
alone true = refl
alone false = refl

pub known_more : (options : List Given) (g : Given)
    → are_options (options ++ g ∷ [])
    ≡ (are_options options && (is_option g.name && not (list_any (is_named g.name) options)))
known_more [] g = alone (is_option g.name)
known_more (o ∷ options) g =
    ap (λ any. is_option o.name && (not any && are_options (options ++ g ∷ []))) (any_more (is_named o.name) options g)
    ∙ ap (λ b.
    is_option o.name && (not (list_any (is_named o.name) options || (same_text o.name g.name || false)) && b))
    (known_more options g)
    ∙ ap (λ same. is_option o.name && (not (list_any (is_named o.name) options || (same || false))
    && (are_options options && (is_option g.name && not (list_any (is_named g.name) options)))))
    (same_text_sym o.name g.name)
    ∙ bools (is_option o.name) (list_any (is_named o.name) options) (same_text g.name o.name) (are_options options)
    (is_option g.name) (list_any (is_named g.name) options)

-- what stands before others is known where they all are
and_left : (a b : Bool) → (a && b) ≡ true → a ≡ true
and_left true b h = refl
and_left false b h = h

fewer_known : (options : List Given) (g : Given) → are_options options ≡ false
    → are_options (options ++ g ∷ []) ≡ false
fewer_known options g h =
    known_more options g ∙ ap (λ b. b && (is_option g.name && not (list_any (is_named g.name) options))) h

pub unknown_stays : (options later : List Given) → are_options options ≡ false → are_options (options ++ later) ≡ false
unknown_stays options [] h = ap are_options (append-nil options) ∙ h
unknown_stays options (g ∷ later) h =
    ap are_options (sym (append_assoc options (g ∷ []) later))
    ∙ unknown_stays (options ++ g ∷ []) later (fewer_known options g h)

-- ---- names

some_same : {n m : Name} → Some n ≡ Some m → n ≡ m
some_same e = cc

module _ (word : Text) where
  -- by one test after the other
  by : (n m : Name) (b : Bool) (rest : Option Name) → (b ≡ true → word ≡ spelled m)
      → (rest ≡ Some n → word ≡ spelled n) → (if b then Some m else rest) ≡ Some n → word ≡ spelled n
  by n m true rest here later e = here refl ∙ ap spelled (some_same e)
  by n m false rest here later e = later e

  is_text : (text : Text) → same_text word text ≡ true → word ≡ text
  is_text text e = (bytes_eq-Decides word text).0 e

  pub named : (n : Name) → name_of word ≡ Some n → word ≡ spelled n
  named n = by n names.Window (same_text word (codes "--window")) _ (is_text (codes "--window"))
      (by n names.Scale (same_text word (codes "--scale")) _ (is_text (codes "--scale"))
      (by n names.Tile (same_text word (codes "--tile")) _ (is_text (codes "--tile"))
      (by n names.Workers (same_text word (codes "--workers")) _ (is_text (codes "--workers"))
      (by n names.Generate (same_text word (codes "--generate")) _ (is_text (codes "--generate"))
      (by n names.Count (same_text word (codes "--count")) _ (is_text (codes "--count")) (λ e. cc))))))

  none_by : (m : Name) (b rest : Bool) (others : Option Name) → (others ≡ None → rest ≡ false)
      → (if b then Some m else others) ≡ None → (b || rest) ≡ false
  none_by m true rest others later e = cc
  none_by m false rest others later e = later e

  pub unnamed : name_of word ≡ None → is_option word ≡ false
  unnamed = none_by names.Window (same_text word (codes "--window")) _ _
      (none_by names.Scale (same_text word (codes "--scale")) _ _
      (none_by names.Tile (same_text word (codes "--tile")) _ _
      (none_by names.Workers (same_text word (codes "--workers")) _ _
      (none_by names.Generate (same_text word (codes "--generate")) _ _
      (none_by names.Count (same_text word (codes "--count")) _ _ (λ e. refl))))))

pub spelled_is_option : (n : Name) → is_option (spelled n) ≡ true
spelled_is_option names.Window = refl
spelled_is_option names.Scale = refl
spelled_is_option names.Tile = refl
spelled_is_option names.Workers = refl
spelled_is_option names.Generate = refl
spelled_is_option names.Count = refl

-- ---- one option more

abbrev pub number_at : Name → Numbers → Option ℕ
number_at names.Window numbers = numbers.window
number_at names.Scale numbers = numbers.scale
number_at names.Tile numbers = numbers.tile
number_at names.Workers numbers = numbers.workers
number_at names.Generate numbers = numbers.generate
number_at names.Count numbers = numbers.count

abbrev pub number_put : Name → Option ℕ → Numbers → Numbers
number_put names.Window number numbers = record numbers { window = number }
number_put names.Scale number numbers = record numbers { scale = number }
number_put names.Tile number numbers = record numbers { tile = number }
number_put names.Workers number numbers = record numbers { workers = number }
number_put names.Generate number numbers = record numbers { generate = number }
number_put names.Count number numbers = record numbers { count = number }

at_is : (n : Name) (options : List Given) → number_at n (numbers_in options) ≡ number_for (spelled n) options
at_is names.Window options = refl
at_is names.Scale options = refl
at_is names.Tile options = refl
at_is names.Workers options = refl
at_is names.Generate options = refl
at_is names.Count options = refl

-- the numbers where this one stood nowhere
or_new : (n : Option ℕ) (k : ℕ) → n ≡ None → or_first n (Some k) ≡ Some k
or_new None k e = refl
or_new (Some m) k e = cc

abbrev numbers_by : (List ℕ → Option ℕ) → Numbers
numbers_by number = record {
  window = number (codes "--window");
  scale = number (codes "--scale");
  tile = number (codes "--tile");
  workers = number (codes "--workers");
  generate = number (codes "--generate");
  count = number (codes "--count");
}

all_more : (options : List Given) (g : Given)
    → numbers_in (options ++ g ∷ []) ≡ numbers_by (λ name. or_first (number_for name options) (given_here name g))
all_more options g i = record {
  window = number_more (codes "--window") options g i;
  scale = number_more (codes "--scale") options g i;
  tile = number_more (codes "--tile") options g i;
  workers = number_more (codes "--workers") options g i;
  generate = number_more (codes "--generate") options g i;
  count = number_more (codes "--count") options g i;
}

put_more : (n : Name) (options : List Given) (k : ℕ) → number_for (spelled n) options ≡ None
    → numbers_by (λ name. or_first (number_for name options) (given_here name (option (spelled n) k)))
    ≡ number_put n (Some k) (numbers_in options)
put_more names.Window options k e i = record {
  window = or_new (number_for (codes "--window") options) k e i;
  scale = or_none (number_for (codes "--scale") options) i;
  tile = or_none (number_for (codes "--tile") options) i;
  workers = or_none (number_for (codes "--workers") options) i;
  generate = or_none (number_for (codes "--generate") options) i;
  count = or_none (number_for (codes "--count") options) i;
}
put_more names.Scale options k e i = record {
  window = or_none (number_for (codes "--window") options) i;
  scale = or_new (number_for (codes "--scale") options) k e i;
  tile = or_none (number_for (codes "--tile") options) i;
  workers = or_none (number_for (codes "--workers") options) i;
  generate = or_none (number_for (codes "--generate") options) i;
  count = or_none (number_for (codes "--count") options) i;
}
put_more names.Tile options k e i = record {
  window = or_none (number_for (codes "--window") options) i;
  scale = or_none (number_for (codes "--scale") options) i;
  tile = or_new (number_for (codes "--tile") options) k e i;
  workers = or_none (number_for (codes "--workers") options) i;
  generate = or_none (number_for (codes "--generate") options) i;
  count = or_none (number_for (codes "--count") options) i;
}
put_more names.Workers options k e i = record {
  window = or_none (number_for (codes "--window") options) i;
  scale = or_none (number_for (codes "--scale") options) i;
  tile = or_none (number_for (codes "--tile") options) i;
  workers = or_new (number_for (codes "--workers") options) k e i;
  generate = or_none (number_for (codes "--generate") options) i;
  count = or_none (number_for (codes "--count") options) i;
}
put_more names.Generate options k e i = record {
  window = or_none (number_for (codes "--window") options) i;
  scale = or_none (number_for (codes "--scale") options) i;
  tile = or_none (number_for (codes "--tile") options) i;
  workers = or_none (number_for (codes "--workers") options) i;
  generate = or_new (number_for (codes "--generate") options) k e i;
  count = or_none (number_for (codes "--count") options) i;
}
put_more names.Count options k e i = record {
  window = or_none (number_for (codes "--window") options) i;
  scale = or_none (number_for (codes "--scale") options) i;
  tile = or_none (number_for (codes "--tile") options) i;
  workers = or_none (number_for (codes "--workers") options) i;
  generate = or_none (number_for (codes "--generate") options) i;
  count = or_new (number_for (codes "--count") options) k e i;
}

pub options_known : (options : List Given) (numbers : Numbers) → numbers_of_options options ≡ Some numbers
    → (are_options options ≡ true) × (numbers ≡ numbers_in options)
options_known options numbers = by (are_options options)
  where
    by : (b : Bool) → (if b then Some (numbers_in options) else None) ≡ Some numbers
        → (b ≡ true) × (numbers ≡ numbers_in options)
    by true e = (refl, cc)
    by false e = cc

pub of_known : (options : List Given) → are_options options ≡ true
    → numbers_of_options options ≡ Some (numbers_in options)
of_known options e = ap (λ b. if b then Some (numbers_in options) else None) e

pub of_unknown : (options : List Given) → are_options options ≡ false → numbers_of_options options ≡ None
of_unknown options e = ap (λ b. if b then Some (numbers_in options) else None) e

-- no option of this name is added
pub unnamed_more : (options : List Given) (name : Text) (k : ℕ) → name_of name ≡ None
    → numbers_of_options (options ++ option name k ∷ []) ≡ None
unnamed_more options name k e =
    of_unknown (options ++ option name k ∷ [])
    (known_more options (option name k) ∙ ap (λ b. are_options options && (b && not (list_any (is_named name) options)))
    (unnamed name e) ∙ none (are_options options))
  where
    none : (b : Bool) → (b && false) ≡ false
    none true = refl
    none false = refl

module _ {U : Type 0} where
  -- a name whose number is put where none stood
  pub given_more : (n : Name) (options : List Given) (numbers : Numbers) (name : Text) (k : ℕ) (r : Option U)
      (place : Option ℕ) → numbers_of_options options ≡ Some numbers → name_of name ≡ Some n
      → IsNone r ↔ IsSome (number_at n numbers) → IfSome r (λ _. place ≡ Some k)
      → option_map (λ _. number_put n place numbers) r ≡ numbers_of_options (options ++ option name k ∷ [])
  given_more n options numbers name k r place are is again put =
      let held = options_known options numbers are in
      ap (λ (now : Numbers). option_map (λ _. number_put n place now) r) held.1
      ∙ (by (number_for (spelled n) options) r refl
      (subst (λ (x : Option ℕ). IsNone r ↔ IsSome x) (ap (number_at n) held.1 ∙ at_is n options) again) put held.0
      ∙ ap (λ (text : Text). numbers_of_options (options ++ option text k ∷ [])) (sym (named name n is)))
    where
      added : (b : Bool) → list_any (is_named (spelled n)) options ≡ b → are_options options ≡ true
          → are_options (options ++ option (spelled n) k ∷ []) ≡ not b
      added b e known =
          known_more options (option (spelled n) k)
          ∙ ap (λ x. x && (is_option (spelled n) && not (list_any (is_named (spelled n)) options))) known
          ∙ ap (λ x. x && not (list_any (is_named (spelled n)) options)) (spelled_is_option n) ∙ ap not e

      by : (found : Option ℕ) (s : Option U) → number_for (spelled n) options ≡ found
          → IsNone s ↔ IsSome (number_for (spelled n) options)
          → IfSome s (λ _. place ≡ Some k) → are_options options ≡ true
          → option_map (λ _. number_put n place (numbers_in options)) s
          ≡ numbers_of_options (options ++ option (spelled n) k ∷ [])
      by None (Some u) e h p known =
          ap (λ (x : Option ℕ). Some (number_put n x (numbers_in options))) p
          ∙ (ap Some (sym (all_more options (option (spelled n) k) ∙ put_more n options k e))
          ∙ sym (of_known (options ++ option (spelled n) k ∷ [])
          (added false (sym (some_named (spelled n) options) ∙ ap is_some e) known)))
      by None None e h p known = absurd (false≢true (sym (ap is_some e) ∙ h.0 refl))
      by (Some m) (Some u) e h p known = absurd (false≢true (sym (h.1 (ap is_some e))))
      by (Some m) None e h p known =
          sym (of_unknown (options ++ option (spelled n) k ∷ [])
          (added true (sym (some_named (spelled n) options) ∙ ap is_some e) known))

  pub given_value : (n : Name) (options : List Given) (numbers : Numbers) (name value : Text) (k : ℕ) (r : Option U)
      (place : Option ℕ) → numbers_of_options options ≡ Some numbers → word_number value ≡ Some k
      → name_of name ≡ Some n → IsNone r ↔ IsSome (number_at n numbers) → IfSome r (λ _. place ≡ Some k)
      → option_map (λ _. number_put n place numbers) r ≡ numbers_with options (given_of name value)
  given_value n options numbers name value k r place are number is again put =
      given_more n options numbers name k r place are is again put
      ∙ ap (λ (x : Option ℕ). numbers_with options (option_map (option name) x)) (sym number)

  pub unnamed_value : (f : U → Numbers) (options : List Given) (name value : Text) (k : ℕ) (r : Option U)
      → word_number value ≡ Some k → name_of name ≡ None → r ≡ None
      → option_map f r ≡ numbers_with options (given_of name value)
  unnamed_value f options name value k r number is none =
      ap (option_map f) none ∙ sym (unnamed_more options name k is)
      ∙ ap (λ (x : Option ℕ). numbers_with options (option_map (option name) x)) (sym number)

-- where there are numbers, there are options that give them
pub some_options : (all : Option (List Given)) (numbers : Numbers)
    → option_and_then numbers_of_options all ≡ Some numbers
    → (options : List Given) × (all ≡ Some options) × (are_options options ≡ true) × (numbers ≡ numbers_in options)
some_options None numbers e = cc
some_options (Some options) numbers e = let held = options_known options numbers e in (options, refl, held.0, held.1)

-- ---- what they ask for

abbrev pub job_by : Numbers → Option Job
job_by numbers =
    with_next (option_map job_with (setup_with numbers.window numbers.scale numbers.tile numbers.workers))
    (make_with numbers.generate numbers.count)

pub job_of_numbers : (all : Option (List Given))
    → option_and_then job_of all ≡ option_and_then job_by (option_and_then numbers_of_options all)
job_of_numbers None = refl
job_of_numbers (Some options) = by (are_options options)
  where
    by : (b : Bool) → (if b then job_by (numbers_in options) else None)
        ≡ option_and_then job_by (if b then Some (numbers_in options) else None)
    by true = refl
    by false = refl

pub some_numbers : (all : Option Numbers) → is_some (option_and_then job_by all) ≡ true
    → (numbers : Numbers) × (all ≡ Some numbers)
some_numbers None e = absurd (false≢true e)
some_numbers (Some numbers) e = (numbers, refl)

module _ {X Y E : Type 0} (f : X → Y) (all : Option Y) where
  pub asked_of : (r : Option X) (e : E) (out : Result X E) → out ≡ ok_or r e → option_map f r ≡ all
      → IfOk out (λ x. all ≡ Some (f x))
  asked_of None e out is asks = subst (λ (o : Result X E). IfOk o (λ x. all ≡ Some (f x))) (sym is) tt
  asked_of (Some x) e out is asks = subst (λ (o : Result X E). IfOk o (λ x. all ≡ Some (f x))) (sym is) (sym asks)

  pub never_refused : (r : Option X) (e : E) (out : Result X E) → out ≡ ok_or r e → option_map f r ≡ all
      → is_some all ≡ true → IsErrOf out e ↔ (all ≡ None)
  never_refused None e out is asks some = absurd (false≢true (ap is_some asks ∙ some))
  never_refused (Some x) e out is asks some =
      ((λ bad. let no : Ok x ≡ Err e = sym is ∙ bad in cc), λ none. absurd (false≢true (sym (ap is_some none) ∙ some)))

-- a made series has no more samples than a series may have
few_by : (number count : ℕ) (few : Bool) (make : Option Make) → nat_le count max_samples ≡ few
    → (if few then Some (Some record { number = number; count = count }) else None) ≡ Some make
    → IfSome make (λ made. made.count ≤ max_samples)
few_by number count true make is e =
    let same : Some record { number = number; count = count } ≡ make = cc in
    subst (λ (x : Option Make). IfSome x (λ made. made.count ≤ max_samples)) same (leb-true count max_samples is)
few_by number count false make is e = cc

make_within : (number count : Option ℕ) (make : Option Make) → make_with number count ≡ Some make
    → IfSome make (λ made. made.count ≤ max_samples)
make_within None None make e = let same : None ≡ make = cc in
    subst (λ (x : Option Make). IfSome x (λ made. made.count ≤ max_samples)) same tt
make_within None (Some count) make e = cc
make_within (Some number) None make e = cc
make_within (Some number) (Some count) make e = few_by number count (nat_le count max_samples) make refl e

within_by : (setup : Option Setup) (make : Option (Option Make)) (asked : Job)
    → ((made : Option Make) → make ≡ Some made → IfSome made (λ m. m.count ≤ max_samples))
    → with_next (option_map job_with setup) make ≡ Some asked → IfSome asked.make (λ m. m.count ≤ max_samples)
within_by None make asked few e = cc
within_by (Some setup) None asked few e = cc
within_by (Some setup) (Some made) asked few e =
    let same : job_with setup made ≡ asked = cc in
    subst (λ (j : Job). IfSome j.make (λ m. m.count ≤ max_samples)) same (few made refl)

pub job_within : (numbers : Numbers) (asked : Job) → job_by numbers ≡ Some asked
    → IfSome asked.make (λ m. m.count ≤ max_samples)
job_within numbers asked e =
    within_by (setup_with numbers.window numbers.scale numbers.tile numbers.workers)
    (make_with numbers.generate numbers.count) asked (make_within numbers.generate numbers.count) e

module _ {X E : Type 0} (f : X → Job) (numbers : Numbers) where
  pub few_asked : (r : Option X) (e : E) (out : Result X E) → out ≡ ok_or r e → option_map f r ≡ job_by numbers
      → IfOk out (λ x. IfSome (f x).make (λ m. m.count ≤ max_samples))
  few_asked None e out is asks =
      subst (λ (o : Result X E). IfOk o (λ x. IfSome (f x).make (λ m. m.count ≤ max_samples))) (sym is) tt
  few_asked (Some x) e out is asks =
      subst (λ (o : Result X E). IfOk o (λ y. IfSome (f y).make (λ m. m.count ≤ max_samples))) (sym is)
      (job_within numbers (f x) (sym asks))
