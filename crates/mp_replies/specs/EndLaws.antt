-- By each version the same lines end a run.
use Rattle.std.proofs.Common.{◌≡◌, ℕ, Bool, true, false, List, [], ◌∷◌, refl, ◌∙◌, sym}
use Rattle.std.specs.Prelude.{if◌then◌else◌, ◌==◌, nat_le, nat_lt, codes, length, Result, Ok, Err, slice_index}
use Rattle.mp_bytes.specs.Bytes.{number_sign, same_text}
use Rattle.mp_bytes.specs.Fields.{fields}
use Rattle.mp_bytes.specs.Lines.{max_line}
use Rattle.mp_replies.specs.declared.causes.Cause.{Cause}
use Rattle.mp_replies.specs.declared.causes.Cause.TheVariants.{Long, Unknown}
use Rattle.mp_replies.specs.Command.{Command}
use Rattle.mp_replies.specs.Commands.{forms, keep_form, made}
use Rattle.mp_replies.specs.KeepCommand.{keep_by, keep_shape}
use Rattle.mp_replies.specs.Laws.{EndsAreOfEachVersion}
use Rattle.mp_replies.specs.Line.{Asked, Nothing, Faulty, asked_in, asked_of, asks, command_in, is_end, ends}
use Rattle.mp_replies.specs.Shapes.{by_shape}
use Rattle.mp_replies.specs.State.{first_version, second_version}

-- a command that a version has alone ends no run
kept_goes_on : (read : Result (ℕ × ℕ) Cause) → is_end (asks (made keep_by read)) ≡ false
kept_goes_on (Ok (slot, keep)) = refl
kept_goes_on (Err why) = refl

since_goes_on : (there : Bool) (read : Result Command Cause) → is_end (asks read) ≡ false
    → is_end (asks (if there then read else Err Unknown)) ≡ false
since_goes_on true read h = h
since_goes_on false read h = refl

same_by : (t : Bool) (a b c d : Result Command Cause) → is_end (asks a) ≡ is_end (asks b)
    → is_end (asks c) ≡ is_end (asks d)
    → is_end (asks (if t then a else c)) ≡ is_end (asks (if t then b else d))
same_by true a b c d here rest = here
same_by false a b c d here rest = rest

keep_goes_on : (version : ℕ) (others : List (List ℕ)) → is_end (asks ((keep_form version).read others)) ≡ false
keep_goes_on version others =
    since_goes_on (nat_le second_version version) (made keep_by (by_shape keep_shape others))
    (kept_goes_on (by_shape keep_shape others))

same_command : (version : ℕ) (word : List ℕ) (others : List (List ℕ))
    → is_end (asks (command_in (forms version) word others))
    ≡ is_end (asks (command_in (forms first_version) word others))
same_command version word others =
    same_by (same_text word (codes "session")) _ _ _ _ refl
    (same_by (same_text word (codes "open")) _ _ _ _ refl
    (same_by (same_text word (codes "keep")) _ _ _ _
    (keep_goes_on version others ∙ sym (keep_goes_on first_version others)) refl))

unless_comment : (comment : Bool) (a b : Result Command Cause) → is_end (asks a) ≡ is_end (asks b)
    → is_end (if comment then Nothing else asks a) ≡ is_end (if comment then Nothing else asks b)
unless_comment true a b h = refl
unless_comment false a b h = h

same_end_in : (version : ℕ) (all : List (List ℕ))
    → is_end (asked_in version all) ≡ is_end (asked_in first_version all)
same_end_in version [] = refl
same_end_in version (word ∷ others) =
    unless_comment (slice_index word 0 == number_sign) _ _ (same_command version word others)

unless_long : (long : Bool) (a b : Asked) → is_end a ≡ is_end b
    → is_end (if long then Faulty Long else a) ≡ is_end (if long then Faulty Long else b)
unless_long true a b h = refl
unless_long false a b h = h

pub ends_of_each_version : EndsAreOfEachVersion
unfolding asked_of ends
ends_of_each_version version line =
    unless_long (nat_lt max_line (length line)) _ _ (same_end_in version (fields line))
