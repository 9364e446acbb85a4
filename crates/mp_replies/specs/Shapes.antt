-- The shapes of commands: which fields may stand behind a command word, and how they are read.
use Rattle.std.specs.Prelude.{ℕ, ◌==◌, Bool, nat_le, List, [], ◌∷◌, length, if◌then◌else◌, Option, Some, None, ok_or}
use Rattle.std.specs.Prelude.{Result, Err}
use Rattle.std.specs.Option.{option_zip}
use Rattle.mp_replies.specs.declared.causes.Cause.{Cause}
use Rattle.mp_replies.specs.declared.causes.Cause.TheVariants as cause
use Rattle.mp_replies.specs.declared.refs.Ref.{Ref}
use Rattle.mp_replies.specs.Numbers.{count, number, ref}

-- which fields may stand there, and what they say, none where one of them is malformed
pub record Shape (A : Type 0) : Type 0 where
  pub fits : List (List ℕ) → Bool
  pub read : List (List ℕ) → Option A

-- the number of fields is tested before the fields are
abbrev pub by_shape : {A : Type 0} → Shape A → List (List ℕ) → Result A Cause
by_shape shape fields = if shape.fits fields then ok_or (shape.read fields) cause.Number else Err cause.Fields

-- ---- what shapes are made of

-- so many fields
abbrev pub of_length : ℕ → List (List ℕ) → Bool
of_length size fields = length fields == size

-- so many fields, or more
abbrev pub at_least : ℕ → List (List ℕ) → Bool
at_least size fields = nat_le size (length fields)

-- the one field that is left
abbrev pub last : {A : Type 0} → (List ℕ → Option A) → List (List ℕ) → Option A
last read (field ∷ []) = read field
last read others = None

-- a field, and then the others
infixr 60 ◌&◌
abbrev pub ◌&◌ : {A B : Type 0} → (List ℕ → Option A) → (List (List ℕ) → Option B) → List (List ℕ) → Option (A × B)
◌&◌ first rest [] = None
◌&◌ first rest (field ∷ others) = option_zip (first field) (rest others)

-- ---- common shapes

abbrev pub no_field : Shape Unit
no_field = record { fits = of_length 0; read = λ fields. Some tt }

abbrev pub one_ref : Shape Ref
one_ref = record { fits = of_length 1; read = last ref }

abbrev pub two_refs : Shape (Ref × Ref)
two_refs = record { fits = of_length 2; read = ref & last ref }

abbrev pub ref_and_start : Shape (Ref × ℕ)
ref_and_start = record { fits = of_length 2; read = ref & last number }

abbrev pub ref_and_count : Shape (Ref × ℕ)
ref_and_count = record { fits = of_length 2; read = ref & last count }

abbrev pub one_slot : Shape ℕ
one_slot = record { fits = of_length 1; read = last number }

abbrev pub slot_and_count : Shape (ℕ × ℕ)
slot_and_count = record { fits = of_length 2; read = number & last count }

abbrev pub slot_and_number : Shape (ℕ × ℕ)
slot_and_number = record { fits = of_length 2; read = number & last number }
