-- What a read gave.
use Rattle.std.proofs.Common.{◌≡◌, ℕ, ◌+◌, ◌-◌, ◌<◌, ◌≤◌, true, false, refl, ⊎_elim, Bool, List, [], ◌++◌, length, take}
use Rattle.std.proofs.Common.{drop, arith, ap, ◌∙◌, sym}
use Rattle.std.specs.Prelude.{Option, Some, Result, Ok, Err, OnErr}
use Rattle.std.proofs.lemmas.List.{length-take, length-take-le, length-drop, take-take, take-append-le}
use Rattle.std.proofs.lemmas.List.{take-append-drop, drop-drop, drop-take, take_all}
use Rattle.std.proofs.Math.Seq.{drop-nil}
use Rattle.std.specs.Prelude.{nat_lt}
use Rattle.std.proofs.lemmas.Bool.{cases_Bool}
use Rattle.std.proofs.lemmas.Bool.Decides.{nat_tests}
use Rattle.mp_feed.specs.Feeding.{used_of}
use Rattle.mp_feed.specs.Reading.{bit, IsReadOf}

pub read_off : (count given : ℕ) (past : Bool) (buf others bytes : List ℕ) (later : Option (List ℕ)) → count ≤ given
    → count + bit past ≡ given → given ≤ length buf → take given buf ≡ take given bytes
    → later ≡ Some (drop given bytes) → (given ≡ 0 → bytes ≡ [])
    → IsReadOf bytes (buf ++ others) later (record { count = count; past_limit = past })
read_off count given past buf others bytes later less over within first is at_end =
    let enough : given ≤ length bytes =
    omega (arith, length-take-le given buf within, length-take given bytes, ap length first) in
    let front : take count (buf ++ others) ≡ take count bytes =
    take-append-le count buf others (omega arith)
    ∙ (sym (take-take count given buf less) ∙ (ap (take count) first ∙ take-take count given bytes less)) in
    let more : count + (given - count) ≡ given = omega arith in
    record {
      off = record {
        over = take (given - count) (drop count bytes);
        rest = drop given bytes;
        over_count =
            length-take-le (given - count) (drop count bytes) (omega (arith, length-drop count bytes, enough))
            ∙ omega arith;
        later_is = is;
        bytes_are =
            sym (take-append-drop count bytes)
            ∙ ap (λ t. t ++ drop count bytes) (sym front)
            ∙ ap (λ t. take count (buf ++ others) ++ t) (sym (take-append-drop (given - count) (drop count bytes))
            ∙ ap (λ t. take (given - count) (drop count bytes) ++ t)
            (drop-drop (given - count) count bytes ∙ ap (λ n. drop n bytes) more));
      };
      at_end = λ none. let empty : bytes ≡ [] = at_end (omega arith) in rw empty (drop-nil given);
    }

-- what is left of a part of a buffer once its front was used
pub unread_on : (from to used : ℕ) (items : List ℕ) → used ≤ to - from
    → take (to - (from + used)) (drop (from + used) items) ≡ drop used (take (to - from) (drop from items))
unread_on from to used items within =
    let split : used + (to - (from + used)) ≡ to - from = omega arith in
    sym (ap (λ n. drop used (take n (drop from items))) (sym split)
    ∙ drop-take used (to - (from + used)) (drop from items)
    ∙ ap (take (to - (from + used))) (drop-drop used from items))

pub unread_after : (from to used : ℕ) (items unread : List ℕ) → unread ≡ take (to - from) (drop from items)
    → used ≡ used_of unread → used ≤ to - from
    → take (to - (from + used)) (drop (from + used) items) ≡ drop (used_of unread) unread
unread_after from to used items unread is used_is within =
    unread_on from to used items within ∙ (ap (drop used) (sym is) ∙ ap (λ n. drop n unread) used_is)

-- a byte past the limit
pub past_bit : (count given : ℕ) → count ≤ given → given ≤ count + 1 → count + bit (nat_lt count given) ≡ given
past_bit count given less most = ⊎_elim
    (λ (past : nat_lt count given ≡ true). let lt : count < given = grind (arith, nat_tests) in rw past (omega arith))
    (λ (within : nat_lt count given ≡ false).
    let le : given ≤ count = grind (arith, nat_tests) in rw within (omega arith))
    (cases_Bool (nat_lt count given))

-- a buffer that was written over whole holds what was written
pub written_over : (len : ℕ) (new old value : List ℕ) → length new ≡ len
    → value ≡ take len (new ++ drop (length new) old) → value ≡ new
written_over len new old value whole is =
    is
    ∙ (take-append-le len new (drop (length new) old) (omega (arith, whole)) ∙ take_all len new (omega (arith, whole)))

pub read_front : (count len : ℕ) (new old : List ℕ) → length new ≡ len
    → take (count - 0) (take len (new ++ drop (length new) old)) ≡ take count new
read_front count len new old whole =
    let e : count - 0 ≡ count = omega arith in rw e (ap (take count) (written_over len new old _ whole refl))

pub bit_true : (b : Bool) → 0 < bit b → b ≡ true
bit_true true some = refl
bit_true false some = absurd (omega arith)

pub not_both : {P : Type 0} (b : Bool) → b ≡ true → b ≡ false → P
not_both b t f = let clash : true ≡ false = sym t ∙ f in absurd (cc clash)

pub bit_false : (b : Bool) → bit b ≡ 0 → b ≡ false
bit_false false none = refl
bit_false true none = absurd (omega (arith, none))

pub on_err : {T E P : Type 0} (r : Result T E) → P → OnErr r P
on_err (Ok x) p = tt
on_err (Err e) p = p
