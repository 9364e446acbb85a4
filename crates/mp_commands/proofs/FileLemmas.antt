-- Files by which a load is prepared, whatever the shelf tells.
use Rattle.std.proofs.Common.{◌≡◌, ℕ, ◌+◌, Bool, true, false, List, [], length, nat_lt, refl, replicate, ap, ◌∙◌, sym}
use Rattle.std.proofs.Common.{arith}
use Rattle.std.specs.Prelude.{cond, is_none, unwrap_or, Option, Some, None, Result, Ok, Err, IfOk, OnErr}
use Rattle.std.specs.Cmp.Lexicographic.{slice_cmp}
use Rattle.std.specs.FinMap.{empty, get-empty, get-insert, insert}
use Rattle.std.specs.Ordering.{nat_cmp}
use Rattle.std.proofs.lemmas.Bool.Decides.{nat_tests}
use Rattle.std.proofs.lemmas.Cmp.{eq_by_cmp_equiv, nat_list_cmp_total}
use Rattle.std.proofs.lemmas.List.{length-replicate}
use Rattle.mp_nums.specs.declared.widths.Width.{Width}
use Rattle.mp_replies.specs.declared.causes.Cause.{Cause}
use Rattle.mp_replies.specs.declared.causes.Cause.TheVariants.{File, FileSize}
use Rattle.mp_replies.specs.Conditions.{first_cause}
use Rattle.mp_replies.specs.Limits.{max_file}
use Rattle.mp_replies.specs.Line.{Asked}
use Rattle.mp_replies.specs.LoadCommand.{file_conditions, file_in, load_conditions}
use Rattle.mp_replies.specs.Numbers.{columns}
use Rattle.mp_replies.specs.State.{Files, State, Store}
use Rattle.mp_replies.specs.Step.{fetches_by}
use Rattle.mp_stores.specs.Stores.{StandFor, Stored}
use Rattle.mp_requests.specs.declared.context.Context.{Context}
use Rattle.mp_requests.specs.Answering.{state_over}
use Rattle.mp_commands.specs.declared.prepared.Prepared.{Prepared}
use Rattle.mp_commands.specs.declared.requests.Load.{Load}
use Rattle.mp_commands.specs.Commands.{asks_for}
use Rattle.mp_outside.specs.declared.shelves.Shelf as shelves
use Rattle.mp_commands.specs.Preparing.{IsAsked, IsPrepared, IsPreparedBySome, NeedsFile}

pub no_file : Files
no_file = empty

pub one_file : List ℕ → List ℕ → Files
one_file name bytes = insert empty name bytes

none_found : (name : List ℕ) → file_in no_file name ≡ None
unfolding no_file
none_found name = get-empty (slice_cmp nat_cmp) name

one_found : (name bytes : List ℕ) → file_in (one_file name bytes) name ≡ Some bytes
unfolding one_file
one_found name bytes =
    get-insert nat_list_cmp_total empty name bytes name
    ∙ ap (λ (same : Bool). cond same (Some bytes) (file_in empty name))
    ((eq_by_cmp_equiv nat_list_cmp_total).refl name)

-- ---- a file that isn't there

pub absent_is : (width : Width) (scale : ℕ) (cols : List ℕ) (header : Bool) (name : List ℕ)
    → first_cause (file_conditions width scale cols header (file_in no_file name)) ≡ Some File
absent_is width scale cols header name =
    ap (λ found. first_cause (file_conditions width scale cols header found)) (none_found name)

-- ---- one that is too large

more_bytes : (n : ℕ) → (bytes : List ℕ) × (nat_lt n (length bytes) ≡ true)
more_bytes n =
    let zero : ℕ = 0 in
    let long = length-replicate (n + 1) zero in
    (replicate (n + 1) zero, grind (arith, nat_tests, long))

pub large_file : List ℕ → Files
large_file name = one_file name (more_bytes max_file).0

pub too_large_by : (width : Width) (scale : ℕ) (cols : List ℕ) (header : Bool) (bytes : List ℕ) → nat_lt max_file (length bytes) ≡ true
    → first_cause (file_conditions width scale cols header (Some bytes)) ≡ Some FileSize
too_large_by width scale cols header bytes more = rw more refl

pub too_large_is : (width : Width) (scale : ℕ) (cols : List ℕ) (header : Bool) (name : List ℕ)
    → first_cause (file_conditions width scale cols header (file_in (large_file name) name)) ≡ Some FileSize
unfolding large_file
too_large_is width scale cols header name =
    ap (λ found. first_cause (file_conditions width scale cols header found)) (one_found name (more_bytes max_file).0)
    ∙ too_large_by width scale cols header (more_bytes max_file).0 (more_bytes max_file).1

-- ---- one that is wanted

pub on_err : {T E : Type 0} {P : Type 0} (r : Result T E) → P → OnErr r P
on_err (Ok x) p = tt
on_err (Err e) p = p

-- whether a load needs its file: where nothing refuses it without that
pub load_needs : (context : Context) (load : Load) (held : Stored) (why : Option Cause)
    → ((stores : List Store) → StandFor held stores
    → first_cause (load_conditions stores load.slot (unwrap_or (columns load.columns.field.now) [])) ≡ why)
    → (file : Bool) → NeedsFile context (asks_for load) held file → file ≡ is_none why
load_needs context load held why cause file needs = sym needs.is ∙ ap is_none (cause needs.stores needs.stand)

-- a shelf isn't asked where no file is needed
pub unasked : {H : Type 0} {shelf : shelves.Ghosts H} {needs : Bool → Type 0} {failed : Type 0} (same : H)
    → (needs true → ⊥) → (failed → ⊥) → IsAsked shelf needs failed same same
unasked same none calm = record {
  files = refl;
  fault = λ failed. absurd (calm failed);
  calm = λ fine. refl;
  fetched = λ needs. absurd (none needs);
  unfetched = λ needs. refl;
  no_fault = λ needs failed. calm failed;
}

-- a line of which no state asks for a file needs none
pub needs_none : (context : Context) (what : Asked) (held : Stored) → ((state : State) → fetches_by state what ≡ false)
    → NeedsFile context what held true → ⊥
needs_none context what held none needs =
    let clash : true ≡ false = sym needs.is ∙ none (state_over context held needs.stores) in
    absurd (cc clash)

-- ---- one that is there

-- what is prepared by each table of files in which it is
pub prepared_by : {E : Type 0} (context : Context) (what : Asked) (held : Stored) (name bytes : List ℕ)
    (result : Result Prepared E)
    → ((stores : List Store) (files : Files) → StandFor held stores → file_in files name ≡ Some bytes
    → IfOk result (IsPrepared (state_over context held stores) files what))
    → IfOk result (IsPreparedBySome context what held)
prepared_by context what held name bytes (Ok prepared) is = record {
  files = one_file name bytes;
  is = λ stores stand. is stores (one_file name bytes) stand (one_found name bytes);
}
prepared_by context what held name bytes (Err stop) is = tt
