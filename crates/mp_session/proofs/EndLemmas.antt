-- How a run turned out.
use Rattle.std.proofs.Common.{◌≡◌, ◌∙◌, ap, sym}
use Rattle.std.specs.Prelude.{IsErrAnd, IsErrOf, OnErr, Result, Ok, Err}
use Rattle.mp_requests.specs.declared.replies.Stop.{Stop}
use Rattle.mp_requests.specs.declared.replies.Stop.TheVariants.{Memory, ShelfFault}

pub on_err : {T E : Type 0} {P : Type 0} (r : Result T E) → P → OnErr r P
on_err (Ok x) p = tt
on_err (Err e) p = p

-- an error that was passed on as it was
pub passed_on : {T S E : Type 0} (r : Result T E) (why e : E) → IsErrAnd r (λ f. f ≡ e) → IsErrOf r why
    → IsErrOf {T = S} (Err e) why
passed_on (Ok x) why e is fault = absurd is
passed_on (Err f) why e is fault = let same : e ≡ why = cc in ap Err same

pub passed_back : {T S E : Type 0} (r : Result T E) (why e : E) → IsErrAnd r (λ f. f ≡ e)
    → IsErrOf {T = S} (Err e) why → IsErrOf r why
passed_back (Ok x) why e is fault = absurd is
passed_back (Err f) why e is fault = let same : f ≡ why = cc in ap Err same

-- want of memory is no fault of a shelf
pub no_shelf_fault : {T : Type 0} (r : Result T Stop) → IsErrAnd r (λ stop. stop ≡ Memory) → IsErrOf r ShelfFault → ⊥
no_shelf_fault (Ok x) is fault = absurd is
no_shelf_fault (Err stop) is fault = let same : stop ≡ ShelfFault = cc in cc (sym is ∙ same)
