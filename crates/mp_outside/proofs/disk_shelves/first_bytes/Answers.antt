use Rattle.std.proofs.Common.{ℕ, List, ◌++◌, take, Option, None, Some, sym, ap, ◌∙◌, append_assoc, arith}
use Rattle.std.proofs.lemmas.List.{length-take, length-append}
use Rattle.std.specs.Io.KnownBytes.{Consumes}
use Rattle.mp_outside.proofs.disk_shelves.first_bytes.Goals as goal

-- what was taken first, and then behind it
Consumes-both : (first then last : Option (List ℕ)) (bs cs : List ℕ)
    → Consumes first then bs → Consumes then last cs → Consumes first last (bs ++ cs)
Consumes-both None then last bs cs e f = tt
Consumes-both (Some xs) None last bs cs e f = absurd e
Consumes-both (Some xs) (Some ys) None bs cs e f = absurd f
Consumes-both (Some xs) (Some ys) (Some zs) bs cs e f = e ∙ ap (λ rest. bs ++ rest) f ∙ sym (append_assoc bs cs zs)

pub loop-left-preserved : goal.loop-left-preserved
loop-left-preserved g c =
    let appended = c.in_ok-extend_from_slice.ensures in
    let read = c.in_ok-read.ensures in
    record {
      counted = omega (arith, appended.len, read.within, length-take {A = ℕ});
      taken = rw appended.items (Consumes-both _ _ _ _ _ c.loop-left.invariant.taken read.bytes.0);
      room = c.loop-left.invariant.room;
    }

pub returns-in_err-extend_from_slice-clause-most : goal.returns-in_err-extend_from_slice-clause-most
returns-in_err-extend_from_slice-clause-most g c =
    let read = c.in_ok-read.ensures in (
      c.loop-left.bytes.items ++ take c.in_ok-read.read c.read_some.new.buf,
      Consumes-both _ _ _ _ _ c.loop-left.invariant.taken read.bytes.0,
      omega (arith, c.loop-left.invariant.counted, read.within, length-append {A = ℕ}, length-take {A = ℕ}),
    )
