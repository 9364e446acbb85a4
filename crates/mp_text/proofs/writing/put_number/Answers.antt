use Rattle.std.proofs.Common.{subst, FitsSigned, w64}
use Rattle.mp_nums.specs.Whole.{IsWhole}
use Rattle.mp_text.proofs.RoundTrip.{read_back}
use Rattle.mp_text.proofs.writing.put_number.Goals as goal

pub returns-clause-read_back : goal.returns-clause-read_back
returns-clause-read_back c = λ width fits.
    read_back width c.args.number c.args.scale
    (subst (FitsSigned w64) c.get-number.ensures.value (record { sfits = c.get-number.type_inv }))
    (subst IsWhole c.get-number.ensures.value (c.get-number.ensures.least, c.get-number.ensures.greatest)) fits
