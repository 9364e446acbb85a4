use Rattle.std.proofs.Common.{arith}
use Rattle.std.specs.Char.{is_ascii_digit}
use Rattle.mp_text.proofs.NumberLemmas.{list_all-take, capped_pieces, fixed-pieces}
use Rattle.mp_text.proofs.spelling.Numeral.magnitude.Goals as goal

pub continued-exact-requires-clause-digits : goal.continued-exact-requires-clause-digits
continued-exact-requires-clause-digits c =
    grind (arith, list_all-take is_ascii_digit c.min-kept.result c.args.self.now.fraction.now)

pub continued-requires-clause-digits : goal.continued-requires-clause-digits
continued-requires-clause-digits c = grind (arith, list_all-take is_ascii_digit)

pub returns : goal.returns
returns c =
    grind (
      arith,
      capped_pieces 1000000000000000000 c.args.self.now.whole.now,
      fixed-pieces c.args.self.now.fraction.now c.args.scale c.min-kept.result,
    )
