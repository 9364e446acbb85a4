-- What is seen of a number that was taken apart.
use Rattle.mp_text.specs.SampleText.{Numeral}
use Rattle.mp_text.specs.declared.spelling.Numeral.{Numeral as Spelled}

abbrev pub seen : Spelled → Numeral
seen n = record { is_negative = n.is_negative; whole = n.whole.now; fraction = n.fraction.now }
