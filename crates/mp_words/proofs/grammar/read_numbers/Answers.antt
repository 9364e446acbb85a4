use Rattle.std.proofs.Common.{◌≡◌, ◌∙◌, ◌+◌, ◌-◌, ap, arith, drop, drop-drop, length, map, subst, sym, take}
use Rattle.std.proofs.lemmas.List.{drop-map, length-drop}
use Rattle.std.specs.Prelude.{List, string_bytes, ℕ}
use Rattle.mp_words.specs.Reading.{IsReading}
use Rattle.mp_words.proofs.WordLemmas.{whole_rest}
use Rattle.mp_words.proofs.grammar.read_numbers.Goals as goal

pub returns-in_err-read : goal.returns-in_err-read
returns-in_err-read c =
    let words = c.args.words.now in
    let all = map string_bytes words in
    let at = c.loop-read.read in
    let left : drop at all ≡ map string_bytes (take (length words - at) (drop at words)) =
    drop-map string_bytes at words ∙ ap (map string_bytes) (sym (whole_rest words at)) in
    c.from_residual.ensures
    ∙ sym (c.in_err-read.ensures.read all
    (subst (λ (rest : List (List ℕ)). IsReading all rest c.loop-read.numbers) left c.loop-read.invariant.0))

pub loop-read-preserved : goal.loop-read-preserved
loop-read-preserved c =
    let words = c.args.words.now in
    let at = c.loop-read.read in
    let taken = c.in_ok-read.field-0 in
    let all = map string_bytes words in
    let left : drop at all ≡ map string_bytes (take (length words - at) (drop at words)) =
    drop-map string_bytes at words ∙ ap (map string_bytes) (sym (whole_rest words at)) in
    let read = c.in_ok-read.ensures.read all
    (subst (λ (rest : List (List ℕ)). IsReading all rest c.loop-read.numbers) left c.loop-read.invariant.0) in
    let later : drop taken (map string_bytes (take (length words - at) (drop at words))) ≡ drop (at + taken) all =
    ap (drop taken) (sym left) ∙ drop-drop taken at all in (
      subst (λ (rest : List (List ℕ)). IsReading all rest c.read_option.new.numbers) later read,
      omega (
        arith,
        c.in_ok-read.ensures.taken.1,
        c.loop-read.invariant.1,
        length-drop at words,
        ap (λ (ws : List _). length ws) (whole_rest words at),
      ),
    )
