use Rattle.std.proofs.Common.{◌≡◌, ◌∙◌, ap, drop, map, rules}
use Rattle.std.specs.Prelude.{None, Some, position, string_bytes}
use Rattle.mp_replies.specs.Words.{is_equals}
use Rattle.mp_words.proofs.WordLemmas.{alone, apart, attached, behind, on_none, passed, refused}
use Rattle.mp_words.proofs.grammar.read_option.Goals as goal

pub returns-in_err-give-in-Some-clause-read : goal.returns-in_err-give-in-Some-clause-read
returns-in_err-give-in-Some-clause-read c = λ all reading.
    let sign : Some c.in-Some.at ≡ position is_equals c.as_bytes-word.result.now = search rules in
    let words =
    attached string_bytes c.args.words.now c.index-words-0.result c.as_bytes-word.result.now c.in-Some.at c.requires
    c.index-words-0.is c.as_bytes-word.ensures.value sign in
    on_none c.from_residual.result _ _ c.from_residual.ensures
    (refused all reading.options c.give.new.self _ _ c.give.result (reading.whole ∙ ap (behind reading.options) words)
    (c.give.ensures reading.options reading.numbers_are) c.in_err-give-in-Some.was)

pub returns-in_ok-give-in-Some-clause-read : goal.returns-in_ok-give-in-Some-clause-read
returns-in_ok-give-in-Some-clause-read c = λ all reading.
    let sign : Some c.in-Some.at ≡ position is_equals c.as_bytes-word.result.now = search rules in
    let words =
    attached string_bytes c.args.words.now c.index-words-0.result c.as_bytes-word.result.now c.in-Some.at c.requires
    c.index-words-0.is c.as_bytes-word.ensures.value sign in
    passed all reading.options c.give.new.self _ (drop 1 (map string_bytes c.args.words.now)) c.give.result
    c.in_ok-give-in-Some.field-0 (reading.whole ∙ ap (behind reading.options) words)
    (c.give.ensures reading.options reading.numbers_are) c.in_ok-give-in-Some.was

pub returns-in_err-get-in-None-clause-read : goal.returns-in_err-get-in-None-clause-read
returns-in_err-get-in-None-clause-read c = λ all reading.
    let sign : None ≡ position is_equals c.as_bytes-word.result.now = search rules in
    on_none c.from_residual-in_err-get-in-None.result _ _ c.from_residual-in_err-get-in-None.ensures
    (reading.whole ∙ ap (behind reading.options)
    (alone string_bytes c.args.words.now c.index-words-0.result c.as_bytes-word.result.now c.requires
    c.index-words-0.is c.as_bytes-word.ensures.value sign c.in_err-get-in-None.ensures.lookup.3))

pub returns-in_err-give-in-None-clause-read : goal.returns-in_err-give-in-None-clause-read
returns-in_err-give-in-None-clause-read c = λ all reading.
    let sign : None ≡ position is_equals c.as_bytes-word.result.now = search rules in
    let look = c.in_ok-get-in-None.ensures.lookup in
    let words =
    apart string_bytes c.args.words.now c.index-words-0.result c.in_ok-get-in-None.field-0.now
    c.as_bytes-word.result.now c.as_bytes.result.now c.index-words-0.is c.as_bytes-word.ensures.value sign look.3.0
    look.1 c.as_bytes.ensures.value in
    on_none c.from_residual-in_err-give-in-None.result _ _ c.from_residual-in_err-give-in-None.ensures
    (refused all reading.options c.give-in-None.new.self _ _ c.give-in-None.result
    (reading.whole ∙ ap (behind reading.options) words)
    (c.give-in-None.ensures reading.options reading.numbers_are) c.in_err-give-in-None.was)

pub returns-in_ok-give-in-None-clause-read : goal.returns-in_ok-give-in-None-clause-read
returns-in_ok-give-in-None-clause-read c = λ all reading.
    let sign : None ≡ position is_equals c.as_bytes-word.result.now = search rules in
    let look = c.in_ok-get-in-None.ensures.lookup in
    let words =
    apart string_bytes c.args.words.now c.index-words-0.result c.in_ok-get-in-None.field-0.now
    c.as_bytes-word.result.now c.as_bytes.result.now c.index-words-0.is c.as_bytes-word.ensures.value sign look.3.0
    look.1 c.as_bytes.ensures.value in
    passed all reading.options c.give-in-None.new.self _ (drop 2 (map string_bytes c.args.words.now))
    c.give-in-None.result c.in_ok-give-in-None.field-0 (reading.whole ∙ ap (behind reading.options) words)
    (c.give-in-None.ensures reading.options reading.numbers_are) c.in_ok-give-in-None.was
