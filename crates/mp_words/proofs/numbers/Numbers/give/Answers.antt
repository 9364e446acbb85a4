use Rattle.std.proofs.Common.{rules, ◌≡◌}
use Rattle.std.specs.Prelude.{None, Some}
use Rattle.mp_replies.specs.Words.{word_number}
use Rattle.mp_words.specs.Names.{name_of}
use Rattle.mp_words.specs.declared.names.Name.TheVariants as names
use Rattle.mp_words.proofs.GivenLemmas.{given_value, unnamed_value}
use Rattle.mp_words.proofs.numbers.Numbers.give.Goals as goal

pub returns-in_err-name_of : goal.returns-in_err-name_of
returns-in_err-name_of c = λ options are.
    let number : word_number c.args.value.now ≡ Some c.in_ok-number.number = search rules in
    let is : name_of c.args.name.now ≡ None = search rules in
    unnamed_value _ options c.args.name.now c.args.value.now c.in_ok-number.number c.from_residual-in_err-name_of.result
    number is c.from_residual-in_err-name_of.ensures

pub returns-in-Window : goal.returns-in-Window
returns-in-Window c = λ options are.
    let number : word_number c.args.value.now ≡ Some c.in_ok-number.number = search rules in
    let is : name_of c.args.name.now ≡ Some names.Window = search rules in
    given_value names.Window options c.args.self.now c.args.name.now c.args.value.now c.in_ok-number.number
    c.give_once.result _ are number is c.give_once.ensures.again c.give_once.ensures.given

pub returns-in-Scale : goal.returns-in-Scale
returns-in-Scale c = λ options are.
    let number : word_number c.args.value.now ≡ Some c.in_ok-number.number = search rules in
    let is : name_of c.args.name.now ≡ Some names.Scale = search rules in
    given_value names.Scale options c.args.self.now c.args.name.now c.args.value.now c.in_ok-number.number
    c.give_once-in-Scale.result _ are number is c.give_once-in-Scale.ensures.again c.give_once-in-Scale.ensures.given

pub returns-in-Tile : goal.returns-in-Tile
returns-in-Tile c = λ options are.
    let number : word_number c.args.value.now ≡ Some c.in_ok-number.number = search rules in
    let is : name_of c.args.name.now ≡ Some names.Tile = search rules in
    given_value names.Tile options c.args.self.now c.args.name.now c.args.value.now c.in_ok-number.number
    c.give_once-in-Tile.result _ are number is c.give_once-in-Tile.ensures.again c.give_once-in-Tile.ensures.given

pub returns-in-Workers : goal.returns-in-Workers
returns-in-Workers c = λ options are.
    let number : word_number c.args.value.now ≡ Some c.in_ok-number.number = search rules in
    let is : name_of c.args.name.now ≡ Some names.Workers = search rules in
    given_value names.Workers options c.args.self.now c.args.name.now c.args.value.now c.in_ok-number.number
    c.give_once-in-Workers.result _ are number is c.give_once-in-Workers.ensures.again
    c.give_once-in-Workers.ensures.given

pub returns-in-Generate : goal.returns-in-Generate
returns-in-Generate c = λ options are.
    let number : word_number c.args.value.now ≡ Some c.in_ok-number.number = search rules in
    let is : name_of c.args.name.now ≡ Some names.Generate = search rules in
    given_value names.Generate options c.args.self.now c.args.name.now c.args.value.now c.in_ok-number.number
    c.give_once-in-Generate.result _ are number is c.give_once-in-Generate.ensures.again
    c.give_once-in-Generate.ensures.given

pub returns-in-Count : goal.returns-in-Count
returns-in-Count c = λ options are.
    let number : word_number c.args.value.now ≡ Some c.in_ok-number.number = search rules in
    let is : name_of c.args.name.now ≡ Some names.Count = search rules in
    given_value names.Count options c.args.self.now c.args.name.now c.args.value.now c.in_ok-number.number
    c.give_once-in-Count.result _ are number is c.give_once-in-Count.ensures.again c.give_once-in-Count.ensures.given
