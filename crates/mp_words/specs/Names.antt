-- The names of the options.
use Rattle.std.specs.Prelude.{ℕ, List, codes, if◌then◌else◌, Option, Some, None}
use Rattle.mp_bytes.specs.Bytes.{same_text}
use Rattle.mp_words.specs.declared.names.Name.{Name}
use Rattle.mp_words.specs.declared.names.Name.TheVariants.{Window, Scale, Tile, Workers, Generate, Count}

-- the option that a word names
abbrev pub name_of : List ℕ → Option Name
name_of word =
    if same_text word (codes "--window") then Some Window
    else if same_text word (codes "--scale") then Some Scale
    else if same_text word (codes "--tile") then Some Tile
    else if same_text word (codes "--workers") then Some Workers
    else if same_text word (codes "--generate") then Some Generate
    else if same_text word (codes "--count") then Some Count
    else None

abbrev pub spelled : Name → List ℕ
spelled Window = codes "--window"
spelled Scale = codes "--scale"
spelled Tile = codes "--tile"
spelled Workers = codes "--workers"
spelled Generate = codes "--generate"
spelled Count = codes "--count"
