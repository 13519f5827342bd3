-- What the words behind a command are, one by one: names, and options with their values.
use Rattle.std.specs.Prelude.{ℕ, Bool, true, false, not, ◌&&◌, ◌==◌, List, [], ◌∷◌, map, codes, Option, Some, None, option_and_then, option_map, if◌then◌else◌}
use Rattle.std.specs.List.{list_any, before_first, after_first}
use Rattle.std.specs.Str.{bytes_eq}

abbrev pub Text : Type 0
Text = List ℕ

pub data Part : Type 0 where
  named : Text → Part
  given : Text → Text → Part

-- the word begins with `-` (45), and is longer than that
abbrev pub is_dashed : Text → Bool
is_dashed (first ∷ second ∷ rest) = first == 45
is_dashed _ = false

-- what stands behind `--`
abbrev pub behind_dashes : Text → Option Text
behind_dashes (first ∷ second ∷ rest) = if first == 45 && second == 45 then Some rest else None
behind_dashes _ = None

abbrev pub has_value : Text → Bool
has_value text = list_any (λ byte. byte == 61) text

abbrev pub before : Part → Option (List Part) → Option (List Part)
before part = option_map (λ parts. part ∷ parts)

-- before the first `=` (61), or all where there is none
abbrev pub option_name : Text → Text
option_name text = before_first (λ byte. byte == 61) text

-- An option, as its text behind `--`. Behind the first `=` stands its value, and without one its value is the next word.
-- What `further` makes of the words behind it depends on the option that waits for a value.
abbrev pub option_parts : Text → (Option Text → Option (List Part)) → Option (List Part)
option_parts text further =
    if has_value text then before (given (option_name text) (after_first (λ byte. byte == 61) text)) (further None)
    else further (Some (option_name text))

-- a word that isn't `--` and that no option waits for
abbrev pub word_parts : Text → (Option Text → Option (List Part)) → Option (List Part)
word_parts word further =
    if is_dashed word then option_and_then (λ text. option_parts text further) (behind_dashes word)
    else before (named word) (further None)

-- What the words are, behind an option that waits for its value or behind none. After `--` all are names. A word that
-- begins with `-` and is longer must be an option, and is no value. (Nor is `-`, since each value is a number.)
abbrev pub parts_of : Option Text → List Text → Option (List Part)
parts_of None [] = Some []
parts_of (Some option) [] = None
parts_of None (word ∷ words) =
    if bytes_eq word (codes "--") then Some (map named words) else word_parts word (λ waiting. parts_of waiting words)
parts_of (Some option) (word ∷ words) = if is_dashed word then None else before (given option word) (parts_of None words)

abbrev pub names_of : List Part → List Text
names_of [] = []
names_of (named name ∷ parts) = name ∷ names_of parts
names_of (given option value ∷ parts) = names_of parts

abbrev pub options_of : List Part → List Text
options_of [] = []
options_of (named name ∷ parts) = options_of parts
options_of (given option value ∷ parts) = option ∷ options_of parts

-- the value of an option, where it is given
abbrev pub value_of : Text → List Part → Option Text
value_of name [] = None
value_of name (named _ ∷ parts) = value_of name parts
value_of name (given option value ∷ parts) = if bytes_eq option name then Some value else value_of name parts

abbrev pub is_among : Text → List Text → Bool
is_among text texts = list_any (λ other. bytes_eq other text) texts

-- each of the options is one that the command has, and none stands twice
abbrev pub are_options : List Text → List Text → Bool
are_options known [] = true
are_options known (option ∷ options) = is_among option known && not (is_among option options) && are_options known options

-- what the words behind a command with these options are
abbrev pub read_parts : List Text → List Text → Option (List Part)
read_parts known words = option_and_then (λ parts. if are_options known (options_of parts) then Some parts else None) (parts_of None words)
