-- What the words of a command line ask for.
use Rattle.std.specs.Prelude.{ℕ, ◌+◌, ◌*◌, ◌-◌, nat_le, Bool, true, false, ◌&&◌, ◌==◌, List, [], ◌∷◌, length, fold, codes, Option, Some, None, option_and_then, option_map, if◌then◌else◌}
use Rattle.std.specs.List.{list_all}
use Rattle.std.specs.Str.{bytes_eq}
use Rattle.dm_words.specs.declared.order.Order.{Order}
use Rattle.dm_words.specs.declared.order.Order.TheVariants.{Load, CheckTask, Run, Show, Gen}
use Rattle.dm_words.specs.declared.order.WordFault.{WordFault}
use Rattle.dm_words.specs.declared.order.WordFault.TheVariants.{Usage, Memory}
use Rattle.dm_words.specs.Parts.{Text, Part, names_of, value_of, read_parts}

abbrev pub is_digit : ℕ → Bool
is_digit byte = nat_le 48 byte && nat_le byte 57

-- the number that digits write in base ten
abbrev pub value_of_digits : Text → ℕ
value_of_digits digits = fold (λ number digit. 10 * number + (digit - 48)) 0 digits

abbrev pub are_digits : Text → Bool
are_digits text = nat_le 1 (length text) && nat_le (length text) 10 && list_all is_digit text

-- a number of 1 to 10 digits, from `least` to `most`
abbrev pub number_in : ℕ → ℕ → Text → Option ℕ
number_in least most text =
    if are_digits text && nat_le least (value_of_digits text) && nat_le (value_of_digits text) most then Some (value_of_digits text) else None

abbrev pub optional_number : ℕ → ℕ → Option Text → Option (Option ℕ)
optional_number least most None = Some None
optional_number least most (Some text) = option_map (λ number. Some number) (number_in least most text)

-- the number that is given for an option, if one is; nothing where it is none or is out of the range
abbrev pub number_of : Text → ℕ → ℕ → List Part → Option (Option ℕ)
number_of option least most parts = optional_number least most (value_of option parts)

-- the one name
abbrev pub only_name : List Text → Option Text
only_name (name ∷ []) = Some name
only_name _ = None

infixl 10 ◌>>=◌
abbrev pub ◌>>=◌ : {A B : Type 0} → Option A → (A → Option B) → Option B
(option >>= next) = option_and_then next option

abbrev pub load_order : List Text → Option Order
load_order names = if nat_le 1 (length names) && nat_le (length names) 64 then Some (Load names) else None

abbrev pub load_of : List Text → Option Order
load_of words = read_parts [] words >>= λ parts. load_order (names_of parts)

abbrev pub check_task_of : List Text → Option Order
check_task_of words = read_parts [] words >>= λ parts. only_name (names_of parts) >>= λ file. Some (CheckTask file)

abbrev pub run_order : List Part → Text → Option Order
run_order parts file =
    number_of (codes "limit") 0 4294967295 parts >>= λ limit.
    number_of (codes "workers") 1 32 parts >>= λ workers.
    number_of (codes "stop-after") 1 4294967295 parts >>= λ stop_after.
    Some (Run file limit workers stop_after)

abbrev pub run_of : List Text → Option Order
run_of words = read_parts (codes "limit" ∷ codes "workers" ∷ codes "stop-after" ∷ []) words >>= λ parts. only_name (names_of parts) >>= run_order parts

abbrev pub show_order : List Text → Option Order
show_order names = if length names == 0 then Some Show else None

abbrev pub show_of : List Text → Option Order
show_of words = read_parts [] words >>= λ parts. show_order (names_of parts)

abbrev pub gen_order : List Part → Text → Option Order
gen_order parts name =
    number_in 0 4294967295 name >>= λ number.
    number_of (codes "workers") 1 32 parts >>= λ workers.
    Some (Gen number workers)

abbrev pub gen_of : List Text → Option Order
gen_of words = read_parts (codes "workers" ∷ []) words >>= λ parts. only_name (names_of parts) >>= gen_order parts

-- what the words ask for; nothing where they are wrong
abbrev pub order_of : List Text → Option Order
order_of [] = None
order_of (command ∷ words) =
    if bytes_eq command (codes "load") then load_of words
    else if bytes_eq command (codes "check-task") then check_task_of words
    else if bytes_eq command (codes "run") then run_of words
    else if bytes_eq command (codes "show") then show_of words
    else if bytes_eq command (codes "gen") then gen_of words
    else None

-- the files that an order names
abbrev pub files_of : Order → List Text
files_of (Load files) = files
files_of (CheckTask file) = file ∷ []
files_of (Run file limit workers stop_after) = file ∷ []
files_of Show = []
files_of (Gen number workers) = []

abbrev pub is_memory : WordFault → Bool
is_memory Usage = false
is_memory Memory = true
