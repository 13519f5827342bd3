-- Where no number of an item is out of range, each that is asked for is in the range of its role.
use Rattle.std.proofs.Common.{◌≡◌, ◌≤◌, ◌==◌, ℕ, Bool, true, false, ◌&&◌, List, [], ◌∷◌, Some, None, refl, arith, leb, cond, ◌<◌, ◌⊎◌, inl, inr}
use Rattle.std.proofs.lemmas.Bool.{eqb-true, leb-true, le-leb}
use Rattle.std.proofs.lemmas.Bool.Decides.{leb_tells}
use Rattle.std.specs.List.{find}
use Rattle.std.specs.Option.{option_map_or}
use Rattle.std.specs.Prelude.{nat_le}
use Rattle.dm_schema.specs.declared.column.Kind.{Kind}
use Rattle.dm_schema.specs.declared.column.Kind.TheVariants as kind
use Rattle.dm_schema.specs.Kinds.{is_kind, is_integer_size}
use Rattle.dm_syntax.specs.declared.terminal.TheConstants as terminal
use Rattle.dm_syntax.specs.declared.piece.Piece.{Piece}
use Rattle.dm_syntax.specs.declared.role.TheConstants as role
use Rattle.dm_syntax.specs.Pieces.{first_with, has_role}
use Rattle.dm_ddl.specs.Bounds.{number_in, number_or, precision_in, is_in_range, is_out_of_range, excess_in}
use Rattle.dm_ddl.specs.Types.{integer_kind, kind_of_word}

-- a number of a role, if there is a piece that it is of, is in range
found_in_range : (text : List ℕ) (precision its_role other : ℕ) (item : List Piece) → find (is_out_of_range text precision) item ≡ None
    → is_in_range precision its_role other ≡ true → is_in_range precision its_role (option_map_or (number_in text) (first_with its_role item) other) ≡ true
found_in_range text precision its_role other [] none here = here
found_in_range text precision its_role other (p ∷ ps) none here = by (p.role == its_role) refl (is_in_range precision p.role (number_in text p)) refl none (λ rest. found_in_range text precision its_role other ps rest here) where
  by : (same : Bool) → (p.role == its_role) ≡ same → (fits : Bool) → is_in_range precision p.role (number_in text p) ≡ fits → find (is_out_of_range text precision) (p ∷ ps) ≡ None
      → (find (is_out_of_range text precision) ps ≡ None → is_in_range precision its_role (option_map_or (number_in text) (first_with its_role ps) other) ≡ true)
      → is_in_range precision its_role (option_map_or (number_in text) (first_with its_role (p ∷ ps)) other) ≡ true
  by true e true f none rest = let same : p.role ≡ its_role = eqb-true _ _ e in rw (e, ← same) f
  by false e true f none rest = rw e (rest (rw f at none))
  by same e false f none rest = let some : Some p ≡ None = rw f at none in absurd cc

zero_within : (n : ℕ) → nat_le 0 n ≡ true
zero_within n = le-leb 0 n (omega arith)

behind_and : (a b : ℕ) → (nat_le 1 a && nat_le a b) ≡ true → a ≤ b
behind_and a b e = by (leb_tells 1 a) where
  by : ((leb 1 a ≡ true) × (1 ≤ a)) ⊎ ((leb 1 a ≡ false) × (a < 1)) → a ≤ b
  by (inl l) = leb-true a b (rw l.0 at e)
  by (inr r) = omega arith

pub number_in_range : (text : List ℕ) (its_role other : ℕ) (item : List Piece) → excess_in text item ≡ None
    → is_in_range (precision_in text item) its_role other ≡ true → is_in_range (precision_in text item) its_role (number_or text its_role other item) ≡ true
number_in_range text its_role other item none here = found_in_range text (precision_in text item) its_role other item none here

either_kind : (t : Bool) (a b : Kind) → is_kind a ≡ true → is_kind b ≡ true → is_kind (cond t a b) ≡ true
either_kind true a b x y = x
either_kind false a b x y = y

integer_formed : (size : ℕ) (item : List Piece) → is_integer_size size ≡ true → is_kind (integer_kind size item) ≡ true
integer_formed size item e = either_kind (has_role role.UNSIGNED item) (kind.Unsigned size) (kind.Signed size) e e

-- the kind of a column whose numbers are in range is one
pub kind_formed : (text : List ℕ) (item : List Piece) (word : ℕ) → excess_in text item ≡ None → is_kind (kind_of_word text item word) ≡ true
kind_formed text item word none =
    let chars : is_kind (kind.Char (number_or text role.CHAR_LENGTH 1 item)) ≡ true = number_in_range text role.CHAR_LENGTH 1 item none refl in
    let fraction : is_kind (kind.Datetime (number_or text role.FRACTION 0 item)) ≡ true = number_in_range text role.FRACTION 0 item none refl in
    let precision : (nat_le 1 (precision_in text item) && nat_le (precision_in text item) 38) ≡ true = number_in_range text role.PRECISION 10 item none refl in
    let scale : nat_le (number_or text role.SCALE 0 item) (precision_in text item) ≡ true = number_in_range text role.SCALE 0 item none (zero_within _) in
    let decimal : is_kind (kind.Decimal (precision_in text item) (number_or text role.SCALE 0 item)) ≡ true = rw (precision, scale) refl in
    either_kind (word == terminal.TINYINT) (integer_kind 1 item) _ (integer_formed 1 item refl)
    (either_kind (word == terminal.SMALLINT) (integer_kind 2 item) _ (integer_formed 2 item refl)
    (either_kind (word == terminal.MEDIUMINT) (integer_kind 3 item) _ (integer_formed 3 item refl)
    (either_kind (word == terminal.INT) (integer_kind 4 item) _ (integer_formed 4 item refl)
    (either_kind (word == terminal.BIGINT) (integer_kind 8 item) _ (integer_formed 8 item refl)
    (either_kind (word == terminal.BOOL) (kind.Signed 1) _ refl
    (either_kind (word == terminal.DECIMAL) (kind.Decimal (precision_in text item) (number_or text role.SCALE 0 item)) _ decimal
    (either_kind (word == terminal.CHAR) (kind.Char (number_or text role.CHAR_LENGTH 1 item)) _ chars
    (either_kind (word == terminal.BINARY) (kind.Binary (number_or text role.CHAR_LENGTH 1 item)) _ chars
    (either_kind (word == terminal.VARCHAR) (kind.Varchar (number_or text role.STRING_LENGTH 0 item)) _ refl
    (either_kind (word == terminal.VARBINARY) (kind.Varbinary (number_or text role.STRING_LENGTH 0 item)) _ refl
    (either_kind (word == terminal.TINYTEXT) (kind.Text 1) _ refl
    (either_kind (word == terminal.TEXT) (kind.Text 2) _ refl
    (either_kind (word == terminal.MEDIUMTEXT) (kind.Text 3) _ refl
    (either_kind (word == terminal.LONGTEXT) (kind.Text 4) _ refl
    (either_kind (word == terminal.TINYBLOB) (kind.Blob 1) _ refl
    (either_kind (word == terminal.BLOB) (kind.Blob 2) _ refl
    (either_kind (word == terminal.MEDIUMBLOB) (kind.Blob 3) _ refl
    (either_kind (word == terminal.LONGBLOB) (kind.Blob 4) _ refl
    (either_kind (word == terminal.DATE) (kind.Date) _ refl
    (either_kind (word == terminal.YEAR) (kind.Year) _ refl
    (either_kind (word == terminal.DATETIME) (kind.Datetime (number_or text role.FRACTION 0 item)) _ fraction
    fraction)))))))))))))))))))))

-- A number in range fits where it is held.

pub chars_few : (text : List ℕ) (item : List Piece) → excess_in text item ≡ None → number_or text role.CHAR_LENGTH 1 item ≤ 255
chars_few text item none = leb-true _ _ (number_in_range text role.CHAR_LENGTH 1 item none refl)

pub string_few : (text : List ℕ) (item : List Piece) → excess_in text item ≡ None → number_or text role.STRING_LENGTH 0 item ≤ 65535
string_few text item none = leb-true _ _ (number_in_range text role.STRING_LENGTH 0 item none refl)

pub fraction_few : (text : List ℕ) (item : List Piece) → excess_in text item ≡ None → number_or text role.FRACTION 0 item ≤ 6
fraction_few text item none = leb-true _ _ (number_in_range text role.FRACTION 0 item none refl)

pub precision_few : (text : List ℕ) (item : List Piece) → excess_in text item ≡ None → number_or text role.PRECISION 10 item ≤ 38
precision_few text item none = behind_and _ 38 (number_in_range text role.PRECISION 10 item none refl)

pub scale_few : (text : List ℕ) (item : List Piece) → excess_in text item ≡ None → number_or text role.SCALE 0 item ≤ 38
scale_few text item none =
    let scale : number_or text role.SCALE 0 item ≤ number_or text role.PRECISION 10 item = leb-true _ _ (number_in_range text role.SCALE 0 item none (zero_within _)) in
    let precision = precision_few text item none in
    omega arith
