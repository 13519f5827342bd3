-- A row image: a bitmap of the columns that are NULL, and the bytes of the others, one behind another.
use Rattle.std.specs.Prelude.{ℕ, List, [], ◌∷◌, ◌++◌, map}
use Rattle.dm_value.specs.declared.value.Value.{Value}
use Rattle.dm_schema.specs.declared.column.Column.{Column}
use Rattle.dm_schema.specs.Kinds.{is_null}
use Rattle.dm_encode.specs.Bitmaps.{bitmap}
use Rattle.dm_encode.specs.Values.{spelled_value}

-- the bytes of each value; NULL has none
abbrev pub spelled_values : List Column → List Value → List ℕ
spelled_values [] row = []
spelled_values (c ∷ cs) [] = []
spelled_values (c ∷ cs) (v ∷ vs) = spelled_value c.kind v ++ spelled_values cs vs

-- which values are NULL, and the values
abbrev pub row_image : List Column → List Value → List ℕ
row_image columns row = bitmap (map is_null row) ++ spelled_values columns row
