-- The value that a text is.
use Rattle.std.proofs.Common.{◌≡◌, Bool, true, false, cond, Some, None, refl}
use Rattle.std.specs.Prelude.{IsUtf8}
use Rattle.std.specs.Str.{is_utf8}
use Rattle.std.proofs.lemmas.Str.{IsUtf8-from_is_utf8, is_utf8-from_IsUtf8}
use Rattle.json.specs.Json.{Json, document}
use Rattle.dm_meta.specs.Texts.{Text, value_of}

pub value_read : (text : Text) (value : Json) → IsUtf8 text → document text ≡ Some value → value_of text ≡ Some value
value_read text value utf8 read = rw (is_utf8-from_IsUtf8 text utf8) read

pub no_value : (text : Text) → (IsUtf8 text → document text ≡ None) → value_of text ≡ None
no_value text none = by (is_utf8 text) (λ yes. none (IsUtf8-from_is_utf8 text yes)) where
  by : (test : Bool) → (test ≡ true → document text ≡ None) → cond test (document text) None ≡ None
  by true none = none refl
  by false none = refl
