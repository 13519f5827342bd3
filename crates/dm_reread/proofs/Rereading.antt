-- Whole texts: their tokens, and what those are read as.
use Rattle.std.proofs.Common.{◌≡◌, ℕ, Bool, true, List, [], ◌∷◌, refl, sym, ap, ◌∙◌, subst, append-nil}
use Rattle.std.specs.List.{list_all}
use Rattle.dm_value.specs.declared.value.Value.{Value}
use Rattle.dm_schema.specs.declared.column.Kind.{Kind}
use Rattle.dm_schema.specs.Layout.{Layout}
use Rattle.dm_schema.specs.Kinds.{is_kind}
use Rattle.dm_schema.specs.Fits.{fits_by}
use Rattle.dm_text.specs.Names.{quoted}
use Rattle.dm_text.specs.Columns.{create_text}
use Rattle.dm_text.specs.Values.{value_text}
use Rattle.dm_reread.specs.Parts.{Part, text_of, is_spelled, has_bytes, default_has_bytes, name_item, value_parts, create_parts}
use Rattle.dm_reread.specs.Read.{HasTokens, IsReread}
use Rattle.dm_reread.proofs.Composing.{text_has_tokens, tokens_at_are_spelled}
use Rattle.dm_reread.proofs.Written.{name_is_written, value_is_written, create_is_written}
use Rattle.dm_reread.proofs.Spelled.{name_is_spelled, value_is_spelled, create_is_spelled}
use Rattle.dm_reread.proofs.Reading.{value_is_read}

pub spelled_has_tokens : (text : List ℕ) (parts : List Part) → text_of parts ≡ text → is_spelled parts ≡ true → HasTokens text parts
spelled_has_tokens text parts is spells =
    subst (λ (xs : List ℕ). HasTokens xs parts) is (text_has_tokens parts spells, tokens_at_are_spelled (text_of parts) 0 parts [] (sym (append-nil (text_of parts))))

pub value_is_reread : (k : Kind) (nullable : Bool) (v : Value) → is_kind k ≡ true → fits_by k nullable v ≡ true → has_bytes v ≡ true → IsReread k v
value_is_reread k nullable v is fits bytes =
    (value_parts k v, spelled_has_tokens (value_text k v) (value_parts k v) (value_is_written k v) (value_is_spelled k v [] bytes refl), value_is_read k nullable v is fits bytes)

pub create_has_tokens : (name : List ℕ) (layout : Layout) → list_all default_has_bytes layout.columns ≡ true → HasTokens (create_text (quoted name) layout) (create_parts (name_item name) layout)
create_has_tokens name layout bytes =
    spelled_has_tokens (create_text (quoted name) layout) (create_parts (name_item name) layout)
    (create_is_written (name_item name) layout ∙ ap (λ (xs : List ℕ). create_text xs layout) (name_is_written name))
    (create_is_spelled (name_item name) layout [] (λ more. name_is_spelled name (32 ∷ more) refl) bytes)
