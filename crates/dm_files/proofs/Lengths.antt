-- The bytes of files whose places have 32 bits.
use Rattle.std.proofs.Common.{◌≡◌, ℕ, zero, suc, ◌^◌, ◌<◌, true, ltb, List, [], ◌∷◌, length, arith}
use Rattle.std.proofs.lemmas.Bool.{and_parts, ltb-true}
use Rattle.dm_files.specs.declared.files.NamedFile.{NamedFile}
use Rattle.dm_files.specs.Files.{bytes_of, are_short}

pub short_bytes : (files : List NamedFile) (number : ℕ) → are_short files ≡ true → length (bytes_of files number) < 2 ^ 32
short_bytes [] number h = omega arith
short_bytes (f ∷ fs) zero h = ltb-true (length f.bytes) (2 ^ 32) (and_parts (ltb (length f.bytes) (2 ^ 32)) (are_short fs) h).0
short_bytes (f ∷ fs) (suc n) h = short_bytes fs n (and_parts (ltb (length f.bytes) (2 ^ 32)) (are_short fs) h).1
