-- A slice's type tells the range of its bytes.
use Rattle.std.proofs.Common.{◌≡◌, ℕ, suc, ◌<◌, true, List, [], ◌∷◌, get_or, refl, ltb, lt-ltb, Fits, w8, arith}
use Rattle.std.proofs.lemmas.Bool.{and_from}
use Rattle.dm_reread.specs.Parts.{are_bytes}
use Rattle.dm_reread.proofs.bytes.slice_bytes.Goals as goal

all_fit : (bytes : List ℕ) → ((i : ℕ) → Fits w8 (get_or bytes i 0)) → are_bytes bytes ≡ true
all_fit [] fit = refl
all_fit (b ∷ bytes) fit =
    let range : Fits w8 b = fit 0 in
    let first : b < 256 = omega (arith, range) in
    and_from (ltb b 256) (are_bytes bytes) (lt-ltb b 256 first) (all_fit bytes (λ i. fit (suc i)))

pub returns : goal.returns
returns c = all_fit c.args.bytes.now c.type_inv.bytes
