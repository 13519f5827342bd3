-- Tokens that are written in turn.
use Rattle.std.proofs.Common.{◌≡◌, List, ◌++◌, append_assoc}
use Rattle.json.specs.Token.{Token}

pub in_turn : (start first second third fourth last : List Token) (t1 t2 t3 t4 t5 : List Token) → t1 ≡ start ++ first → t2 ≡ t1 ++ second → t3 ≡ t2 ++ third → t4 ≡ t3 ++ fourth → t5 ≡ t4 ++ last
    → t5 ≡ start ++ (first ++ (second ++ (third ++ (fourth ++ last))))
in_turn start first second third fourth last t1 t2 t3 t4 t5 one two three four five = rw (five, four, three, two, one) (simp append_assoc)
