-- The set of kinds that a filter has, as its kinds are asked: it has those that were named, and no others.
use Rattle.std.proofs.Common.{◌≡◌, ℕ, ◌+◌, ◌*◌, ◌/◌, ◌%◌, ◌<◌, ◌≤◌, Bool, true, false, cond, List, refl, arith, eqb}
use Rattle.std.specs.List.{list_any}
use Rattle.dm_route.specs.declared.event_kind.EventKind.{EventKind}
use Rattle.dm_route.specs.declared.event_kind.EventKind.TheVariants as kind
use Rattle.dm_route.specs.Rules.{has_kind}
use Rattle.dm_task.specs.Texts.{same_kind, set_of}

-- a bit of a number, above a rest that is lower and below one that is higher
bit_1 : (low high : ℕ) (b : Bool) → low < 1 → eqb ((low + cond b 1 0 + 2 * high) / 1 % 2) 1 ≡ b
bit_1 low high true small = let e : (low + 1 + 2 * high) / 1 % 2 ≡ 1 = omega arith in rw e refl
bit_1 low high false small = let e : (low + 0 + 2 * high) / 1 % 2 ≡ 0 = omega arith in rw e refl

bit_2 : (low high : ℕ) (b : Bool) → low < 2 → eqb ((low + cond b 2 0 + 4 * high) / 2 % 2) 1 ≡ b
bit_2 low high true small = let e : (low + 2 + 4 * high) / 2 % 2 ≡ 1 = omega arith in rw e refl
bit_2 low high false small = let e : (low + 0 + 4 * high) / 2 % 2 ≡ 0 = omega arith in rw e refl

bit_4 : (low high : ℕ) (b : Bool) → low < 4 → eqb ((low + cond b 4 0 + 8 * high) / 4 % 2) 1 ≡ b
bit_4 low high true small = let e : (low + 4 + 8 * high) / 4 % 2 ≡ 1 = omega arith in rw e refl
bit_4 low high false small = let e : (low + 0 + 8 * high) / 4 % 2 ≡ 0 = omega arith in rw e refl

bit_8 : (low high : ℕ) (b : Bool) → low < 8 → eqb ((low + cond b 8 0 + 16 * high) / 8 % 2) 1 ≡ b
bit_8 low high true small = let e : (low + 8 + 16 * high) / 8 % 2 ≡ 1 = omega arith in rw e refl
bit_8 low high false small = let e : (low + 0 + 16 * high) / 8 % 2 ≡ 0 = omega arith in rw e refl

bit_16 : (low high : ℕ) (b : Bool) → low < 16 → eqb ((low + cond b 16 0 + 32 * high) / 16 % 2) 1 ≡ b
bit_16 low high true small = let e : (low + 16 + 32 * high) / 16 % 2 ≡ 1 = omega arith in rw e refl
bit_16 low high false small = let e : (low + 0 + 32 * high) / 16 % 2 ≡ 0 = omega arith in rw e refl

bit_32 : (low high : ℕ) (b : Bool) → low < 32 → eqb ((low + cond b 32 0 + 64 * high) / 32 % 2) 1 ≡ b
bit_32 low high true small = let e : (low + 32 + 64 * high) / 32 % 2 ≡ 1 = omega arith in rw e refl
bit_32 low high false small = let e : (low + 0 + 64 * high) / 32 % 2 ≡ 0 = omega arith in rw e refl

bit_64 : (low high : ℕ) (b : Bool) → low < 64 → eqb ((low + cond b 64 0 + 128 * high) / 64 % 2) 1 ≡ b
bit_64 low high true small = let e : (low + 64 + 128 * high) / 64 % 2 ≡ 1 = omega arith in rw e refl
bit_64 low high false small = let e : (low + 0 + 128 * high) / 64 % 2 ≡ 0 = omega arith in rw e refl

bit_128 : (low high : ℕ) (b : Bool) → low < 128 → eqb ((low + cond b 128 0 + 256 * high) / 128 % 2) 1 ≡ b
bit_128 low high true small = let e : (low + 128 + 256 * high) / 128 % 2 ≡ 1 = omega arith in rw e refl
bit_128 low high false small = let e : (low + 0 + 256 * high) / 128 % 2 ≡ 0 = omega arith in rw e refl

bit_256 : (low high : ℕ) (b : Bool) → low < 256 → eqb ((low + cond b 256 0 + 512 * high) / 256 % 2) 1 ≡ b
bit_256 low high true small = let e : (low + 256 + 512 * high) / 256 % 2 ≡ 1 = omega arith in rw e refl
bit_256 low high false small = let e : (low + 0 + 512 * high) / 256 % 2 ≡ 0 = omega arith in rw e refl

bit_512 : (low high : ℕ) (b : Bool) → low < 512 → eqb ((low + cond b 512 0 + 1024 * high) / 512 % 2) 1 ≡ b
bit_512 low high true small = let e : (low + 512 + 1024 * high) / 512 % 2 ≡ 1 = omega arith in rw e refl
bit_512 low high false small = let e : (low + 0 + 1024 * high) / 512 % 2 ≡ 0 = omega arith in rw e refl

at_most : (b : Bool) (n : ℕ) → cond b n 0 ≤ n
at_most true n = omega arith
at_most false n = omega arith

scaled : (b : Bool) (m n : ℕ) → cond b (m * n) 0 ≡ m * cond b n 0
scaled true m n = refl
scaled false m n = omega arith

has_1 : (a b c d e f g h i j : Bool) → eqb ((cond a 1 0 + cond b 2 0 + cond c 4 0 + cond d 8 0 + cond e 16 0 + cond f 32 0 + cond g 64 0 + cond h 128 0 + cond i 256 0 + cond j 512 0) / 1 % 2) 1 ≡ a
has_1 a b c d e f g h i j =
    let same : cond a 1 0 + cond b 2 0 + cond c 4 0 + cond d 8 0 + cond e 16 0 + cond f 32 0 + cond g 64 0 + cond h 128 0 + cond i 256 0 + cond j 512 0 ≡ (0) + cond a 1 0 + 2 * (cond b 1 0 + cond c 2 0 + cond d 4 0 + cond e 8 0 + cond f 16 0 + cond g 32 0 + cond h 64 0 + cond i 128 0 + cond j 256 0) = omega (arith, scaled b 2 1, scaled c 2 2, scaled d 2 4, scaled e 2 8, scaled f 2 16, scaled g 2 32, scaled h 2 64, scaled i 2 128, scaled j 2 256) in
    let small : 0 < 1 = omega (arith) in
    rw same (bit_1 (0) (cond b 1 0 + cond c 2 0 + cond d 4 0 + cond e 8 0 + cond f 16 0 + cond g 32 0 + cond h 64 0 + cond i 128 0 + cond j 256 0) a small)

has_2 : (a b c d e f g h i j : Bool) → eqb ((cond a 1 0 + cond b 2 0 + cond c 4 0 + cond d 8 0 + cond e 16 0 + cond f 32 0 + cond g 64 0 + cond h 128 0 + cond i 256 0 + cond j 512 0) / 2 % 2) 1 ≡ b
has_2 a b c d e f g h i j =
    let same : cond a 1 0 + cond b 2 0 + cond c 4 0 + cond d 8 0 + cond e 16 0 + cond f 32 0 + cond g 64 0 + cond h 128 0 + cond i 256 0 + cond j 512 0 ≡ (cond a 1 0) + cond b 2 0 + 4 * (cond c 1 0 + cond d 2 0 + cond e 4 0 + cond f 8 0 + cond g 16 0 + cond h 32 0 + cond i 64 0 + cond j 128 0) = omega (arith, scaled c 4 1, scaled d 4 2, scaled e 4 4, scaled f 4 8, scaled g 4 16, scaled h 4 32, scaled i 4 64, scaled j 4 128) in
    let small : cond a 1 0 < 2 = omega (arith, at_most a 1) in
    rw same (bit_2 (cond a 1 0) (cond c 1 0 + cond d 2 0 + cond e 4 0 + cond f 8 0 + cond g 16 0 + cond h 32 0 + cond i 64 0 + cond j 128 0) b small)

has_4 : (a b c d e f g h i j : Bool) → eqb ((cond a 1 0 + cond b 2 0 + cond c 4 0 + cond d 8 0 + cond e 16 0 + cond f 32 0 + cond g 64 0 + cond h 128 0 + cond i 256 0 + cond j 512 0) / 4 % 2) 1 ≡ c
has_4 a b c d e f g h i j =
    let same : cond a 1 0 + cond b 2 0 + cond c 4 0 + cond d 8 0 + cond e 16 0 + cond f 32 0 + cond g 64 0 + cond h 128 0 + cond i 256 0 + cond j 512 0 ≡ (cond a 1 0 + cond b 2 0) + cond c 4 0 + 8 * (cond d 1 0 + cond e 2 0 + cond f 4 0 + cond g 8 0 + cond h 16 0 + cond i 32 0 + cond j 64 0) = omega (arith, scaled d 8 1, scaled e 8 2, scaled f 8 4, scaled g 8 8, scaled h 8 16, scaled i 8 32, scaled j 8 64) in
    let small : cond a 1 0 + cond b 2 0 < 4 = omega (arith, at_most a 1, at_most b 2) in
    rw same (bit_4 (cond a 1 0 + cond b 2 0) (cond d 1 0 + cond e 2 0 + cond f 4 0 + cond g 8 0 + cond h 16 0 + cond i 32 0 + cond j 64 0) c small)

has_8 : (a b c d e f g h i j : Bool) → eqb ((cond a 1 0 + cond b 2 0 + cond c 4 0 + cond d 8 0 + cond e 16 0 + cond f 32 0 + cond g 64 0 + cond h 128 0 + cond i 256 0 + cond j 512 0) / 8 % 2) 1 ≡ d
has_8 a b c d e f g h i j =
    let same : cond a 1 0 + cond b 2 0 + cond c 4 0 + cond d 8 0 + cond e 16 0 + cond f 32 0 + cond g 64 0 + cond h 128 0 + cond i 256 0 + cond j 512 0 ≡ (cond a 1 0 + cond b 2 0 + cond c 4 0) + cond d 8 0 + 16 * (cond e 1 0 + cond f 2 0 + cond g 4 0 + cond h 8 0 + cond i 16 0 + cond j 32 0) = omega (arith, scaled e 16 1, scaled f 16 2, scaled g 16 4, scaled h 16 8, scaled i 16 16, scaled j 16 32) in
    let small : cond a 1 0 + cond b 2 0 + cond c 4 0 < 8 = omega (arith, at_most a 1, at_most b 2, at_most c 4) in
    rw same (bit_8 (cond a 1 0 + cond b 2 0 + cond c 4 0) (cond e 1 0 + cond f 2 0 + cond g 4 0 + cond h 8 0 + cond i 16 0 + cond j 32 0) d small)

has_16 : (a b c d e f g h i j : Bool) → eqb ((cond a 1 0 + cond b 2 0 + cond c 4 0 + cond d 8 0 + cond e 16 0 + cond f 32 0 + cond g 64 0 + cond h 128 0 + cond i 256 0 + cond j 512 0) / 16 % 2) 1 ≡ e
has_16 a b c d e f g h i j =
    let same : cond a 1 0 + cond b 2 0 + cond c 4 0 + cond d 8 0 + cond e 16 0 + cond f 32 0 + cond g 64 0 + cond h 128 0 + cond i 256 0 + cond j 512 0 ≡ (cond a 1 0 + cond b 2 0 + cond c 4 0 + cond d 8 0) + cond e 16 0 + 32 * (cond f 1 0 + cond g 2 0 + cond h 4 0 + cond i 8 0 + cond j 16 0) = omega (arith, scaled f 32 1, scaled g 32 2, scaled h 32 4, scaled i 32 8, scaled j 32 16) in
    let small : cond a 1 0 + cond b 2 0 + cond c 4 0 + cond d 8 0 < 16 = omega (arith, at_most a 1, at_most b 2, at_most c 4, at_most d 8) in
    rw same (bit_16 (cond a 1 0 + cond b 2 0 + cond c 4 0 + cond d 8 0) (cond f 1 0 + cond g 2 0 + cond h 4 0 + cond i 8 0 + cond j 16 0) e small)

has_32 : (a b c d e f g h i j : Bool) → eqb ((cond a 1 0 + cond b 2 0 + cond c 4 0 + cond d 8 0 + cond e 16 0 + cond f 32 0 + cond g 64 0 + cond h 128 0 + cond i 256 0 + cond j 512 0) / 32 % 2) 1 ≡ f
has_32 a b c d e f g h i j =
    let same : cond a 1 0 + cond b 2 0 + cond c 4 0 + cond d 8 0 + cond e 16 0 + cond f 32 0 + cond g 64 0 + cond h 128 0 + cond i 256 0 + cond j 512 0 ≡ (cond a 1 0 + cond b 2 0 + cond c 4 0 + cond d 8 0 + cond e 16 0) + cond f 32 0 + 64 * (cond g 1 0 + cond h 2 0 + cond i 4 0 + cond j 8 0) = omega (arith, scaled g 64 1, scaled h 64 2, scaled i 64 4, scaled j 64 8) in
    let small : cond a 1 0 + cond b 2 0 + cond c 4 0 + cond d 8 0 + cond e 16 0 < 32 = omega (arith, at_most a 1, at_most b 2, at_most c 4, at_most d 8, at_most e 16) in
    rw same (bit_32 (cond a 1 0 + cond b 2 0 + cond c 4 0 + cond d 8 0 + cond e 16 0) (cond g 1 0 + cond h 2 0 + cond i 4 0 + cond j 8 0) f small)

has_64 : (a b c d e f g h i j : Bool) → eqb ((cond a 1 0 + cond b 2 0 + cond c 4 0 + cond d 8 0 + cond e 16 0 + cond f 32 0 + cond g 64 0 + cond h 128 0 + cond i 256 0 + cond j 512 0) / 64 % 2) 1 ≡ g
has_64 a b c d e f g h i j =
    let same : cond a 1 0 + cond b 2 0 + cond c 4 0 + cond d 8 0 + cond e 16 0 + cond f 32 0 + cond g 64 0 + cond h 128 0 + cond i 256 0 + cond j 512 0 ≡ (cond a 1 0 + cond b 2 0 + cond c 4 0 + cond d 8 0 + cond e 16 0 + cond f 32 0) + cond g 64 0 + 128 * (cond h 1 0 + cond i 2 0 + cond j 4 0) = omega (arith, scaled h 128 1, scaled i 128 2, scaled j 128 4) in
    let small : cond a 1 0 + cond b 2 0 + cond c 4 0 + cond d 8 0 + cond e 16 0 + cond f 32 0 < 64 = omega (arith, at_most a 1, at_most b 2, at_most c 4, at_most d 8, at_most e 16, at_most f 32) in
    rw same (bit_64 (cond a 1 0 + cond b 2 0 + cond c 4 0 + cond d 8 0 + cond e 16 0 + cond f 32 0) (cond h 1 0 + cond i 2 0 + cond j 4 0) g small)

has_128 : (a b c d e f g h i j : Bool) → eqb ((cond a 1 0 + cond b 2 0 + cond c 4 0 + cond d 8 0 + cond e 16 0 + cond f 32 0 + cond g 64 0 + cond h 128 0 + cond i 256 0 + cond j 512 0) / 128 % 2) 1 ≡ h
has_128 a b c d e f g h i j =
    let same : cond a 1 0 + cond b 2 0 + cond c 4 0 + cond d 8 0 + cond e 16 0 + cond f 32 0 + cond g 64 0 + cond h 128 0 + cond i 256 0 + cond j 512 0 ≡ (cond a 1 0 + cond b 2 0 + cond c 4 0 + cond d 8 0 + cond e 16 0 + cond f 32 0 + cond g 64 0) + cond h 128 0 + 256 * (cond i 1 0 + cond j 2 0) = omega (arith, scaled i 256 1, scaled j 256 2) in
    let small : cond a 1 0 + cond b 2 0 + cond c 4 0 + cond d 8 0 + cond e 16 0 + cond f 32 0 + cond g 64 0 < 128 = omega (arith, at_most a 1, at_most b 2, at_most c 4, at_most d 8, at_most e 16, at_most f 32, at_most g 64) in
    rw same (bit_128 (cond a 1 0 + cond b 2 0 + cond c 4 0 + cond d 8 0 + cond e 16 0 + cond f 32 0 + cond g 64 0) (cond i 1 0 + cond j 2 0) h small)

has_256 : (a b c d e f g h i j : Bool) → eqb ((cond a 1 0 + cond b 2 0 + cond c 4 0 + cond d 8 0 + cond e 16 0 + cond f 32 0 + cond g 64 0 + cond h 128 0 + cond i 256 0 + cond j 512 0) / 256 % 2) 1 ≡ i
has_256 a b c d e f g h i j =
    let same : cond a 1 0 + cond b 2 0 + cond c 4 0 + cond d 8 0 + cond e 16 0 + cond f 32 0 + cond g 64 0 + cond h 128 0 + cond i 256 0 + cond j 512 0 ≡ (cond a 1 0 + cond b 2 0 + cond c 4 0 + cond d 8 0 + cond e 16 0 + cond f 32 0 + cond g 64 0 + cond h 128 0) + cond i 256 0 + 512 * (cond j 1 0) = omega (arith, scaled j 512 1) in
    let small : cond a 1 0 + cond b 2 0 + cond c 4 0 + cond d 8 0 + cond e 16 0 + cond f 32 0 + cond g 64 0 + cond h 128 0 < 256 = omega (arith, at_most a 1, at_most b 2, at_most c 4, at_most d 8, at_most e 16, at_most f 32, at_most g 64, at_most h 128) in
    rw same (bit_256 (cond a 1 0 + cond b 2 0 + cond c 4 0 + cond d 8 0 + cond e 16 0 + cond f 32 0 + cond g 64 0 + cond h 128 0) (cond j 1 0) i small)

has_512 : (a b c d e f g h i j : Bool) → eqb ((cond a 1 0 + cond b 2 0 + cond c 4 0 + cond d 8 0 + cond e 16 0 + cond f 32 0 + cond g 64 0 + cond h 128 0 + cond i 256 0 + cond j 512 0) / 512 % 2) 1 ≡ j
has_512 a b c d e f g h i j =
    let same : cond a 1 0 + cond b 2 0 + cond c 4 0 + cond d 8 0 + cond e 16 0 + cond f 32 0 + cond g 64 0 + cond h 128 0 + cond i 256 0 + cond j 512 0 ≡ (cond a 1 0 + cond b 2 0 + cond c 4 0 + cond d 8 0 + cond e 16 0 + cond f 32 0 + cond g 64 0 + cond h 128 0 + cond i 256 0) + cond j 512 0 + 1024 * (0) = omega (arith) in
    let small : cond a 1 0 + cond b 2 0 + cond c 4 0 + cond d 8 0 + cond e 16 0 + cond f 32 0 + cond g 64 0 + cond h 128 0 + cond i 256 0 < 512 = omega (arith, at_most a 1, at_most b 2, at_most c 4, at_most d 8, at_most e 16, at_most f 32, at_most g 64, at_most h 128, at_most i 256) in
    rw same (bit_512 (cond a 1 0 + cond b 2 0 + cond c 4 0 + cond d 8 0 + cond e 16 0 + cond f 32 0 + cond g 64 0 + cond h 128 0 + cond i 256 0) (0) j small)

among : List EventKind → EventKind → Bool
among kinds k = list_any (λ other. same_kind other k) kinds

pub set_has : (kinds : List EventKind) (k : EventKind) → has_kind (set_of kinds) k ≡ list_any (λ other. same_kind other k) kinds
unfolding among
set_has kinds kind.Insert = has_1 (among kinds kind.Insert) (among kinds kind.Update) (among kinds kind.Delete) (among kinds kind.CreateTable) (among kinds kind.AlterTable) (among kinds kind.CreateIndex) (among kinds kind.DropIndex) (among kinds kind.DropTable) (among kinds kind.Truncate) (among kinds kind.Rename)
set_has kinds kind.Update = has_2 (among kinds kind.Insert) (among kinds kind.Update) (among kinds kind.Delete) (among kinds kind.CreateTable) (among kinds kind.AlterTable) (among kinds kind.CreateIndex) (among kinds kind.DropIndex) (among kinds kind.DropTable) (among kinds kind.Truncate) (among kinds kind.Rename)
set_has kinds kind.Delete = has_4 (among kinds kind.Insert) (among kinds kind.Update) (among kinds kind.Delete) (among kinds kind.CreateTable) (among kinds kind.AlterTable) (among kinds kind.CreateIndex) (among kinds kind.DropIndex) (among kinds kind.DropTable) (among kinds kind.Truncate) (among kinds kind.Rename)
set_has kinds kind.CreateTable = has_8 (among kinds kind.Insert) (among kinds kind.Update) (among kinds kind.Delete) (among kinds kind.CreateTable) (among kinds kind.AlterTable) (among kinds kind.CreateIndex) (among kinds kind.DropIndex) (among kinds kind.DropTable) (among kinds kind.Truncate) (among kinds kind.Rename)
set_has kinds kind.AlterTable = has_16 (among kinds kind.Insert) (among kinds kind.Update) (among kinds kind.Delete) (among kinds kind.CreateTable) (among kinds kind.AlterTable) (among kinds kind.CreateIndex) (among kinds kind.DropIndex) (among kinds kind.DropTable) (among kinds kind.Truncate) (among kinds kind.Rename)
set_has kinds kind.CreateIndex = has_32 (among kinds kind.Insert) (among kinds kind.Update) (among kinds kind.Delete) (among kinds kind.CreateTable) (among kinds kind.AlterTable) (among kinds kind.CreateIndex) (among kinds kind.DropIndex) (among kinds kind.DropTable) (among kinds kind.Truncate) (among kinds kind.Rename)
set_has kinds kind.DropIndex = has_64 (among kinds kind.Insert) (among kinds kind.Update) (among kinds kind.Delete) (among kinds kind.CreateTable) (among kinds kind.AlterTable) (among kinds kind.CreateIndex) (among kinds kind.DropIndex) (among kinds kind.DropTable) (among kinds kind.Truncate) (among kinds kind.Rename)
set_has kinds kind.DropTable = has_128 (among kinds kind.Insert) (among kinds kind.Update) (among kinds kind.Delete) (among kinds kind.CreateTable) (among kinds kind.AlterTable) (among kinds kind.CreateIndex) (among kinds kind.DropIndex) (among kinds kind.DropTable) (among kinds kind.Truncate) (among kinds kind.Rename)
set_has kinds kind.Truncate = has_256 (among kinds kind.Insert) (among kinds kind.Update) (among kinds kind.Delete) (among kinds kind.CreateTable) (among kinds kind.AlterTable) (among kinds kind.CreateIndex) (among kinds kind.DropIndex) (among kinds kind.DropTable) (among kinds kind.Truncate) (among kinds kind.Rename)
set_has kinds kind.Rename = has_512 (among kinds kind.Insert) (among kinds kind.Update) (among kinds kind.Delete) (among kinds kind.CreateTable) (among kinds kind.AlterTable) (among kinds kind.CreateIndex) (among kinds kind.DropIndex) (among kinds kind.DropTable) (among kinds kind.Truncate) (among kinds kind.Rename)
