-- What it says of a name that the signs before a pattern's first run reach so far into it.
use Rattle.std.specs.Prelude.{◌≡◌, ◌<◌, ◌≤◌, ℕ, Bool, true, false, List, length}
use Rattle.dm_route.specs.declared.sign.Sign.{Sign}
use Rattle.dm_route.specs.declared.matching.Reached.{Reached}
use Rattle.dm_route.specs.declared.matching.Reached.TheVariants.{Whole, Nothing, Run}
use Rattle.dm_route.specs.Patterns.{matches, matches_somewhere}

-- whether what stands at some place of the name matches
abbrev pub somewhere : List Sign → List ℕ → Bool
somewhere signs name = matches_somewhere (matches signs) name

-- Behind a run it is the same whether the signs before it stand at the front or at any place.
pub record ReachesRun (signs : List Sign) (name : List ℕ) (behind : List Sign) (left : List ℕ) : Type 0 where
  pub here : matches signs name ≡ somewhere behind left
  pub anywhere : somewhere signs name ≡ somewhere behind left
  pub fewer : length behind < length signs
  pub within : length left ≤ length name

abbrev pub IsReach : List Sign → List ℕ → Reached → Type 0
IsReach signs name Whole = matches signs name ≡ true
IsReach signs name Nothing = matches signs name ≡ false
IsReach signs name (Run behind left) = ReachesRun signs name behind.now left.now
