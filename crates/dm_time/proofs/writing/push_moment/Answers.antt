use Rattle.std.proofs.Common.{◌≡◌, ℕ, List, [], ◌∷◌, ◌++◌, arith}
use Rattle.std.proofs.lemmas.Grind.{common_steps}
use Rattle.dm_time.specs.Written.{day_text, time_text, fraction_text}
use Rattle.dm_time.proofs.writing.push_moment.Goals as goal

joined : (old day time fraction first second third last : List ℕ) → first ≡ old ++ day → second ≡ first ++ 32 ∷ [] → third ≡ second ++ time → last ≡ third ++ fraction → last ≡ old ++ (day ++ (32 ∷ []) ++ time ++ fraction)
joined old day time fraction first second third last e1 e2 e3 e4 = grind (arith, common_steps)

pub returns : goal.returns
returns c =
    joined c.args.text.now.items (day_text c.args.moment.day) (time_text c.args.moment) (fraction_text c.args.digits c.args.moment.micros) _ _ _ _ c.in_ok-push_day.ensures c.in_ok-push.ensures.items c.in_ok-push_time.ensures c.in_ok-push_fraction.ensures
