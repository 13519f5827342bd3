-- A target behind a fuse is sound while the fuse has not blown and the inner target is sound.
use Rattle.std.proofs.Common.{◌≡◌, Bool, true, false, not, ◌&&◌, sym, subst}
use Rattle.std.specs.Prelude.{IsTrue, ◌↔◌}

pub inner_sound : (blown sound : Bool) → IsTrue (not blown && sound) → IsTrue sound
inner_sound false sound h = h
inner_sound true sound h = absurd (cc)

pub sound_as_inner : (blown before now sound : Bool) (N : Type 0) → IsTrue (not blown && before) → now ≡ blown → (IsTrue sound ↔ N) → (IsTrue (not now && sound) ↔ N)
sound_as_inner false before now sound N h same inner = subst (λ (b : Bool). IsTrue (not b && sound) ↔ N) (sym same) inner
sound_as_inner true before now sound N h same inner = absurd (cc)
