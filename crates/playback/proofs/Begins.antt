-- Whether a replay begins.
use Prim.Native.Nat.{ℕ, ◌≤◌}
use mathlib.Core.Path.{◌≡◌, refl}
use mathlib.Core.Bool.{Bool, true, false}
use mathlib.Core.List.{List, [], ◌∷◌}
use native.Mathlib.Omega.{arith}
use lib.Dec.{leb}
use lib.ListN.{length, replicate}
use borrow.Author.Tests.{leb-true}
use Rattle.words.specs.Memory.{memory}
use Rattle.machine.specs.Sound.{power_up}
use Rattle.machine.specs.Refusals.{check, sp_refusal}
use Rattle.laws.specs.World.{World, world}
use Rattle.recording.specs.Reader.{longest}
use Rattle.playback.specs.Replay.{replay_refusal}

-- 9 before 1: a recording of 16,384 bytes over an RDRAM of one byte
pub nine_first : replay_refusal (replicate 16384 6) (world power_up (memory (0 ∷ []) [] [])) ≡ 9
unfolding replay_refusal sp_refusal
nine_first = refl

-- A replay that begins has a recording that is short enough
pub short_enough : (s : List ℕ) (w : World) → replay_refusal s w ≡ 0 → length s ≤ longest
unfolding replay_refusal
short_enough s w h = leb-true (length s) longest (short (leb (length s) longest) (sp_refusal w.state w.memory) h)
  where
    short : (t : Bool) (n : ℕ) → check t 9 n ≡ 0 → t ≡ true
    short true n h = refl
    short false n h = absurd (let z : ◌≡◌ {A = ℕ} 9 0 = h in omega arith)
