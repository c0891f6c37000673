-- The lent buffers at the end of a replay.
use Rattle.std.proofs.Common.{ℕ, ◌≡◌, List}
use Rattle.words.specs.declared.memory.Lent.{Lent}
use Rattle.words.specs.Memory.{Memory, memory}
use Rattle.words.specs.Lent.{lent}
use Rattle.words.proofs.Lent.{given_back}
use Rattle.machine.specs.declared.State.{State}
use Rattle.playback.specs.declared.Replayed.{Replayed}
use Rattle.playback.specs.Promised.{ReplayGives}

module _ {state : State} {s : List ℕ} {m : Memory} {d : List ℕ}
    {r : Replayed} {s' : List ℕ} {d' e : List ℕ} where
  -- The bytes that the listing's buffer ends with are those behind the cursor
  pub at_end : {m' : Memory} → ReplayGives state s m d r s' m' d' → e ≡ d'
      → ReplayGives state s m d r s' m' e
  at_end g p = rw p g

  -- And those of the memories are behind the three references
  pub all_at_end : (k : Lent) → ReplayGives state s m d r s' (lent k) d'
      → {rdram dmem imem : List ℕ}
      → rdram ≡ k.rdram.now → dmem ≡ k.dmem.now → imem ≡ k.imem.now → e ≡ d'
      → ReplayGives state s m d r s' (memory rdram dmem imem) e
  all_at_end k g a b c p =
      given_back (λ m'. ReplayGives state s m d r s' m' e) k (at_end g p) a b c
