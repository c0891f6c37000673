-- What is proved of states that cross to a host and back, and of the calls that are handed them.
use Rattle.std.specs.Prelude.{ℕ, suc, ◌≡◌, true, false, List}
use Rattle.words.specs.Memory.{Memory}
use Rattle.machine.specs.declared.State.{State}
use Rattle.machine.specs.declared.Outcome.{Outcome}
use Rattle.machine.specs.Sound.{sound}
use Rattle.playback.specs.declared.Replayed.{Replayed}
use Rattle.playback.specs.Promised.{ReplayGives}
use Rattle.playback.specs.Verdict.{verdict, code_of}
use Rattle.host.specs.declared.HostState.{HostState}
use Rattle.host.specs.declared.HostOutcome.{HostOutcome}
use Rattle.host.specs.declared.HostReplayed.{HostReplayed}
use Rattle.host.specs.States.{flags, decoded, encoded, handed}
use Rattle.host.specs.Promised.{HostReplayGives, host_verdict}

-- Of whatever bytes a host hands over
pub record FromHost (h : HostState) : Type 0 where
  -- A byte that is no flag makes the state unsound
  pub no_flag : flags h ≡ false → sound (decoded h) ≡ false
  -- Otherwise the bytes come back as they were
  pub same : flags h ≡ true → encoded (decoded h) ≡ h

-- Of every state that a host gets
pub record ToHost (s : State) : Type 0 where
  pub flagged : flags (encoded s) ≡ true
  pub same : decoded (encoded s) ≡ s

-- Declined: the number, value 0, count 0, and the state as handed in, byte for byte
abbrev pub refused_host : HostState → ℕ → HostOutcome
refused_host h number = record { state = h; answer = record { number = number; value = 0; count = 0 } }

abbrev pub encoded_outcome : Outcome → HostOutcome
encoded_outcome o = record { state = encoded o.state; answer = o.answer }

-- Of a call whose checks gave n, and that gave o on the state that h stands for. A burst's checks are those before its first pair: what it
-- keeps where a pair is refused is in `made`
pub record CallFromHost (h : HostState) (n : ℕ) (o : Outcome) : Type 0 where
  pub declined : (k : ℕ) → n ≡ suc k → handed h o ≡ refused_host h n
  -- On a state that is sound it is the call itself
  pub made : sound (decoded h) ≡ true → handed h o ≡ encoded_outcome o

-- The verdict on what a host got is the verdict on the replay itself
abbrev pub EveryHostVerdict : Type 0
EveryHostVerdict = (h : HostState) (s : List ℕ) (m : Memory) (d : List ℕ) (r : HostReplayed) (s' : List ℕ) (m' : Memory) (d' : List ℕ)
    → (p : Replayed) (s₁ : List ℕ) (m₁ : Memory) (d₁ : List ℕ)
    → HostReplayGives h s m d r s' m' d' → ReplayGives (decoded h) s m d p s₁ m₁ d₁ → host_verdict r ≡ code_of (verdict p)
