-- What a replay for a host and its verdict promise, for every input.
use Rattle.std.specs.Prelude.{ℕ, min, ◌≡◌, List, ◌++◌, length, take, drop}
use Rattle.words.specs.Memory.{Memory}
use Rattle.laws.specs.World.{world}
use Rattle.playback.specs.Replay.{Played, replay}
use Rattle.playback.specs.Verdict.{judged, code_of}
use Rattle.host.specs.declared.HostState.{HostState}
use Rattle.host.specs.declared.HostReplayed.{HostReplayed}
use Rattle.host.specs.States.{decoded, handed}

-- The replay of the recording s over the memory m, from the state that h stands for
abbrev pub host_replay : HostState → List ℕ → Memory → Played
host_replay h s m = replay s (world (decoded h) m)

-- As `ReplayGives`: the lent bytes at exit are m', d' and s'
pub record HostReplayGives (h : HostState) (s : List ℕ) (m : Memory) (d : List ℕ) (r : HostReplayed) (s' : List ℕ) (m' : Memory) (d' : List ℕ) : Type 0 where
  pub outcome : r.outcome ≡ handed h (host_replay h s m).outcome
  pub place : r.place ≡ (host_replay h s m).place
  pub findings : r.findings ≡ (host_replay h s m).findings
  pub bytes : m' ≡ (host_replay h s m).memory
  pub written : r.written ≡ min (length (host_replay h s m).text) (length d)
  pub listing : d' ≡ take (length d) (host_replay h s m).text ++ drop (length (host_replay h s m).text) d
  pub recording_kept : s' ≡ s

-- The code of the verdict on what a host holds, whatever it is
abbrev pub host_verdict : HostReplayed → ℕ
host_verdict r = code_of (judged r.outcome.answer.number r.findings)
