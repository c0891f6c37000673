-- A recording that the writer made is replayed as the records that were appended.
use Prim.Native.Nat.{ℕ, ◌≤◌}
use mathlib.Core.Path.{◌≡◌, refl, ap, ◌∙◌}
use mathlib.Core.List.{List, [], ◌++◌}
use native.Mathlib.Omega.{arith}
use lib.ListN.{length, take, length-take}
use Rattle.words.specs.Memory.{Memory}
use Rattle.machine.specs.declared.State.{State}
use Rattle.machine.specs.declared.Outcome.{Outcome}
use Rattle.machine.specs.Refusals.{sp_refusal, if_refused}
use Rattle.laws.specs.World.{world}
use Rattle.recording.specs.declared.Record.{Record}
use Rattle.recording.specs.Reader.{longest}
use Rattle.recording.specs.Split.{Split, split_from, split}
use Rattle.recording.specs.Written.{all_of}
use Rattle.recording.proofs.Appending.{every_append}
use Rattle.playback.specs.declared.Replayed.{Replayed}
use Rattle.playback.specs.Findings.{findings}
use Rattle.playback.specs.Replay.{Played, headed, played, after_all, replay_refusal}
use Rattle.playback.specs.Promised.{ReplayGives}
use Rattle.playback.specs.Appended.{Replays, EveryAppendReplayed, EveryRecordingReplayed}
use Rattle.playback.proofs.Steps.{replay_begun}
use Rattle.playback.proofs.Replaying.{refusal_short, begun_outcome, begun_place, begun_findings, begun_memory}

-- A recording whose records are all accepted
all_replayed : (n : ℕ) (rs : List Record) (s : List ℕ) (state : State) (m : Memory) (out : List ℕ) (r : Replayed) (s' : List ℕ) (m' : Memory) (out' : List ℕ)
    → length s ≤ longest → split s ≡ all_of n rs → sp_refusal state m ≡ 0 → ReplayGives state s m out r s' m' out' → Replays rs s (world state m) r m'
all_replayed n rs s state m out r s' m' out' h x e g =
    let w = world state m in
    let z : replay_refusal s w ≡ 0 = refusal_short s w h ∙ e in
    let o = begun_outcome state s m out r s' m' out' g z in
    let b = begun_memory state s m out r s' m' out' g z in
    record {
      number = ap (λ (q : Outcome). q.answer.number) o ∙ ap (λ (y : Split). y.number) x;
      count = ap (λ (q : Outcome). q.answer.count) o ∙ ap (λ (y : Split). length y.items) x;
      place = begun_place state s m out r s' m' out' g z ∙ ap (λ (y : Split). if_refused y.number y.place 0) x;
      findings = begun_findings state s m out r s' m' out' g z ∙ ap (λ (y : Split). findings y.items w) x;
      leaves = (λ i. world (o i).state (b i)) ∙ ap (λ (y : Split). after_all y.items w) x;
      text = ap (λ (p : Played). p.text) (replay_begun s w z ∙ ap (λ (y : Split). headed (played y w)) x);
    }

pub every_append_replayed : EveryAppendReplayed
every_append_replayed d at qs rs d' last l b p n x state m out r s' m' out' e g =
    let a = every_append d at qs rs d' last l b p n x in
    all_replayed last (qs ++ rs) (take last d') state m out r s' m' out' (omega (arith, a.within.1, length-take last d')) a.records e g

-- From the start on
pub every_recording_replayed : EveryRecordingReplayed
unfolding split_from
every_recording_replayed d rs d' last x = every_append_replayed d 0 [] rs d' last (omega arith) (omega arith) refl refl x
