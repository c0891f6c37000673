-- Accepted records: their calls succeed, keep a sound state sound, and keep every memory's length.
use Prim.Native.Nat.{ℕ, zero, suc, ◌+◌}
use mathlib.Core.Path.{◌≡◌, refl, ◌∙◌}
use mathlib.Core.Bool.{true}
use mathlib.Core.List.{List, [], ◌∷◌}
use lib.ListN.{length}
use Rattle.words.specs.Memory.{Memory, Place, bytes_of, word_bytes}
use Rattle.words.proofs.Bytes.{stored_length}
use Rattle.machine.specs.declared.State.{State}
use Rattle.machine.specs.Sound.{sound}
use Rattle.machine.specs.Address.{register_at}
use Rattle.machine.specs.Refusals.{register_number, state_refusal, access_refusal, sp_refusal, if_refused}
use Rattle.machine.specs.Runs.{end_of_run}
use Rattle.machine.proofs.Sound.{facts}
use Rattle.machine.proofs.Refusals.{sp_checked, read_answers, write_answers, tick_answers, break_answers, acknowledge_answers, run_stays, run_answers_lem}
use Rattle.machine.proofs.Kept.{calls_keep_sound}
use Rattle.machine.proofs.Runs.{run_ends}
use Rattle.laws.specs.World.{World}
use Rattle.laws.proofs.Answers.{sp_alike}
use Rattle.recording.specs.declared.Record.{Record}
use Rattle.recording.specs.declared.Record.TheVariants.{None, Write, Read, SpRun, DpRun, Tick, Break, Acknowledge, Store, Check, Run}
use Rattle.recording.specs.Kinds.{body_size, size, record_of}
use Rattle.recording.specs.Fields.{Fits}
use Rattle.recording.specs.Reader.{address_number, record_number}
use Rattle.recording.specs.Split.{Split, stops, precedes, split_from, split, AllFit}
use Rattle.recording.proofs.Accepted.{accepted_address}
use Rattle.playback.specs.Effects.{place_at, offset_at, store_at, room, after}
use Rattle.playback.specs.Replay.{after_all}
use Rattle.playback.specs.Theorems.{call_number, Succeed}

-- ---- Addresses

-- Each record's address passes its check
abbrev pub AllAccepted : List Record → Type 0
AllAccepted [] = Unit {0}
AllAccepted (r ∷ rs) = (address_number r ≡ 0) × AllAccepted rs

by_number : (at n : ℕ) (r : Record) (x : Split) → (n ≡ 0 → address_number r ≡ 0) → AllAccepted x.items
    → AllAccepted (if_refused n (stops at n) (precedes r x)).items
by_number at zero r x h k = (h refl, k)
by_number at (suc n) r x h k = tt

from_accepted : (at k : ℕ) (s : List ℕ) → AllAccepted (split_from at k s).items
unfolding split_from
from_accepted at k [] = tt
from_accepted at zero (b ∷ s) =
    by_number at (record_number (b ∷ s)) (record_of (b ∷ s)) (split_from (at + size b) (body_size b) s) (accepted_address (b ∷ s))
    (from_accepted (at + size b) (body_size b) s)
from_accepted at (suc k) (b ∷ s) = from_accepted at k s

pub items_accepted : (s : List ℕ) → AllAccepted (split s).items
items_accepted s = from_accepted 0 0 s

-- ---- Soundness

pub keeps_sound : (r : Record) (w : World) → Fits r → sound w.state ≡ true → sound (after r w).state ≡ true
unfolding after
keeps_sound None w f e = e
keeps_sound (Write a v) w f e = (calls_keep_sound w.state e).write a v f.1
keeps_sound (Read a v) w f e = (calls_keep_sound w.state e).read a
keeps_sound (SpRun budget) w f e = (calls_keep_sound w.state e).run budget 0 0 w.memory room
keeps_sound (DpRun budget) w f e = (calls_keep_sound w.state e).run 0 budget budget w.memory room
keeps_sound (Tick n) w f e = (calls_keep_sound w.state e).tick n
keeps_sound Break w f e = (calls_keep_sound w.state e).break
keeps_sound Acknowledge w f e = (calls_keep_sound w.state e).acknowledge
keeps_sound (Store a word) w f e = e
keeps_sound (Check a word) w f e = e
keeps_sound (Run a b) w f e = (calls_keep_sound w.state e).run a b b w.memory room

pub all_keep_sound : (rs : List Record) (w : World) → AllFit rs → sound w.state ≡ true → sound (after_all rs w).state ≡ true
unfolding after_all
all_keep_sound [] w f e = e
all_keep_sound (r ∷ rs) w f e = all_keep_sound rs (after r w) f.1 (keeps_sound r w f.0 e)

-- ---- Lengths of memory

-- A run, declined or not
run_length : (s : State) (a b c : ℕ) (m : Memory) (p : Place)
    → length (bytes_of p (end_of_run s a b c m room).memory) ≡ length (bytes_of p m)
run_length s a b c m p = go (sp_refusal s m) refl
  where
    go : (n : ℕ) → sp_refusal s m ≡ n → length (bytes_of p (end_of_run s a b c m room).memory) ≡ length (bytes_of p m)
    go zero z = (run_ends s m room z a b c).places p
    go (suc n) z = rw (run_stays s a b c m room n z)

store_at_length : (a word : ℕ) (m : Memory) (p : Place) → length (bytes_of p (store_at a word m)) ≡ length (bytes_of p m)
unfolding store_at
store_at_length a word m p = stored_length (place_at a) (offset_at a) (word_bytes word) m p

pub keeps_lengths : (r : Record) (w : World) (p : Place) → length (bytes_of p (after r w).memory) ≡ length (bytes_of p w.memory)
unfolding after
keeps_lengths None w p = refl
keeps_lengths (Write a v) w p = refl
keeps_lengths (Read a v) w p = refl
keeps_lengths (SpRun budget) w p = run_length w.state budget 0 0 w.memory p
keeps_lengths (DpRun budget) w p = run_length w.state 0 budget budget w.memory p
keeps_lengths (Tick n) w p = refl
keeps_lengths Break w p = refl
keeps_lengths Acknowledge w p = refl
keeps_lengths (Store a word) w p = store_at_length a word w.memory p
keeps_lengths (Check a word) w p = refl
keeps_lengths (Run a b) w p = run_length w.state a b b w.memory p

pub all_keep_lengths : (rs : List Record) (w : World) (p : Place) → length (bytes_of p (after_all rs w).memory) ≡ length (bytes_of p w.memory)
unfolding after_all
all_keep_lengths [] w p = refl
all_keep_lengths (r ∷ rs) w p = all_keep_lengths rs (after r w) p ∙ keeps_lengths r w p

-- ---- Success

-- The checks of the calls, over an input that passes those of an SP call
state_passes : (s : State) → sound s ≡ true → state_refusal s ≡ 0
unfolding state_refusal
state_passes s e = rw e

access_passes : (s : State) (a : ℕ) → sound s ≡ true → register_number (register_at a) ≡ 0 → access_refusal s a ≡ 0
unfolding access_refusal
access_passes s a e h = rw e h

pub succeeds : (r : Record) (w : World) → address_number r ≡ 0 → sp_refusal w.state w.memory ≡ 0 → call_number r w ≡ 0
succeeds None w h z = refl
succeeds (Write a v) w h z = (write_answers w.state a v).number ∙ access_passes w.state a (sp_checked w.state w.memory z) h
succeeds (Read a v) w h z = (read_answers w.state a).number ∙ access_passes w.state a (sp_checked w.state w.memory z) h
succeeds (SpRun budget) w h z = (run_answers_lem w.state budget 0 0 w.memory room).number ∙ z
succeeds (DpRun budget) w h z = (run_answers_lem w.state 0 budget budget w.memory room).number ∙ z
succeeds (Tick n) w h z = (tick_answers w.state n).number ∙ state_passes w.state (sp_checked w.state w.memory z)
succeeds Break w h z = (break_answers w.state).number ∙ state_passes w.state (sp_checked w.state w.memory z)
succeeds Acknowledge w h z = (acknowledge_answers w.state).number ∙ state_passes w.state (sp_checked w.state w.memory z)
succeeds (Store a word) w h z = refl
succeeds (Check a word) w h z = refl
succeeds (Run a b) w h z = (run_answers_lem w.state a b b w.memory room).number ∙ z

-- A record leaves an input that passes the checks again
passes_again : (r : Record) (w : World) → Fits r → sp_refusal w.state w.memory ≡ 0 → sp_refusal (after r w).state (after r w).memory ≡ 0
passes_again r w f z =
    let e = sp_checked w.state w.memory z in
    sp_alike (after r w).state w.state (after r w).memory w.memory (facts (after r w).state (keeps_sound r w f e)) (facts w.state e)
    (keeps_lengths r w)
    ∙ z

pub all_succeed : (rs : List Record) (w : World) → AllFit rs → AllAccepted rs → sp_refusal w.state w.memory ≡ 0 → Succeed rs w
all_succeed [] w f a z = tt
all_succeed (r ∷ rs) w f a z = (succeeds r w a.0 z, all_succeed rs (after r w) f.1 a.1 (passes_again r w f.0 z))
