-- The loop of a replay: a result that finishes the rest of the records finishes the whole recording.
use Prim.Native.Nat.{ℕ, suc, ◌+◌, ◌≤◌, ◌<◌}
use mathlib.Core.Path.{◌≡◌, refl, sym, ap, ◌∙◌}
use mathlib.Core.Bool.{Bool}
use mathlib.Core.List.{List, ◌++◌, append_assoc}
use native.Mathlib.Omega.{arith}
use native.Mathlib.Nat.{add-zero, zero-add}
use lib.ListN.{length}
use Rattle.words.specs.Memory.{Memory}
use Rattle.machine.specs.declared.State.{State}
use Rattle.machine.specs.Refusals.{ending, if_refused}
use Rattle.machine.proofs.Refusals.{if_accepted, if_refused_lem}
use Rattle.laws.specs.World.{World, world}
use Rattle.recording.specs.declared.Record.{Record}
use Rattle.recording.specs.Reader.{Reading, longest, read_record}
use Rattle.recording.specs.Split.{Split, stops, precedes, split}
use Rattle.recording.specs.Fields.{record_size}
use Rattle.recording.proofs.Splitting.{split_at, split_none, split_next, split_stops}
use Rattle.recording.proofs.Rewriting.{read_size}
use Rattle.listing.specs.Text.{header, end_line, stop_line}
use Rattle.listing.specs.Put.{Put}
use Rattle.listing.proofs.Putting.{◌then◌, from_start}
use Rattle.playback.specs.declared.Findings.{Findings}
use Rattle.playback.specs.declared.Replayed.{Replayed}
use Rattle.playback.specs.Effects.{after, line}
use Rattle.playback.specs.Findings.{compares, differs, no_findings}
use Rattle.playback.specs.Replay.{Played, after_all, lines, last_line, played, not_played, headed, replay_refusal, replay}
use Rattle.playback.specs.Promised.{ReplayGives, PerformGives, noted, PlayGives}
use Rattle.playback.proofs.Found.{found_after, noted_then, Quiet, noted_all_lem, noted_none}

-- ---- From a place on

-- The records of x were performed, the first of which begins at a place, where k records were accepted before them and found f; and the last line
-- was written
pub record From (k : ℕ) (f : Findings) (begin : ℕ) (x : Split) (w : World) (d : List ℕ) (at : ℕ) (r : Replayed) (m' : Memory) (d' : List ℕ) : Type 0 where
  pub outcome : r.outcome ≡ ending (after_all x.items w).state x.number (k + length x.items)
  pub place : r.place ≡ if_refused x.number x.place 0
  pub findings : r.findings ≡ found_after f k begin x.items w
  pub bytes : m' ≡ (after_all x.items w).memory
  pub listed : Put d at (lines x.items w ++ last_line x.number (k + length x.items) x.place) d' r.written

-- Whoever finishes from the first has finished the second
abbrev pub Leads : ℕ → Findings → ℕ → Split → World → List ℕ → ℕ → ℕ → Findings → ℕ → Split → World → List ℕ → ℕ → Type 0
Leads k f b x w d at k₀ f₀ b₀ x₀ w₀ d₀ at₀ =
    (r : Replayed) (m' : Memory) (d' : List ℕ) → From k f b x w d at r m' d' → From k₀ f₀ b₀ x₀ w₀ d₀ at₀ r m' d'

-- ---- One record

counted : (k n : ℕ) → k + 1 + n ≡ k + suc n
counted k n = omega arith

-- A record that was performed stands before the rest
before : (item : Record) (x : Split) (k : ℕ) (f : Findings) (b : ℕ) (w : World) {d d₁ : List ℕ} {p p₁ : ℕ} → Put d p (line item w) d₁ p₁
    → Leads (k + 1) (noted f (compares item) (differs item w) k b) (b + record_size item) x (after item w) d₁ p₁ k f b (precedes item x) w d p
unfolding after_all lines
before item x k f b w {d} {d₁} {p} {p₁} put r m' d' g =
    let n : k + 1 + length x.items ≡ k + suc (length x.items) = counted k (length x.items) in
    record {
      outcome = g.outcome ∙ ap (ending (after_all x.items (after item w)).state x.number) n;
      place = g.place;
      findings = g.findings ∙ noted_then f k b item x.items w;
      bytes = g.bytes;
      listed =
          rw (append_assoc (line item w) (lines x.items (after item w)) (last_line x.number (k + suc (length x.items)) x.place), ← n)
          (put then g.listed);
    }

performed : (item : Record) (x : Split) (k : ℕ) (f : Findings) (b : ℕ) (w w' : World) {d d₁ : List ℕ} {p p₁ : ℕ} {compared differed : Bool}
    → PerformGives item w d p w' d₁ p₁ compared differed
    → Leads (k + 1) (noted f compared differed k b) (b + record_size item) x w' d₁ p₁ k f b (precedes item x) w d p
performed item x k f b w w' g = rw (g.leaves, g.compared, g.differed) (before item x k f b w g.listed)

-- The reader accepted the record at a place, and it was performed
pub next_record : (s : List ℕ) (at k : ℕ) (f : Findings) (n : Reading) (w w' : World) {d d₁ : List ℕ} {p p₁ : ℕ} {compared differed : Bool}
    → length s ≤ longest → n ≡ read_record s at → n.number ≡ 0 → PerformGives n.item w d p w' d₁ p₁ compared differed
    → Leads (k + 1) (noted f compared differed k at) n.place (split_at n.place s) w' d₁ p₁ k f at (split_at at s) w d p
next_record s at k f n w w' h e z g =
    let a : (read_record s at).number ≡ 0 = ap (λ (f : Reading). f.number) (sym e) ∙ z in
    let q : split_at at s ≡ precedes n.item (split_at n.place s) =
    split_next s at h a ∙ ap (λ (f : Reading). precedes f.item (split_at f.place s)) (sym e) in
    let far : n.place ≡ at + record_size n.item = rw e (read_size s at h a) in
    rw q (rw far (performed n.item (split_at (at + record_size n.item) s) k f at w w' g))

-- ---- The last line

-- Nothing is performed any more
last : (number k at : ℕ) (f : Findings) (b : ℕ) (state : State) (m : Memory) (r : Replayed) {d d' : List ℕ} {p q : ℕ}
    → Quiet f → Put d p (last_line number k at) d' q
    → r.outcome ≡ ending state number k → r.written ≡ q → r.place ≡ if_refused number at 0 → r.findings ≡ f
    → From k f b (stops at number) (world state m) d p r m d'
unfolding after_all lines
last number k at f b state m r quiet put o t a g =
    record {
      outcome = rw (add-zero k) o;
      place = a;
      findings = g ∙ sym (noted_all_lem f k b (world state m) quiet);
      bytes = refl;
      listed = rw (add-zero k, t) put;
    }

-- The last line of a replay that stops
stop_line_lem : (number k at : ℕ) → (number ≡ 0 → ⊥) → last_line number k at ≡ stop_line k number at
stop_line_lem number k at z = if_refused_lem number (stop_line k number at) (end_line k) z

-- The reader declined the record at a place
pub stopped : (s : List ℕ) (at k : ℕ) (f : Findings) (n : Reading) (state : State) (m : Memory) (r : Replayed) {d d' : List ℕ} {p q : ℕ}
    → length s ≤ longest → at < length s → n ≡ read_record s at → (n.number ≡ 0 → ⊥) → Quiet f → Put d p (stop_line k n.number at) d' q
    → r.outcome ≡ ending state n.number k → r.written ≡ q → r.place ≡ at → r.findings ≡ f
    → From k f at (split_at at s) (world state m) d p r m d'
stopped s at k f n state m r {d} {d'} {p} {q} h l e z quiet put o t a g =
    let number : n.number ≡ (read_record s at).number = ap (λ (f : Reading). f.number) e in
    let c : split_at at s ≡ stops at n.number = split_stops s at h l (λ y. z (number ∙ y)) ∙ ap (stops at) (sym number) in
    rw c
    (last n.number k at f at state m r quiet (rw (stop_line_lem n.number k at z) put) o t
    (a ∙ sym (if_refused_lem n.number at 0 z)) g)

-- No record is left
pub finished : (s : List ℕ) (at k : ℕ) (f : Findings) (state : State) (m : Memory) (r : Replayed) {d d' : List ℕ} {p q : ℕ}
    → length s ≤ at → Quiet f → Put d p (end_line k) d' q → r.outcome ≡ ending state 0 k → r.written ≡ q → r.place ≡ 0 → r.findings ≡ f
    → From k f at (split_at at s) (world state m) d p r m d'
finished s at k f state m r h quiet put o t a g = rw (split_none s at h) (last 0 k at f at state m r quiet put o t a g)

-- ---- The whole

-- With no record accepted before
from_none : (x : Split) (w : World) (d : List ℕ) (at : ℕ) (r : Replayed) (m' : Memory) (d' : List ℕ) → From 0 no_findings 0 x w d at r m' d'
    → PlayGives x w d at r m' d'
from_none x w d at r m' d' f =
    let n : 0 + length x.items ≡ length x.items = zero-add (length x.items) in
    record {
      outcome = rw n at f.outcome;
      place = f.place;
      findings = f.findings ∙ noted_none x.items w;
      bytes = f.bytes;
      listed = rw n at f.listed;
    }

pub plays : (s : List ℕ) (w : World) {d : List ℕ} {at : ℕ} {r : Replayed} {m' : Memory} {d' : List ℕ}
    → From 0 no_findings 0 (split_at 0 s) w d at r m' d' → PlayGives (split s) w d at r m' d'
plays s w {d} {at} {r} {m'} {d'} f = from_none (split s) w d at r m' d' f

-- A result that was listed from the buffer's start on
gives : (state : State) (s : List ℕ) (m : Memory) (d : List ℕ) (r : Replayed) (s' : List ℕ) (m' : Memory) (d' : List ℕ) (x : Played)
    → replay s (world state m) ≡ x → r.outcome ≡ x.outcome → r.place ≡ x.place → r.findings ≡ x.findings → m' ≡ x.memory
    → Put d 0 x.text d' r.written → s' ≡ s
    → ReplayGives state s m d r s' m' d'
gives state s m d r s' m' d' x e o a f b put k =
    let l = from_start put in
    let t : x.text ≡ (replay s (world state m)).text = ap (λ (y : Played). y.text) (sym e) in
    record {
      outcome = o ∙ ap (λ (y : Played). y.outcome) (sym e);
      place = a ∙ ap (λ (y : Played). y.place) (sym e);
      findings = f ∙ ap (λ (y : Played). y.findings) (sym e);
      bytes = b ∙ ap (λ (y : Played). y.memory) (sym e);
      written = rw (← t) l.0;
      listing = rw (← t) l.1;
      recording_kept = k;
    }

-- What is replayed, by the number of the checks
pub replay_begun : (s : List ℕ) (w : World) → replay_refusal s w ≡ 0 → replay s w ≡ headed (played (split s) w)
unfolding replay
replay_begun s w h = ap headed (if_accepted (replay_refusal s w) (not_played (replay_refusal s w) w) (played (split s) w) h)

pub replay_not : (s : List ℕ) (w : World) → (replay_refusal s w ≡ 0 → ⊥) → replay s w ≡ headed (not_played (replay_refusal s w) w)
unfolding replay
replay_not s w h = ap headed (if_refused_lem (replay_refusal s w) (not_played (replay_refusal s w) w) (played (split s) w) h)

-- It begins
pub replays_begun : (state : State) (s : List ℕ) (m : Memory) {d d₁ : List ℕ} {p : ℕ} {r : Replayed} {s' : List ℕ} {m' : Memory} {d' : List ℕ}
    → replay_refusal s (world state m) ≡ 0 → Put d 0 header d₁ p → PlayGives (split s) (world state m) d₁ p r m' d' → s' ≡ s
    → ReplayGives state s m d r s' m' d'
replays_begun state s m {d} {d₁} {p} {r} {s'} {m'} {d'} h put g k =
    gives state s m d r s' m' d' (headed (played (split s) (world state m))) (replay_begun s (world state m) h)
    g.outcome g.place g.findings g.bytes (put then g.listed) k

-- It does not
pub replays_not : (state : State) (s : List ℕ) (m : Memory) (n : ℕ) {d d₁ : List ℕ} {p q : ℕ} {r : Replayed} {s' d' : List ℕ}
    → n ≡ replay_refusal s (world state m) → (n ≡ 0 → ⊥) → Put d 0 header d₁ p → Put d₁ p (stop_line 0 n 0) d' q
    → r.outcome ≡ ending state n 0 → r.written ≡ q → r.place ≡ 0 → r.findings ≡ no_findings → s' ≡ s → ReplayGives state s m d r s' m d'
replays_not state s m n {d} {d₁} {p} {q} {r} {s'} {d'} e z put stop o t a f k =
    gives state s m d r s' m d' (headed (not_played n (world state m)))
    (replay_not s (world state m) (λ y. z (e ∙ y)) ∙ ap (λ (i : ℕ). headed (not_played i (world state m))) (sym e))
    o a f refl (rw t (put then stop)) k
