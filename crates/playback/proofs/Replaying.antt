-- The theorem of every replay.
use Prim.Native.Nat.{ℕ, zero, suc, ◌≤◌, min}
use mathlib.Core.Path.{◌≡◌, refl, sym, ap, ◌∙◌}
use mathlib.Core.Bool.{Bool, true, false}
use mathlib.Core.List.{List, ◌++◌}
use native.Mathlib.Omega.{arith}
use lib.Dec.{ltb, eqb}
use lib.ListN.{length, take, drop, length-take}
use lib.Seq.{take_all, take-append_seam, drop-append_seam}
use borrow.Author.Tests.{le-leb, lt-leb, ltb-true, ltb-false, eq-eqb}
use Rattle.words.specs.Memory.{Memory, Place, bytes_of}
use Rattle.words.proofs.Tests.{by}
use Rattle.machine.specs.declared.State.{State}
use Rattle.machine.specs.declared.Outcome.{Outcome}
use Rattle.machine.specs.Sound.{sound}
use Rattle.machine.specs.Refusals.{check, rdram_allowed, bank_allowed, sp_refusal, declined, ending, if_refused}
use Rattle.machine.proofs.Refusals.{if_accepted, if_refused_lem}
use Rattle.laws.specs.World.{World, world}
use Rattle.recording.specs.declared.Record.{Record}
use Rattle.recording.specs.Kinds.{Bytes}
use Rattle.recording.specs.Fields.{record_size}
use Rattle.recording.specs.Reader.{longest, read_record}
use Rattle.recording.specs.Split.{split}
use Rattle.recording.proofs.Splitting.{read_on, declined_at, accepted_alone, items_fit, ends_not_nine}
use Rattle.listing.specs.Text.{Text, header, stop_line}
use Rattle.playback.specs.declared.Replayed.{Replayed}
use Rattle.playback.specs.declared.Findings.{Findings}
use Rattle.playback.specs.Findings.{differed, one, findings, no_findings}
use Rattle.playback.specs.Replay.{Played, after_all, lines, last_line, replay_refusal, replay}
use Rattle.playback.specs.Promised.{ReplayGives}
use Rattle.playback.specs.Theorems.{SameLeft, Begun, longest_listing, EveryReplay}
use Rattle.playback.proofs.Found.{no_first, first_differs}
use Rattle.playback.proofs.Begins.{short_enough}
use Rattle.playback.proofs.Steps.{replay_begun, replay_not}
use Rattle.playback.proofs.Room.{listing_size}
use Rattle.playback.proofs.Sounds.{items_accepted, all_keep_sound, all_keep_lengths, all_succeed}

-- ---- The checks before the first record

-- The number 9 stands for the recording's length alone
sp_not_nine : (s : State) (m : Memory) → eqb (sp_refusal s m) 9 ≡ false
unfolding sp_refusal
sp_not_nine s m = go (rdram_allowed (length m.rdram)) (bank_allowed (length m.dmem)) (bank_allowed (length m.imem)) (sound s)
  where
    go : (a b c d : Bool) → eqb (check a 1 (check b 2 (check c 3 (check d 4 0)))) 9 ≡ false
    go false b c d = refl
    go true false c d = refl
    go true true false d = refl
    go true true true false = refl
    go true true true true = refl

pub refusal_short : (s : List ℕ) (w : World) → length s ≤ longest → replay_refusal s w ≡ sp_refusal w.state w.memory
unfolding replay_refusal
refusal_short s w h = rw (le-leb (length s) longest h)

refusal_long : (s : List ℕ) (w : World) → suc longest ≤ length s → replay_refusal s w ≡ 9
unfolding replay_refusal
refusal_long s w h = rw (lt-leb (length s) longest h)

-- The machine's checks pass where a replay begins
machine_passes : (s : List ℕ) (w : World) → replay_refusal s w ≡ 0 → sp_refusal w.state w.memory ≡ 0
machine_passes s w z = sym (refusal_short s w (short_enough s w z)) ∙ z

-- The first bytes of a recording begin too
begins_cut : (s : List ℕ) (w : World) (last : ℕ) → replay_refusal s w ≡ 0 → replay_refusal (take last s) w ≡ 0
begins_cut s w last z =
    let h = short_enough s w z in
    let n : length (take last s) ≡ min last (length s) = length-take last s in
    refusal_short (take last s) w (omega arith) ∙ machine_passes s w z

-- By the number of the checks
pub by_refusal : {P : Type 0} (n : ℕ) → (n ≡ 0 → P) → ((k : ℕ) → n ≡ suc k → P) → P
by_refusal zero f g = f refl
by_refusal (suc n) f g = g n refl

-- ---- One replay

module _ (state : State) (s : List ℕ) (m : Memory) (d : List ℕ) (r : Replayed) (s' : List ℕ) (m' : Memory) (d' : List ℕ)
    (g : ReplayGives state s m d r s' m' d') where
  -- One that does not begin
  pub not_begun : (n : ℕ) → replay_refusal s (world state m) ≡ suc n
      → (r.outcome ≡ declined state (suc n)) × (r.place ≡ 0) × (r.findings ≡ no_findings) × (m' ≡ m)
  not_begun n e =
      let q = replay_not s (world state m) (λ z. omega arith) in (
        g.outcome ∙ ap (λ (x : Played). x.outcome) q ∙ ap (declined state) e,
        g.place ∙ ap (λ (x : Played). x.place) q,
        g.findings ∙ ap (λ (x : Played). x.findings) q,
        g.bytes ∙ ap (λ (x : Played). x.memory) q,
      )

  -- One that begins
  pub begun_outcome : replay_refusal s (world state m) ≡ 0
      → r.outcome ≡ ending (after_all (split s).items (world state m)).state (split s).number (length (split s).items)
  begun_outcome z = g.outcome ∙ ap (λ (x : Played). x.outcome) (replay_begun s (world state m) z)

  pub begun_place : replay_refusal s (world state m) ≡ 0 → r.place ≡ if_refused (split s).number (split s).place 0
  begun_place z = g.place ∙ ap (λ (x : Played). x.place) (replay_begun s (world state m) z)

  pub begun_findings : replay_refusal s (world state m) ≡ 0 → r.findings ≡ findings (split s).items (world state m)
  begun_findings z = g.findings ∙ ap (λ (x : Played). x.findings) (replay_begun s (world state m) z)

  pub begun_memory : replay_refusal s (world state m) ≡ 0 → m' ≡ (after_all (split s).items (world state m)).memory
  begun_memory z = g.bytes ∙ ap (λ (x : Played). x.memory) (replay_begun s (world state m) z)

  -- The number of a short recording's replay
  short_number : length s ≤ longest → eqb r.outcome.answer.number 9 ≡ false
  short_number h =
      by_refusal (replay_refusal s (world state m))
      (λ z. rw (begun_outcome z) (ends_not_nine s))
      (λ k e. rw ((not_begun k e).0, ← e, refusal_short s (world state m) h) (sp_not_nine state m))

  long_number : suc longest ≤ length s → r.outcome.answer.number ≡ 9
  long_number h = ap (λ (o : Outcome). o.answer.number) (not_begun 8 (refusal_long s (world state m) h)).0

  -- 9 exactly for a recording that is too long
  nine : eqb r.outcome.answer.number 9 ≡ ltb longest (length s)
  nine =
      by (ltb longest (length s))
      (λ e. eq-eqb r.outcome.answer.number 9 (long_number (ltb-true longest (length s) e)) ∙ sym e)
      (λ e. short_number (ltb-false longest (length s) e) ∙ sym e)

  -- No memory's length changes
  lengths : (p : Place) → length (bytes_of p m') ≡ length (bytes_of p m)
  lengths p =
      by_refusal (replay_refusal s (world state m))
      (λ z. rw (begun_memory z) (all_keep_lengths (split s).items (world state m) p))
      (λ k n. ap (λ (x : Memory). length (bytes_of p x)) (not_begun k n).3)

-- Its listing is the first line and a `stop` line
not_text : (s : List ℕ) (w : World) (n : ℕ) → replay_refusal s w ≡ suc n → (replay s w).text ≡ header ++ stop_line 0 (suc n) 0
not_text s w n e =
    ap (λ (x : Played). x.text) (replay_not s w (λ z. omega (arith, e, z))) ∙ ap (λ (k : ℕ). header ++ stop_line 0 k 0) e

-- The last line shows the place that is given back; an `end` line shows none
last_line_lem : (number place count : ℕ) → last_line number count place ≡ last_line number count (if_refused number place 0)
last_line_lem zero place count = refl
last_line_lem (suc number) place count = refl

-- Two replays of the same records
same_left : (state : State) (s t : List ℕ) (m : Memory) (d e : List ℕ) (r q : Replayed) (s' t' : List ℕ) (m' n' : Memory) (d' e' : List ℕ)
    → ReplayGives state s m d r s' m' d' → ReplayGives state t m e q t' n' e'
    → replay_refusal s (world state m) ≡ 0 → replay_refusal t (world state m) ≡ 0 → (split t).items ≡ (split s).items
    → SameLeft r q m' n'
same_left state s t m d e r q s' t' m' n' d' e' g h y z i =
    let a = begun_outcome state s m d r s' m' d' g y in
    let b = begun_outcome state t m e q t' n' e' h z in
    let w = world state m in
    record {
      count = ap (λ (o : Outcome). o.answer.count) a ∙ ap length (sym i) ∙ ap (λ (o : Outcome). o.answer.count) (sym b);
      findings =
          begun_findings state s m d r s' m' d' g y
          ∙ ap (λ (rs : List Record). findings rs w) (sym i)
          ∙ sym (begun_findings state t m e q t' n' e' h z);
      state =
          ap (λ (o : Outcome). o.state) a
          ∙ ap (λ (rs : List Record). (after_all rs w).state) (sym i)
          ∙ ap (λ (o : Outcome). o.state) (sym b);
      memory =
          begun_memory state s m d r s' m' d' g y
          ∙ ap (λ (rs : List Record). (after_all rs w).memory) (sym i)
          ∙ sym (begun_memory state t m e q t' n' e' h z);
    }

-- A text that has room stands at the buffer's start
pub whole_text : (t d d' : List ℕ) (n : ℕ) → length t ≤ length d → n ≡ min (length t) (length d) → d' ≡ take (length d) t ++ drop (length t) d
    → (take n d' ≡ t) × (drop n d' ≡ drop n d)
whole_text t d d' n h e b =
    let l : n ≡ length t = omega arith in
    let c : d' ≡ t ++ drop (length t) d = b ∙ rw (take_all (length d) t h) refl in
    (rw (l, c) (take-append_seam t (drop (length t) d)), rw (l, c) (drop-append_seam t (drop (length t) d)))

-- A buffer that has room for the longest listing holds the whole listing
pub has_room_lem : (state : State) (s : List ℕ) (m : Memory) (d : List ℕ) (r : Replayed) (s' : List ℕ) (m' : Memory) (d' : List ℕ)
    → ReplayGives state s m d r s' m' d' → longest_listing ≤ length d
    → (r.written ≤ length d') × (take r.written d' ≡ (replay s (world state m)).text)
has_room_lem state s m d r s' m' d' g h =
    let t = (replay s (world state m)).text in
    let fits = listing_size s (world state m) in
    let x = (whole_text t d d' r.written (omega arith) g.written g.listing).0 in
    let n : length (take r.written d') ≡ length t = ap length x in
    (omega (arith, n, length-take r.written d', g.written), x)

module _ (state : State) (s : List ℕ) (m : Memory) (d : List ℕ) (r : Replayed) (s' : List ℕ) (m' : Memory) (d' : List ℕ)
    (bytes : Bytes s) (g : ReplayGives state s m d r s' m' d') where
  -- The accepted records are performed, and nothing else is done
  begun : replay_refusal s (world state m) ≡ 0 → Begun s (world state m) r m'
  begun z =
      let w = world state m in
      let h = short_enough s w z in
      let x = read_on s h in
      let o = begun_outcome state s m d r s' m' d' g z in
      let b = begun_memory state s m d r s' m' d' g z in
      let n : r.outcome.answer.number ≡ (split s).number = ap (λ (o : Outcome). o.answer.number) o in
      let place = begun_place state s m d r s' m' d' g z in
      let f = begun_findings state s m d r s' m' d' g z in
      record {
        items = (split s).items;
        last = (split s).place;
        read = rw n x;
        count = ap (λ (o : Outcome). o.answer.count) o;
        value = ap (λ (o : Outcome). o.answer.value) o;
        declined_at = λ k e.
            let there = declined_at s (split s).items (split s).place (split s).number k x (sym n ∙ e) in
            let same = place ∙ if_refused_lem (split s).number (split s).place 0 (λ q. omega (arith, n, e, q)) in
            (same, rw same there.0, ap (read_record s) same ∙ there.1);
        none_declined = λ e. place ∙ if_accepted (split s).number (split s).place 0 (sym n ∙ e);
        findings = f;
        first_differs = λ k e.
            let d : differed (split s).items w ≡ suc k = ap (λ (x : Findings). x.differed) (sym f) ∙ e in
            rw (n, f) (first_differs s w (split s).items (split s).place (split s).number k h x d);
        none_differs = λ e.
            let d : differed (split s).items w ≡ 0 = ap (λ (x : Findings). x.differed) (sym f) ∙ e in
            rw f (no_first one 0 (split s).items w d, no_first record_size 0 (split s).items w d);
        leaves = λ i. world (o i).state (b i);
        text =
            ap (λ (x : Played). x.text) (replay_begun s w z)
            ∙ ap (λ (t : Text). header ++ (lines (split s).items w ++ t)) (last_line_lem (split s).number (split s).place (length (split s).items))
            ∙ rw (n, ap (λ (o : Outcome). o.answer.count) o, place);
        succeed = all_succeed (split s).items w (items_fit s bytes) (items_accepted s) (machine_passes s w z);
        alone = λ e q t n' e' k.
            let c = accepted_alone s (split s).items (split s).place (split s).number h x in
            let y = begins_cut s w (split s).place z in (
              ap (λ (o : Outcome). o.answer.number) (begun_outcome state (take (split s).place s) m e q t n' e' k y) ∙ c.1,
              same_left state s (take (split s).place s) m d e r q s' t m' n' d' e' g k z y c.0,
            );
      }

  -- A sound state stays sound, because the records' numbers stand in their bytes
  keeps_sound : sound state ≡ true → sound r.outcome.state ≡ true
  keeps_sound e =
      by_refusal (replay_refusal s (world state m))
      (λ z.
      rw (begun_outcome state s m d r s' m' d' g z)
      (all_keep_sound (split s).items (world state m) (items_fit s bytes) e))
      (λ k n. rw (not_begun state s m d r s' m' d' g k n).0 e)

-- ---- Every replay

pub every_replay : EveryReplay
every_replay state s m d r s' m' d' bytes g =
    let fits = listing_size s (world state m) in
    record {
      not_begun = λ n e.
          let p = not_begun state s m d r s' m' d' g n e in
          (p.0, p.1, p.2, p.3, not_text s (world state m) n e);
      begun = begun state s m d r s' m' d' bytes g;
      nine = nine state s m d r s' m' d' g;
      others = refusal_short s (world state m);
      keeps_sound = keeps_sound state s m d r s' m' d' bytes g;
      lengths = lengths state s m d r s' m' d' g;
      size = fits;
      whole = λ h. whole_text (replay s (world state m)).text d d' r.written (omega arith) g.written g.listing;
    }
