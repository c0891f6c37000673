-- A replay through mirrors of the DP registers is the replay through their first copy.
use Prim.Native.Nat.{ℕ, zero, suc, ◌+◌, min}
use mathlib.Core.Path.{◌≡◌, refl, sym, ap, ◌∙◌}
use mathlib.Core.Bool.{Bool, false, not, cond}
use mathlib.Core.List.{List, [], ◌∷◌, ◌++◌, map, append_assoc}
use native.Mathlib.Omega.{arith}
use lib.Dec.{leb, eqb}
use lib.ListN.{length, length-append, length-map}
use Rattle.words.specs.Bits.{as_bit}
use Rattle.machine.specs.declared.Outcome.{Outcome}
use Rattle.machine.specs.Address.{first_copy}
use Rattle.machine.specs.Refusals.{check, sp_refusal, ending}
use Rattle.machine.specs.Calls.{read_register}
use Rattle.machine.proofs.Refusals.{if_accepted, if_refused_lem}
use Rattle.machine.proofs.Mirrors.{read_mirrored, write_mirrored}
use Rattle.laws.specs.World.{World, world}
use Rattle.recording.specs.declared.Record.{Record}
use Rattle.recording.specs.declared.Record.TheVariants.{None, Write, Read, SpRun, DpRun, Tick, Break, Acknowledge, Store, Check, Run}
use Rattle.recording.specs.Kinds.{Bytes}
use Rattle.recording.specs.Fields.{record_size}
use Rattle.recording.specs.Reader.{longest}
use Rattle.recording.specs.Split.{Split, split}
use Rattle.recording.specs.Mirrors.{at_first_copy, bytes_at_first_copy, split_at_first_copy}
use Rattle.recording.proofs.Mirrors.{read_at_first_copy}
use Rattle.listing.specs.Text.{Text, letter_r, found_line}
use Rattle.playback.specs.Effects.{with_state, after, line}
use Rattle.playback.specs.Findings.{compares, differs, total, first_from, one, findings}
use Rattle.playback.specs.Replay.{Played, after_all, lines, last_line, played, not_played, headed, replay_refusal, replay}
use Rattle.playback.specs.Mirrors.{SameLines, SameListing, performed, EveryReplayAtFirstCopy}
use Rattle.playback.specs.Mirrors.SameLines.{last, reads, others}
use Rattle.playback.specs.Mirrors.SameListing.{after_header}
use Rattle.playback.proofs.Steps.{replay_begun, replay_not}

-- ---- One record

same_after : (r : Record) (w : World) → after (at_first_copy r) w ≡ after r w
unfolding after
same_after None w = refl
same_after (Write a v) w = ap (with_state w) (sym (write_mirrored w.state a v))
same_after (Read a v) w = ap (with_state w) (sym (read_mirrored w.state a))
same_after (SpRun b) w = refl
same_after (DpRun b) w = refl
same_after (Tick n) w = refl
same_after Break w = refl
same_after Acknowledge w = refl
same_after (Store a word) w = refl
same_after (Check a word) w = refl
same_after (Run a b) w = refl

same_line : (r : Record) (w : World) {rs : List Record} {x y : Text} → SameLines rs x y → SameLines (r ∷ rs) (line r w ++ x) (line (at_first_copy r) w ++ y)
unfolding line
same_line None w h = others None [] refl h
same_line (Write a v) w h = others (Write a v) [] refl h
same_line (Read a v) w h = rw (← read_mirrored w.state a) (reads a (read_register w.state a).answer.value v h)
same_line (SpRun b) w h = others (SpRun b) (line (SpRun b) w) refl h
same_line (DpRun b) w h = others (DpRun b) (line (DpRun b) w) refl h
same_line (Tick n) w h = others (Tick n) [] refl h
same_line Break w h = others Break [] refl h
same_line Acknowledge w h = others Acknowledge [] refl h
same_line (Store a word) w h = others (Store a word) [] refl h
same_line (Check a word) w h = others (Check a word) (line (Check a word) w) refl h
same_line (Run a b) w h = others (Run a b) (line (Run a b) w) refl h

-- ---- All records

same_all : (rs : List Record) (w : World) → after_all (map at_first_copy rs) w ≡ after_all rs w
unfolding after_all
same_all [] w = refl
same_all (r ∷ rs) w = ap (after_all (map at_first_copy rs)) (same_after r w) ∙ same_all rs (after r w)

-- Found are the same values, by records of the same kinds
same_compares : (r : Record) → compares (at_first_copy r) ≡ compares r
same_compares None = refl
same_compares (Write a v) = refl
same_compares (Read a v) = refl
same_compares (SpRun b) = refl
same_compares (DpRun b) = refl
same_compares (Tick n) = refl
same_compares Break = refl
same_compares Acknowledge = refl
same_compares (Store a word) = refl
same_compares (Check a word) = refl
same_compares (Run a b) = refl

same_differs : (r : Record) (w : World) → differs (at_first_copy r) w ≡ differs r w
same_differs None w = refl
same_differs (Write a v) w = refl
same_differs (Read a v) w = ap (λ (o : Outcome). not (eqb o.answer.value v)) (sym (read_mirrored w.state a))
same_differs (SpRun b) w = refl
same_differs (DpRun b) w = refl
same_differs (Tick n) w = refl
same_differs Break w = refl
same_differs Acknowledge w = refl
same_differs (Store a word) w = refl
same_differs (Check a word) w = refl
same_differs (Run a b) w = refl

same_size : (r : Record) → record_size (at_first_copy r) ≡ record_size r
same_size None = refl
same_size (Write a v) = refl
same_size (Read a v) = refl
same_size (SpRun b) = refl
same_size (DpRun b) = refl
same_size (Tick n) = refl
same_size Break = refl
same_size Acknowledge = refl
same_size (Store a word) = refl
same_size (Check a word) = refl
same_size (Run a b) = refl

same_total : (test : Record → World → Bool) → ((r : Record) (w : World) → test (at_first_copy r) w ≡ test r w)
    → (rs : List Record) (w : World) → total test (map at_first_copy rs) w ≡ total test rs w
unfolding total
same_total test same [] w = refl
same_total test same (r ∷ rs) w = rw (same r w, same_after r w) (ap (λ (n : ℕ). as_bit (test r w) + n) (same_total test same rs (after r w)))

same_first : (size : Record → ℕ) → ((r : Record) → size (at_first_copy r) ≡ size r) → (n : ℕ) (rs : List Record) (w : World)
    → first_from size n (map at_first_copy rs) w ≡ first_from size n rs w
unfolding first_from
same_first size same n [] w = refl
same_first size same n (r ∷ rs) w =
    rw (same_differs r w, same_after r w, same r) (ap (cond (differs r w) n) (same_first size same (n + size r) rs (after r w)))

same_findings : (rs : List Record) (w : World) → findings (map at_first_copy rs) w ≡ findings rs w
same_findings rs w =
    λ i. record {
      compared = same_total (λ (r : Record) (v : World). compares r) (λ r v. same_compares r) rs w i;
      differed = same_total differs same_differs rs w i;
      index = same_first one (λ r. refl) 0 rs w i;
      place = same_first record_size same_size 0 rs w i;
    }

same_lines : (rs : List Record) (w : World) (l : Text) → SameLines rs (lines rs w ++ l) (lines (map at_first_copy rs) w ++ l)
unfolding lines
same_lines [] w l = last l
same_lines (r ∷ rs) w l =
    rw (
      same_after r w,
      append_assoc (line r w) (lines rs (after r w)) l,
      append_assoc (line (at_first_copy r) w) (lines (map at_first_copy rs) (after r w)) l,
    )
    (same_line r w (same_lines rs (after r w) l))

-- An address takes eight digits, whichever it is
same_length : {rs : List Record} {x y : Text} → SameLines rs x y → length x ≡ length y
unfolding found_line
same_length (last l) = refl
same_length (reads {x = x} {y = y} a found expected h) =
    length-append (found_line letter_r false a found expected) x
    ∙ ap (λ (n : ℕ). length (found_line letter_r false a found expected) + n) (same_length h)
    ∙ sym (length-append (found_line letter_r false (first_copy a) found expected) y)
same_length (others {x = x} {y = y} r l e h) = length-append l x ∙ ap (λ (n : ℕ). length l + n) (same_length h) ∙ sym (length-append l y)

-- ---- The whole replay

record SamePlayed (rs : List Record) (p q : Played) : Type 0 where
  outcome : p.outcome ≡ q.outcome
  place : p.place ≡ q.place
  findings : p.findings ≡ q.findings
  memory : p.memory ≡ q.memory
  listing : SameListing rs p.text q.text

same_played : (x : Split) (w : World) → SamePlayed x.items (headed (played x w)) (headed (played (split_at_first_copy x) w))
same_played x w =
    let n = length-map x.items at_first_copy in
    record {
      outcome = λ i. ending (sym (same_all x.items w) i).state x.number (sym n i);
      place = refl;
      findings = sym (same_findings x.items w);
      memory = ap (λ (v : World). v.memory) (sym (same_all x.items w));
      listing = rw n (after_header (same_lines x.items w (last_line x.number (length x.items) x.place)));
    }

same_not : (n : ℕ) (w : World) → SamePlayed [] (headed (not_played n w)) (headed (not_played n w))
same_not n w = record { outcome = refl; place = refl; findings = refl; memory = refl; listing = after_header (last _) }

module _ (s : List ℕ) (w : World) (b : Bytes s) where
  same_refusal : replay_refusal (bytes_at_first_copy s) w ≡ replay_refusal s w
  unfolding replay_refusal
  same_refusal = ap (λ (n : ℕ). check (leb n longest) 9 (sp_refusal w.state w.memory)) (read_at_first_copy s b).length_kept

  same_replay : SamePlayed (performed s w) (replay s w) (replay (bytes_at_first_copy s) w)
  same_replay = go (replay_refusal s w) refl
    where
      go : (n : ℕ) → replay_refusal s w ≡ n → SamePlayed (performed s w) (replay s w) (replay (bytes_at_first_copy s) w)
      go zero e =
          rw (
            if_accepted (replay_refusal s w) [] (split s).items e,
            replay_begun s w e,
            replay_begun (bytes_at_first_copy s) w (same_refusal ∙ e),
            (read_at_first_copy s b).splitting,
          )
          (same_played (split s) w)
      go (suc n) e =
          let no : replay_refusal s w ≡ 0 → ⊥ = λ z. omega (arith, e, z) in
          rw (
            if_refused_lem (replay_refusal s w) [] (split s).items no,
            replay_not s w no,
            replay_not (bytes_at_first_copy s) w (λ z. no (sym same_refusal ∙ z)),
            same_refusal,
          )
          (same_not (replay_refusal s w) w)

listing_length : {rs : List Record} {x y : Text} → SameListing rs x y → length x ≡ length y
listing_length (after_header h) = omega (arith, same_length h)

pub every_replay_at_first_copy : EveryReplayAtFirstCopy
every_replay_at_first_copy state s m d r s' m' d' first s₁ m₁ d₁ b g h =
    let p = same_replay s (world state m) b in
    record {
      outcome = g.outcome ∙ p.outcome ∙ sym h.outcome;
      place = g.place ∙ p.place ∙ sym h.place;
      findings = g.findings ∙ p.findings ∙ sym h.findings;
      memory = g.bytes ∙ p.memory ∙ sym h.bytes;
      written = g.written ∙ ap (λ (n : ℕ). min n (length d)) (listing_length p.listing) ∙ sym h.written;
      listing = p.listing;
    }
