-- The verdict: each case exactly where it applies, a pass and what it says of the replay, and what the listing shows.
use Prim.Native.Nat.{ℕ, zero, suc, ◌+◌, ◌<◌}
use mathlib.Core.Path.{◌≡◌, refl, sym, ap, ◌∙◌}
use mathlib.Core.Bool.{Bool, true, false, ◌&&◌}
use mathlib.Core.List.{List, [], ◌++◌, append-nil}
use native.Mathlib.Omega.{arith}
use native.Mathlib.Nat.{add-zero, zero-add}
use lib.Dec.{ltb, eqb}
use lib.ListN.{length}
use borrow.Author.Tests.{ltb-true, lt-ltb, ne_eqb}
use Rattle.words.specs.Memory.{Memory}
use Rattle.words.proofs.Tests.{and_true}
use Rattle.machine.specs.declared.State.{State}
use Rattle.machine.specs.declared.Outcome.{Outcome}
use Rattle.laws.specs.World.{World, world}
use Rattle.recording.specs.Split.{split}
use Rattle.listing.specs.Text.{Text, header, stop_line}
use Rattle.listing.specs.TakenApart.{count_lines, compared_line, expected_line}
use Rattle.listing.proofs.TakenApart.{Counted, header_counted, end_counted, stop_counted}
use Rattle.playback.specs.declared.Findings.{Findings}
use Rattle.playback.specs.declared.Replayed.{Replayed}
use Rattle.playback.specs.declared.Verdict.{Verdict}
use Rattle.playback.specs.declared.Verdict.TheVariants.{Passed}
use Rattle.playback.specs.Findings.{compared, differed}
use Rattle.playback.specs.Replay.{Played, lines, last_line, replay_refusal, replay}
use Rattle.playback.specs.Promised.{ReplayGives}
use Rattle.playback.specs.Verdict.{judged, verdict, number_of, compared_of, differed_of, VerdictGives, code_of, Judged, Passes, EveryPass, EveryReplayShown}
use Rattle.playback.proofs.Found.{lines_compared, lines_expected}
use Rattle.playback.proofs.Steps.{replay_begun, replay_not}
use Rattle.playback.proofs.Replaying.{by_refusal, not_begun, begun_outcome, begun_findings}

-- ---- The cases

nonzero : (n : ℕ) → eqb (suc n) 0 ≡ false
nonzero n = ne_eqb (suc n) 0 (λ z. omega arith)

positive : (n : ℕ) → ltb 0 (suc n) ≡ true
positive n = lt-ltb 0 (suc n) (omega arith)

by_cases : (n c d index place : ℕ) → Judged n (record { compared = c; differed = d; index = index; place = place })
unfolding judged
by_cases (suc n) c d index place =
    record {
      number = refl;
      compared = refl;
      differed = refl;
      refused = rw (nonzero n);
      differs = rw (nonzero n);
      nothing = rw (nonzero n);
      passed = rw (nonzero n);
    }
by_cases zero c (suc d) index place =
    record {
      number = rw (positive d);
      compared = rw (positive d);
      differed = rw (positive d);
      refused = rw (positive d);
      differs = rw (positive d);
      nothing = rw (positive d, nonzero d);
      passed = rw (positive d, nonzero d);
    }
by_cases zero (suc c) zero index place =
    record {
      number = rw (nonzero c);
      compared = rw (nonzero c);
      differed = rw (nonzero c);
      refused = rw (nonzero c);
      differs = rw (nonzero c);
      nothing = rw (nonzero c);
      passed = rw (nonzero c, positive c);
    }
by_cases zero zero zero index place =
    record { number = refl; compared = refl; differed = refl; refused = refl; differs = refl; nothing = refl; passed = refl }

-- Whatever was found
pub every_judged : (number : ℕ) (f : Findings) → Judged number f
every_judged number f = by_cases number f.compared f.differed f.index f.place

pub verdict_given : {r : Replayed} {v : Verdict} → v ≡ verdict r → VerdictGives r v
verdict_given {r} e =
    let j = every_judged r.outcome.answer.number r.findings in
    record { given = e; number = ap number_of e ∙ j.number; compared = ap compared_of e ∙ j.compared; differed = ap differed_of e ∙ j.differed }

-- ---- A pass

passed_some : (number : ℕ) (f : Findings) (n : ℕ) → judged number f ≡ Passed n → 0 < f.compared
passed_some number f n e =
    let all : eqb number 0 && eqb f.differed 0 && ltb 0 f.compared ≡ true =
    sym (every_judged number f).passed ∙ ap (λ (v : Verdict). eqb (code_of v) 100) e in
    ltb-true 0 f.compared (and_true (eqb number 0 && eqb f.differed 0) (ltb 0 f.compared) all).1

passed_by : (number : ℕ) (f : Findings) (n : ℕ) → number ≡ 0 → f.compared ≡ n → f.differed ≡ 0 → 0 < n → judged number f ≡ Passed n
unfolding judged
passed_by number f zero a b c h = absurd (omega arith)
passed_by number f (suc n) a b c h = rw (a, b, c, nonzero n)

module _ (state : State) (s : List ℕ) (m : Memory) (d : List ℕ) (r : Replayed) (s' : List ℕ) (m' : Memory) (d' : List ℕ)
    (g : ReplayGives state s m d r s' m' d') where
  -- A replay that passed began
  passed_began : r.outcome.answer.number ≡ 0 → replay_refusal s (world state m) ≡ 0
  passed_began z =
      by_refusal (replay_refusal s (world state m)) (λ e. e)
      (λ k e.
      let o = ap (λ (x : Outcome). x.answer.number) (not_begun state s m d r s' m' d' g k e).0 in
      absurd (omega (arith, o, z)))

  passes : (n : ℕ) → verdict r ≡ Passed n → Passes s state m n
  passes n e =
      let j = every_judged r.outcome.answer.number r.findings in
      let z : r.outcome.answer.number ≡ 0 = sym j.number ∙ ap number_of e in
      let c : r.findings.compared ≡ n = sym j.compared ∙ ap compared_of e in
      let b = passed_began z in
      let f = begun_findings state s m d r s' m' d' g b in
      record {
        began = b;
        accepted = ap (λ (x : Outcome). x.answer.number) (sym (begun_outcome state s m d r s' m' d' g b)) ∙ z;
        compared = ap (λ (x : Findings). x.compared) (sym f) ∙ c;
        some = omega (arith, c, passed_some r.outcome.answer.number r.findings n e);
        as_expected = ap (λ (x : Findings). x.differed) (sym f) ∙ sym j.differed ∙ ap differed_of e;
      }

  is_passed : (n : ℕ) → Passes s state m n → verdict r ≡ Passed n
  is_passed n p =
      let f = begun_findings state s m d r s' m' d' g p.began in
      passed_by r.outcome.answer.number r.findings n
      (ap (λ (x : Outcome). x.answer.number) (begun_outcome state s m d r s' m' d' g p.began) ∙ p.accepted)
      (ap (λ (x : Findings). x.compared) f ∙ p.compared)
      (ap (λ (x : Findings). x.differed) f ∙ p.as_expected)
      p.some

pub every_pass : EveryPass
every_pass state s m d r s' m' d' n g = (passes state s m d r s' m' d' g n, is_passed state s m d r s' m' d' g n)

-- ---- The listing

-- The last line is no line of a read or a check
module _ (test : Text → Bool) where
  -- What it is that the first and the last line are not
  record Others : Type 0 where
    headed : Counted test false header
    ended : (number count place : ℕ) → Counted test false (last_line number count place)

  -- Where nothing follows
  alone : (l : Text) → Counted test false l → count_lines test [] l ≡ 0
  unfolding count_lines
  alone l c = ap (count_lines test []) (sym (append-nil l)) ∙ c [] ∙ zero-add 0

  shown_not : (s : List ℕ) (w : World) (n : ℕ) → Others → replay_refusal s w ≡ suc n → count_lines test [] (replay s w).text ≡ 0
  shown_not s w n o e =
      ap (λ (x : Played). count_lines test [] x.text) (replay_not s w (λ z. omega (arith, e, z)))
      ∙ o.headed (stop_line 0 (replay_refusal s w) 0)
      ∙ zero-add (count_lines test [] (stop_line 0 (replay_refusal s w) 0))
      ∙ stop-alone (replay_refusal s w) n e
    where
      stop-alone : (k n : ℕ) → k ≡ suc n → count_lines test [] (stop_line 0 k 0) ≡ 0
      stop-alone zero n e = absurd (omega arith)
      stop-alone (suc k) n e = alone (stop_line 0 (suc k) 0) (o.ended (suc k) 0 0)

  shown_begun : (s : List ℕ) (w : World) (holds : ℕ) → Others
      → ((t : Text) → count_lines test [] (lines (split s).items w ++ t) ≡ holds + count_lines test [] t)
      → replay_refusal s w ≡ 0 → count_lines test [] (replay s w).text ≡ holds
  shown_begun s w holds o all e =
      let t = last_line (split s).number (length (split s).items) (split s).place in
      ap (λ (x : Played). count_lines test [] x.text) (replay_begun s w e)
      ∙ o.headed (lines (split s).items w ++ t)
      ∙ zero-add (count_lines test [] (lines (split s).items w ++ t))
      ∙ all t
      ∙ ap (λ (n : ℕ). holds + n) (alone t (o.ended (split s).number (length (split s).items) (split s).place))
      ∙ add-zero holds

others_compared : Others compared_line
others_compared = record { headed = header_counted compared_line refl; ended = last }
  where
    last : (number count place : ℕ) → Counted compared_line false (last_line number count place)
    last zero count place = end_counted compared_line count refl
    last (suc number) count place = stop_counted compared_line count (suc number) place refl

others_expected : Others expected_line
others_expected = record { headed = header_counted expected_line refl; ended = last }
  where
    last : (number count place : ℕ) → Counted expected_line false (last_line number count place)
    last zero count place = end_counted expected_line count refl
    last (suc number) count place = stop_counted expected_line count (suc number) place refl

pub every_replay_shown : EveryReplayShown
every_replay_shown state s m d r s' m' d' g =
    let w = world state m in
    by_refusal (replay_refusal s w)
    (λ z.
    let f = begun_findings state s m d r s' m' d' g z in
    record {
      compared =
          shown_begun compared_line s w (compared (split s).items w) others_compared (lines_compared (split s).items w) z
          ∙ ap (λ (x : Findings). x.compared) (sym f);
      differed =
          shown_begun expected_line s w (differed (split s).items w) others_expected (lines_expected (split s).items w) z
          ∙ ap (λ (x : Findings). x.differed) (sym f);
    })
    (λ k e.
    let f = (not_begun state s m d r s' m' d' g k e).2 in
    record {
      compared = shown_not compared_line s w k others_compared e ∙ ap (λ (x : Findings). x.compared) (sym f);
      differed = shown_not expected_line s w k others_expected e ∙ ap (λ (x : Findings). x.differed) (sym f);
    })
