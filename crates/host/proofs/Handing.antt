-- States cross to a host and back.
use Prim.Native.Nat.{ℕ, zero, suc}
use mathlib.Core.Path.{◌≡◌, refl, sym, ap, ◌∙◌}
use mathlib.Core.Bool.{Bool, true, false}
use mathlib.Core.List.{List}
use native.Mathlib.Omega.{arith}
use borrow.Author.Tests.{leb-true}
use Rattle.words.specs.Bits.{as_bit}
use Rattle.words.specs.Tests.{all}
use Rattle.words.proofs.Tests.{by, contradiction, and_true, true_and, facts}
use Rattle.sp.specs.declared.SpState.{SpState}
use Rattle.sp.specs.Sound.{sp_sound}
use Rattle.dp.specs.declared.DpState.{DpState}
use Rattle.machine.specs.declared.State.{State}
use Rattle.machine.specs.declared.Outcome.{Outcome}
use Rattle.machine.specs.Sound.{sound}
use Rattle.machine.specs.Refusals.{declined, Answers}
use Rattle.bursts.specs.Bursts.{burst_refusal, write_registers}
use Rattle.bursts.proofs.Bursts.{burst_declined}
use Rattle.host.specs.declared.HostSp.{HostSp}
use Rattle.host.specs.declared.HostDp.{HostDp}
use Rattle.playback.specs.Verdict.{judged, code_of}
use Rattle.host.specs.declared.HostState.{HostState}
use Rattle.host.specs.declared.HostOutcome.{HostOutcome}
use Rattle.host.specs.States.{is_flag, is_on, sp_flags, dp_flags, flags, sp_decoded, dp_decoded, unsound, decoded, sp_encoded, dp_encoded, encoded, handed}
use Rattle.host.specs.Handing.{FromHost, ToHost, CallFromHost, EveryHostVerdict}

-- ---- One flag

byte_back : (b : ℕ) → is_flag b ≡ true → as_bit (is_on b) ≡ b
byte_back zero e = refl
byte_back (suc zero) e = refl
byte_back (suc (suc b)) e = absurd (omega (arith, leb-true (suc (suc b)) 1 e))

flag_back : (b : Bool) → is_on (as_bit b) ≡ b
flag_back true = refl
flag_back false = refl

flag_is : (b : Bool) → is_flag (as_bit b) ≡ true
flag_is true = refl
flag_is false = refl

-- ---- Both engines, from a host and back

sp_same : (h : HostSp) → all (sp_flags h) ≡ true → sp_encoded (sp_decoded h) ≡ h
sp_same h e =
    let f = facts (sp_flags h) e in
    rw (
      byte_back h.busy f.0,
      byte_back h.storing f.1.0,
      byte_back h.full f.1.1.0,
      byte_back h.waitstoring f.1.1.1.0,
      byte_back h.halted f.1.1.1.1.0,
      byte_back h.broke f.1.1.1.1.1.0,
      byte_back h.sstep f.1.1.1.1.1.1.0,
      byte_back h.intbreak f.1.1.1.1.1.1.1.0,
      byte_back h.line f.1.1.1.1.1.1.1.1.0,
      byte_back h.semaphore f.1.1.1.1.1.1.1.1.1.0,
    )

dp_same : (h : HostDp) → all (dp_flags h) ≡ true → dp_encoded (dp_decoded h) ≡ h
dp_same h e =
    let f = facts (dp_flags h) e in
    rw (
      byte_back h.startpending f.0,
      byte_back h.endpending f.1.0,
      byte_back h.xbus f.1.1.0,
      byte_back h.freeze f.1.1.1.0,
      byte_back h.flush f.1.1.1.1.0,
      byte_back h.pipebusy f.1.1.1.1.1.0,
      byte_back h.line f.1.1.1.1.1.1.0,
    )

-- ---- To a host and back

sp_flagged : (s : SpState) → all (sp_flags (sp_encoded s)) ≡ true
sp_flagged s =
    rw (
      flag_is s.busy,
      flag_is s.storing,
      flag_is s.full,
      flag_is s.waitstoring,
      flag_is s.halted,
      flag_is s.broke,
      flag_is s.sstep,
      flag_is s.intbreak,
      flag_is s.line,
      flag_is s.semaphore,
    )

dp_flagged : (s : DpState) → all (dp_flags (dp_encoded s)) ≡ true
dp_flagged s =
    rw (
      flag_is s.startpending,
      flag_is s.endpending,
      flag_is s.xbus,
      flag_is s.freeze,
      flag_is s.flush,
      flag_is s.pipebusy,
      flag_is s.line,
    )

sp_back : (s : SpState) → sp_decoded (sp_encoded s) ≡ s
sp_back s =
    rw (
      flag_back s.busy,
      flag_back s.storing,
      flag_back s.full,
      flag_back s.waitstoring,
      flag_back s.halted,
      flag_back s.broke,
      flag_back s.sstep,
      flag_back s.intbreak,
      flag_back s.line,
      flag_back s.semaphore,
    )

dp_back : (s : DpState) → dp_decoded (dp_encoded s) ≡ s
dp_back s =
    rw (
      flag_back s.startpending,
      flag_back s.endpending,
      flag_back s.xbus,
      flag_back s.freeze,
      flag_back s.flush,
      flag_back s.pipebusy,
      flag_back s.line,
    )

-- ---- Whole states

unsound_declined : sound unsound ≡ false
unfolding sound sp_sound
unsound_declined = refl

decoded_no_flag : (h : HostState) → flags h ≡ false → decoded h ≡ unsound
unfolding decoded
decoded_no_flag h e = rw e

decoded_flags : (h : HostState) → flags h ≡ true → decoded h ≡ record { sp = sp_decoded h.sp; dp = dp_decoded h.dp; queue = h.queue }
unfolding decoded
decoded_flags h e = rw e

encoded_decoded : (h : HostState) → flags h ≡ true → encoded (decoded h) ≡ h
unfolding flags encoded
encoded_decoded h e =
    let p = and_true (all (sp_flags h.sp)) (all (dp_flags h.dp)) e in
    ap encoded (decoded_flags h e) ∙ rw (sp_same h.sp p.0, dp_same h.dp p.1)

pub from_host : (h : HostState) → FromHost h
from_host h = record {
  no_flag = λ e. ap sound (decoded_no_flag h e) ∙ unsound_declined;
  same = encoded_decoded h;
}

encoded_flags : (s : State) → flags (encoded s) ≡ true
unfolding flags encoded
encoded_flags s = true_and _ _ (sp_flagged s.sp) (dp_flagged s.dp)

decoded_encoded : (s : State) → decoded (encoded s) ≡ s
unfolding encoded
decoded_encoded s = decoded_flags (encoded s) (encoded_flags s) ∙ rw (sp_back s.sp, dp_back s.dp)

pub to_host : (s : State) → ToHost s
to_host s = record { flagged = encoded_flags s; same = decoded_encoded s }

-- ---- Calls

-- A sound state has flags alone
sound_flags : (h : HostState) → sound (decoded h) ≡ true → flags h ≡ true
sound_flags h e = by (flags h) (λ f. f) (λ f. contradiction e ((from_host h).no_flag f))

handed_flags : (h : HostState) (o : Outcome) → flags h ≡ true → handed h o ≡ record { state = encoded o.state; answer = o.answer }
unfolding handed
handed_flags h o e = rw e

handed_no_flag : (h : HostState) (o : Outcome) → flags h ≡ false → handed h o ≡ record { state = h; answer = o.answer }
unfolding handed
handed_no_flag h o e = rw e

-- A declined call left the state that h stands for, whose bytes are h again
from_declined : (h : HostState) (n : ℕ) (o : Outcome) → ((k : ℕ) → n ≡ suc k → o ≡ declined (decoded h) n) → CallFromHost h n o
from_declined h n o r = record {
  declined =
      λ k e.
      let d = r k e in
      by (flags h)
      (λ f. handed_flags h o f ∙ rw (d, encoded_decoded h f))
      (λ f. handed_no_flag h o f ∙ rw d);
  made = λ e. handed_flags h o (sound_flags h e);
}

-- `machine/proofs/Refusals.antt` shows `Answers` of every call but a burst
pub call_from_host : (h : HostState) (n : ℕ) (o : Outcome) → Answers n (decoded h) o → CallFromHost h n o
call_from_host h n o a = from_declined h n o a.refused

pub burst_from_host : (h : HostState) (xs vs : List ℕ) → CallFromHost h (burst_refusal (decoded h) xs vs) (write_registers (decoded h) xs vs)
burst_from_host h xs vs =
    from_declined h (burst_refusal (decoded h) xs vs) (write_registers (decoded h) xs vs)
    (λ k e. burst_declined (decoded h) xs vs k e ∙ ap (declined (decoded h)) (sym e))

-- ---- The verdict

pub every_host_verdict : EveryHostVerdict
unfolding handed
every_host_verdict h s m d r s' m' d' p s₁ m₁ d₁ g e =
    let number : r.outcome.answer.number ≡ p.outcome.answer.number =
    ap (λ (o : HostOutcome). o.answer.number) g.outcome ∙ ap (λ (o : Outcome). o.answer.number) (sym e.outcome) in
    let found : r.findings ≡ p.findings = g.findings ∙ sym e.findings in
    λ i. code_of (judged (number i) (found i))
