-- A waiting transfer begins once, over any trace. After every trace the registers hold what was last written, and no more transfers
-- began than length words were written.
use Prim.Native.Nat.{ℕ, zero, suc, ◌+◌, ◌-◌, ◌*◌, ◌/◌, ◌%◌, ◌<◌, ◌≤◌}
use mathlib.Core.Path.{◌≡◌, refl, sym, ap, ◌∙◌}
use mathlib.Core.Bool.{Bool, true, false, not, cond, ◌&&◌, ◌||◌, or-true, or-false, or_assoc}
use mathlib.Core.Logic.{◌↔◌}
use mathlib.Core.List.{List, [], ◌∷◌, map, Memᴰ}
use native.Mathlib.Omega.{arith}
use native.Mathlib.Nat.{zero-add}
use lib.Dec.{ltb, eqb}
use lib.ListN.{length, get_or, take, drop}
use borrow.Author.Tests.{ne_eqb, lt-ltb, le-ltb, ltb-false}
use Rattle.std.specs.Prelude.{Result, Ok, Err}
use Rattle.words.specs.Bits.{as_bit, bank_address, ram_address, ram_add}
use Rattle.words.specs.Memory.{Memory}
use Rattle.words.proofs.Tests.{by, contradiction}
use Rattle.sp.specs.declared.SpState.{SpState}
use Rattle.sp.specs.declared.SpRegister.TheVariants as SpReg
use Rattle.sp.specs.State.{with_waiting, with_semaphore}
use Rattle.sp.specs.Registers.{sp_status_written, sp_break}
use Rattle.sp.specs.Transfer.{bank_add, started, length_written, next_word, next_row, ended}
use Rattle.sp.specs.Turn.{sp_next, sp_after}
use Rattle.sp.specs.Left.{running_words, transfer_words, words_left}
use Rattle.sp.specs.Rows.{row_turns}
use Rattle.sp.specs.Sound.{SpSound}
use Rattle.sp.proofs.Turn.{Case, idle, in_row, end_of_row, starts, ends, cases, after_add}
use Rattle.sp.proofs.Kept.{next_kept}
use Rattle.sp.proofs.Left.{left_busy}
use Rattle.machine.specs.declared.State.{State}
use Rattle.machine.specs.declared.Outcome.{Outcome}
use Rattle.machine.specs.declared.Register.{Register}
use Rattle.machine.specs.declared.Register.TheVariants.{Sp, Dp}
use Rattle.machine.specs.declared.refusal.AddressError.{AddressError}
use Rattle.machine.specs.declared.refusal.AddressError.TheVariants.{Misaligned, Unmapped}
use Rattle.machine.specs.Sound.{power_up, with_sp, sound}
use Rattle.machine.specs.Address.{in_block, register_at, first_copy, addresses}
use Rattle.machine.specs.Refusals.{is_register, register_number, access_refusal, state_refusal, sp_refusal, dp_refusal, accepted, declined, ending, if_refused}
use Rattle.machine.specs.Calls.{sp_written, read_at, write_at, read_register, write_register, tick, break, acknowledge}
use Rattle.machine.specs.Turns.{sp_turn, dp_turn, consumer_turn}
use Rattle.machine.specs.Runs.{run}
use Rattle.machine.specs.Rows.{sp_row}
use Rattle.machine.proofs.Sound.{facts, power_up_sound}
use Rattle.machine.proofs.Kept.{either_way, read_kept, write_kept, tick_kept, break_kept, acknowledge_kept, sp_turn_kept, sp_row_kept, dp_turn_kept, consumer_turn_kept, run_kept}
use Rattle.machine.proofs.Refusals.{run_declined}
use Rattle.machine.proofs.Runs.{sp_part}
use Rattle.machine.proofs.Rows.{row_is_run}
use Rattle.machine.proofs.Address.{in_block_lem, mirrored, sixteen}
use Rattle.bursts.specs.Bursts.{burst_allowed, burst_refusal, writes_from, write_registers}
use Rattle.bursts.specs.Single.{Words32, leading}
use Rattle.bursts.proofs.Bursts.{write_sound, write_number_lem, allowed, burst_begins, not_declined, burst_declined, burst_kept}
use Rattle.laws.specs.Waiting.{Event, reads, writes, bursts, ticks, breaks, acknowledges, sp_turn_over, sp_row_over, dp_turn_over, consumer_turns, run_over, event_leaves, trace_leaves, Written, noted, noted_all, note, last_written, written_before, Holds, is_length, lengths_among, lengths_of, length_writes, writes_length, moves_of, moves, begins, begun, SameTransfer, Starts, Before, BeginsOnce, TraceWritten}

-- ---- What a write does, by the register at its address

-- What the trace notes of it, whether it is a length word, and the SP registers that it leaves
abbrev notes : Result Register AddressError → ℕ → Written → Written
notes (Ok (Sp SpReg.SpAddr)) v w =
    record { splatch = bank_address v; ramlatch = w.ramlatch; word = w.word; storing = w.storing }
notes (Ok (Sp SpReg.RamAddr)) v w =
    record { splatch = w.splatch; ramlatch = ram_address v; word = w.word; storing = w.storing }
notes (Ok (Sp SpReg.RdLen)) v w =
    record { splatch = w.splatch; ramlatch = w.ramlatch; word = v; storing = false }
notes (Ok (Sp SpReg.WrLen)) v w =
    record { splatch = w.splatch; ramlatch = w.ramlatch; word = v; storing = true }
notes (Ok (Sp SpReg.Status)) v w = w
notes (Ok (Sp SpReg.DmaFull)) v w = w
notes (Ok (Sp SpReg.DmaBusy)) v w = w
notes (Ok (Sp SpReg.Semaphore)) v w = w
notes (Ok (Dp r)) v w = w
notes (Err why) v w = w

abbrev takes_length : Result Register AddressError → Bool
takes_length (Ok (Sp SpReg.SpAddr)) = false
takes_length (Ok (Sp SpReg.RamAddr)) = false
takes_length (Ok (Sp SpReg.RdLen)) = true
takes_length (Ok (Sp SpReg.WrLen)) = true
takes_length (Ok (Sp SpReg.Status)) = false
takes_length (Ok (Sp SpReg.DmaFull)) = false
takes_length (Ok (Sp SpReg.DmaBusy)) = false
takes_length (Ok (Sp SpReg.Semaphore)) = false
takes_length (Ok (Dp r)) = false
takes_length (Err why) = false

-- Two functions that agree on a list agree on each of its elements
same_on : {A : Type 0} (f g : ℕ → A) (l : List ℕ) (a : ℕ) → map f l ≡ map g l → Memᴰ a l → f a ≡ g a
same_on {A = A} f g [] a e h = elim h [ ]
same_on f g (x ∷ l) a e (Memᴰ.head p) = ap f p ∙ ap (λ k. get_or k 0 (f x)) e ∙ ap g (sym p)
same_on f g (x ∷ l) a e (Memᴰ.tail h) = same_on f g l a (ap (drop 1) e) h

-- Where no register stands, nothing is written
none_noted : (r : Result Register AddressError) (v : ℕ) (w : Written) → is_register r ≡ false
    → w ≡ notes r v w
none_noted (Ok (Sp r)) v w e = contradiction refl e
none_noted (Ok (Dp r)) v w e = contradiction refl e
none_noted (Err why) v w e = refl

none_taken : (r : Result Register AddressError) → is_register r ≡ false → false ≡ takes_length r
none_taken (Ok (Sp r)) e = contradiction refl e
none_taken (Ok (Dp r)) e = contradiction refl e
none_taken (Err why) e = refl

other : (a x : ℕ) → is_register (register_at x) ≡ true → is_register (register_at a) ≡ false → eqb a x ≡ false
other a x p q = ne_eqb a x (λ e. contradiction p (ap (λ (b : ℕ). is_register (register_at b)) (sym e) ∙ q))

-- An address is x, which is below the DP registers, exactly if its first copy is x
by_first_copy : (a x : ℕ) → x < 0x04100000 → eqb a x ≡ eqb (first_copy a) x
by_first_copy a x h = by (in_block 0x04100000 0x041FFFFF a) mirror (λ e. rw e)
  where
    mirror : in_block 0x04100000 0x041FFFFF a ≡ true → eqb a x ≡ eqb (first_copy a) x
    mirror e =
        let b = in_block_lem 0x04100000 0x041FFFFF a e in
        ne_eqb a x (λ p. absurd (omega (arith, b.0, p)))
        ∙ rw e (sym (ne_eqb (0x04100000 + a % 0x20) x (λ p. absurd (omega (arith, p)))))

-- The addresses that the trace is read by are those of these registers
notes_at : (a v : ℕ) (w : Written) → noted a v w ≡ notes (register_at a) v w
unfolding register_at
notes_at a v w =
    by (is_register (register_at a))
    (λ e.
    rw (
      by_first_copy a 0x04040000 (omega arith),
      by_first_copy a 0x04040004 (omega arith),
      by_first_copy a 0x04040008 (omega arith),
      by_first_copy a 0x0404000C (omega arith),
      mirrored a,
    )
    (same_on (λ x. noted x v w) (λ x. notes (register_at x) v w) addresses (first_copy a) refl ((sixteen a).0 e)))
    (λ e.
    rw (other a 0x04040000 refl e, other a 0x04040004 refl e, other a 0x04040008 refl e, other a 0x0404000C refl e)
    (none_noted (register_at a) v w e))

length_at : (a : ℕ) → is_length a ≡ takes_length (register_at a)
unfolding register_at
length_at a =
    by (is_register (register_at a))
    (λ e.
    rw (by_first_copy a 0x04040008 (omega arith), by_first_copy a 0x0404000C (omega arith), mirrored a)
    (same_on is_length (λ x. takes_length (register_at x)) addresses (first_copy a) refl ((sixteen a).0 e)))
    (λ e.
    rw (other a 0x04040008 refl e, other a 0x0404000C refl e)
    (none_taken (register_at a) e))

-- A write to a sound state
write_leaves : (s : State) (a v : ℕ) → sound s ≡ true → (write_register s a v).state.sp ≡ sp_written (register_at a) s.sp v
write_leaves s a v e = rw (write_sound s a v e) (at (register_at a))
  where
    at : (r : Result Register AddressError) → (write_at r s v).state.sp ≡ sp_written r s.sp v
    at (Ok (Sp r)) = refl
    at (Ok (Dp r)) = refl
    at (Err why) = refl

-- ---- What was last written, and the registers

abbrev written_in : SpState → Written
written_in s = record { splatch = s.splatch; ramlatch = s.ramlatch; word = s.waiting; storing = s.waitstoring }

-- Registers that are the same, with FULL not coming on, hold the same
holds_on : (w : Written) (s t : SpState) → written_in t ≡ written_in s → (t.full ≡ true → s.full ≡ true) → Holds w s → Holds w t
holds_on w s t e f h = record {
  splatch = ap (λ (x : Written). x.splatch) e ∙ h.splatch;
  ramlatch = ap (λ (x : Written). x.ramlatch) e ∙ h.ramlatch;
  waiting = λ g. ap (λ (x : Written). x.word) e ∙ h.waiting (f g);
  waitstoring = λ g. ap (λ (x : Written). x.storing) e ∙ h.waitstoring (f g);
}

-- With FULL on they hold all of it
holds_all_lem : (w : Written) (s : SpState) → s.full ≡ true → Holds w s → written_in s ≡ w
holds_all_lem w s f h = rw (h.splatch, h.ramlatch, h.waiting f, h.waitstoring f)

-- ---- What a call of the trace does to the SP engine

-- From s to t no word is moved and no length word is written, and f says what was last written
record Still (s t : SpState) (f : Written → Written) : Type 0 where
  same : SameTransfer t s
  full : t.full ≡ s.full
  holds : (w : Written) → Holds w s → Holds (f w) t

-- No more than n transfers begin, or wait in the end, beside the one that waited before
abbrev Uses : ℕ → SpState → SpState → Type 0
Uses n s t = as_bit (begins s t) + as_bit t.full ≤ n + as_bit s.full

-- From s to t no word is moved, n length words are written, and f says what was last written
record Several (n : ℕ) (s t : SpState) (f : Written → Written) : Type 0 where
  holds : (w : Written) → Holds w s → Holds (f w) t
  uses : Uses n s t
  waits : s.busy ≡ true → SameTransfer t s × (t.full ≡ (s.full || ltb 0 n))

-- A call changes nothing of the transfers but the latches, or writes a length word, or takes SP turns, or does several writes
data Effect (e : Event) (s : State) : Type 0 where
  still : lengths_of e ≡ 0 → moves_of e s ≡ 0 → Still s.sp (event_leaves e s).sp (note e) → Effect e s
  wrote : (v : ℕ) (storing : Bool) → lengths_of e ≡ 1 → moves_of e s ≡ 0 → (event_leaves e s).sp ≡ length_written s.sp v storing
      → ((w : Written) → note e w ≡ record { splatch = w.splatch; ramlatch = w.ramlatch; word = v; storing = storing }) → Effect e s
  turned : lengths_of e ≡ 0 → (event_leaves e s).sp ≡ sp_after (moves_of e s) s.sp → ((w : Written) → note e w ≡ w) → Effect e s
  several : moves_of e s ≡ 0 → Several (lengths_of e) s.sp (event_leaves e s).sp (note e) → Effect e s

-- Only other registers change
others : (s t : SpState) → SameTransfer t s → t.full ≡ s.full → written_in t ≡ written_in s → Still s t (λ w. w)
others s t p f e = record { same = p; full = f; holds = λ w h. holds_on w s t e (λ g. sym f ∙ g) h }

-- Nothing changes
same_transfer : (s : SpState) → SameTransfer s s
same_transfer s = search

nothing : (s : SpState) → Still s s (λ w. w)
nothing s = others s s (same_transfer s) refl refl

-- A read changes no more than the semaphore
read_still : (r : Result Register AddressError) (s : State)
    → Still s.sp (read_at r s).state.sp (λ w. w)
read_still (Ok (Sp SpReg.SpAddr)) s = nothing s.sp
read_still (Ok (Sp SpReg.RamAddr)) s = nothing s.sp
read_still (Ok (Sp SpReg.RdLen)) s = nothing s.sp
read_still (Ok (Sp SpReg.WrLen)) s = nothing s.sp
read_still (Ok (Sp SpReg.Status)) s = nothing s.sp
read_still (Ok (Sp SpReg.DmaFull)) s = nothing s.sp
read_still (Ok (Sp SpReg.DmaBusy)) s = nothing s.sp
read_still (Ok (Sp SpReg.Semaphore)) s = others s.sp (with_semaphore s.sp true) (search) refl refl
read_still (Ok (Dp r)) s = nothing s.sp
read_still (Err why) s = nothing s.sp

-- A call that may be declined
quiet : (n : ℕ) (s : State) (done : Outcome) → Still s.sp done.state.sp (λ w. w)
    → Still s.sp (if_refused n (declined s n) done).state.sp (λ w. w)
quiet n s done h = either_way (λ t. Still s.sp t.sp (λ w. w)) n s done (nothing s.sp) h

-- A write that starts or queues no transfer, by its register
write_still : (r : Result Register AddressError) (s : SpState) (v : ℕ) → takes_length r ≡ false
    → Still s (sp_written r s v) (notes r v)
write_still (Ok (Sp SpReg.SpAddr)) s v l =
    record { same = search; full = refl; holds = λ w h. record { splatch = refl; ramlatch = h.ramlatch; waiting = h.waiting; waitstoring = h.waitstoring } }
write_still (Ok (Sp SpReg.RamAddr)) s v l =
    record { same = search; full = refl; holds = λ w h. record { splatch = h.splatch; ramlatch = refl; waiting = h.waiting; waitstoring = h.waitstoring } }
write_still (Ok (Sp SpReg.RdLen)) s v l = contradiction refl l
write_still (Ok (Sp SpReg.WrLen)) s v l = contradiction refl l
write_still (Ok (Sp SpReg.Status)) s v l = others s (sp_status_written s v) (search) refl refl
write_still (Ok (Sp SpReg.DmaFull)) s v l = nothing s
write_still (Ok (Sp SpReg.DmaBusy)) s v l = nothing s
write_still (Ok (Sp SpReg.Semaphore)) s v l = others s (with_semaphore s false) (search) refl refl
write_still (Ok (Dp r)) s v l = nothing s
write_still (Err why) s v l = nothing s

-- A write of v to s at an address of the register r
record WriteTo (r : Result Register AddressError) (a v : ℕ) (s : State) : Type 0 where
  leaves : (write_register s a v).state.sp ≡ sp_written r s.sp v
  written : (w : Written) → noted a v w ≡ notes r v w
  length : is_length a ≡ takes_length r

write_effect : (a v : ℕ) (f : v < 0x100000000) (s : State) → sound s ≡ true → Effect (writes a v f) s
write_effect a v f s h = at (register_at a) (record { leaves = write_leaves s a v h; written = notes_at a v; length = length_at a })
  where
    short : (r : Result Register AddressError) → takes_length r ≡ false → WriteTo r a v s
        → Effect (writes a v f) s
    short r e p =
        let k = write_still r s.sp v e in
        still (ap as_bit (p.length ∙ e)) refl
        (rw p.leaves (record { same = k.same; full = k.full; holds = λ w g. rw (p.written w) (k.holds w g) }))

    at : (r : Result Register AddressError) → WriteTo r a v s → Effect (writes a v f) s
    at (Ok (Sp SpReg.SpAddr)) p = short (Ok (Sp SpReg.SpAddr)) refl p
    at (Ok (Sp SpReg.RamAddr)) p = short (Ok (Sp SpReg.RamAddr)) refl p
    at (Ok (Sp SpReg.RdLen)) p = wrote v false (ap as_bit p.length) refl p.leaves p.written
    at (Ok (Sp SpReg.WrLen)) p = wrote v true (ap as_bit p.length) refl p.leaves p.written
    at (Ok (Sp SpReg.Status)) p = short (Ok (Sp SpReg.Status)) refl p
    at (Ok (Sp SpReg.DmaFull)) p = short (Ok (Sp SpReg.DmaFull)) refl p
    at (Ok (Sp SpReg.DmaBusy)) p = short (Ok (Sp SpReg.DmaBusy)) refl p
    at (Ok (Sp SpReg.Semaphore)) p = short (Ok (Sp SpReg.Semaphore)) refl p
    at (Ok (Dp r)) p = short (Ok (Dp r)) refl p
    at (Err why) p = short (Err why) refl p

-- An SP turn, a row or a run leaves what its turns leave; declined, it takes none
turn_leaves : (s : State) (m : Memory) → sp_refusal s m ≡ 0 → (sp_turn s m).state.sp ≡ sp_next s.sp
unfolding sp_turn
turn_leaves s m e = rw e

turn_moves : (s : State) (m : Memory) → (sp_turn s m).state.sp ≡ sp_after (as_bit (eqb (sp_refusal s m) 0)) s.sp
unfolding sp_turn sp_after
turn_moves s m = at (sp_refusal s m)
  where
    at : (n : ℕ) → (if_refused n (declined s n) (accepted (with_sp s (sp_next s.sp)) 0 (as_bit s.sp.busy))).state.sp ≡ sp_after (as_bit (eqb n 0)) s.sp
    at zero = refl
    at (suc n) = rw (ne_eqb (suc n) 0 (λ z. absurd (omega arith)))

run_moves : (s : State) (a b c : ℕ) (m : Memory) (out : List ℕ)
    → (run s a b c m out).outcome.state.sp ≡ sp_after (run s a b c m out).outcome.answer.count s.sp
unfolding sp_after
run_moves s a b c m out = at (sp_refusal s m) refl
  where
    at : (n : ℕ) → sp_refusal s m ≡ n → (run s a b c m out).outcome.state.sp ≡ sp_after (run s a b c m out).outcome.answer.count s.sp
    at zero z =
        let h = sp_part s m out z a b c in
        h.registers ∙ ap (λ (n : ℕ). sp_after n s.sp) (sym h.count)
    at (suc n) z = rw (run_declined s a b c m out n z)

-- A row is the run with its turns
row_moves : (s : State) (m : Memory) → (sp_row s m).state.sp ≡ sp_after (sp_row s m).answer.count s.sp
row_moves s m = rw (row_is_run s m []).outcome (run_moves s (row_turns s.sp) 0 0 m [])

-- ---- A length word is written

length_busy : (s : SpState) (v : ℕ) (storing : Bool) → s.busy ≡ true → length_written s v storing ≡ with_waiting s v storing
unfolding length_written
length_busy s v storing b = rw b

length_idle : (s : SpState) (v : ℕ) (storing : Bool) → s.busy ≡ false → length_written s v storing ≡ started s v storing
unfolding length_written
length_idle s v storing b = rw b

-- Busy, it waits; idle, nothing does
length_holds : (w : Written) (s : SpState) (v : ℕ) (storing : Bool) → Holds w s
    → Holds (record { splatch = w.splatch; ramlatch = w.ramlatch; word = v; storing = storing }) (length_written s v storing)
unfolding started
length_holds w s v storing h =
    by s.busy
    (λ b. rw (length_busy s v storing b) (record { splatch = h.splatch; ramlatch = h.ramlatch; waiting = λ _. refl; waitstoring = λ _. refl }))
    (λ b.
    rw (length_idle s v storing b)
    (record { splatch = h.splatch; ramlatch = h.ramlatch; waiting = λ f. contradiction f refl; waitstoring = λ f. contradiction f refl }))

-- ---- Turns

-- From s to t, turns turn neither BUSY nor FULL on, and keep latches, waiting word and its direction
record Turned (s t : SpState) : Type 0 where
  busy : t.busy ≡ true → s.busy ≡ true
  full : t.full ≡ true → s.full ≡ true
  written : written_in t ≡ written_in s

next_turned : (s : SpState) → Turned s (sp_next s)
unfolding next_word next_row started ended
next_turned s = go (cases s)
  where
    go : Case s → Turned s (sp_next s)
    go (idle b e) = rw e (record { busy = λ x. x; full = λ x. x; written = refl })
    go (in_row b l e) = rw e (record { busy = λ _. b; full = λ x. x; written = refl })
    go (end_of_row b l c e) = rw e (record { busy = λ _. b; full = λ x. x; written = refl })
    go (starts b l c f e) = rw e (record { busy = λ _. b; full = λ _. f; written = refl })
    go (ends b l c f e) = rw e (record { busy = λ _. b; full = λ x. contradiction x refl; written = refl })

after_turned : (n : ℕ) (s : SpState) → Turned s (sp_after n s)
unfolding sp_after
after_turned zero s = record { busy = λ x. x; full = λ x. x; written = refl }
after_turned (suc n) s =
    let first = next_turned s in
    let rest = after_turned n (sp_next s) in
    record { busy = λ x. first.busy (rest.busy x); full = λ x. first.full (rest.full x); written = rest.written ∙ first.written }

-- ---- What was last written stays in the registers

effect_holds : (e : Event) (s : State) → Effect e s → (w : Written) → Holds w s.sp → Holds (note e w) (event_leaves e s).sp
effect_holds e s (still l m k) w g = k.holds w g
effect_holds e s (wrote v storing l m p q) w g = rw (p, q w) (length_holds w s.sp v storing g)
effect_holds e s (turned l p q) w g =
    let t = after_turned (moves_of e s) s.sp in
    rw (p, q w) (holds_on w s.sp (sp_after (moves_of e s) s.sp) t.written t.full g)
effect_holds e s (several m k) w g = k.holds w g

-- ---- Each beginning uses up a length word

-- Where BUSY and FULL do not come on none begins but the one that waited
turned_uses : (n : ℕ) (s t : SpState) → (t.busy ≡ true → s.busy ≡ true) → (t.full ≡ true → s.full ≡ true) → Uses n s t
turned_uses n s t p q = rw (not_on s.busy t.busy p) (off s.full t.full q)
  where
    not_on : (b c : Bool) → (c ≡ true → b ≡ true) → (not b && c) ≡ false
    not_on true c p = refl
    not_on false true p = contradiction (p refl) refl
    not_on false false p = refl

    off : (f g : Bool) → (g ≡ true → f ≡ true) → as_bit (f && not g) + as_bit g ≤ n + as_bit f
    off true true p = omega arith
    off true false p = omega arith
    off false true p = contradiction (p refl) refl
    off false false p = omega arith

-- The same by BUSY and FULL before, and BUSY and FULL after
uses : (n : ℕ) (s t : SpState) (b f c g : Bool) → s.busy ≡ b → s.full ≡ f → t.busy ≡ c → t.full ≡ g
    → as_bit ((not b && c) || (f && not g)) + as_bit g ≤ n + as_bit f → Uses n s t
uses n s t b f c g p q r u h = rw (p, q, r, u) h

length_uses : (s : SpState) (v : ℕ) (storing : Bool) → SpSound s → Uses 1 s (length_written s v storing)
unfolding started
length_uses s v storing h =
    by s.busy
    (λ b. rw (length_busy s v storing b) (uses 1 s (with_waiting s v storing) true s.full true true b refl b refl (waits s.full)))
    (λ b. rw (length_idle s v storing b) (uses 1 s (started s v storing) false false true false b (none b) refl refl (omega arith)))
  where
    waits : (f : Bool) → as_bit (f && false) + 1 ≤ 1 + as_bit f
    waits true = omega arith
    waits false = omega arith

    none : s.busy ≡ false → s.full ≡ false
    none b = by s.full (λ f. contradiction (h.full_busy f) b) (λ f. f)

effect_uses : (e : Event) (s : State) → SpSound s.sp → Effect e s → Uses (lengths_of e) s.sp (event_leaves e s).sp
effect_uses e s h (still l m k) =
    turned_uses (lengths_of e) s.sp (event_leaves e s).sp (λ b. sym k.same.busy ∙ b) (λ f. sym k.full ∙ f)
effect_uses e s h (wrote v storing l m p q) = rw (l, p) (length_uses s.sp v storing h)
effect_uses e s h (turned l p q) =
    let t = after_turned (moves_of e s) s.sp in
    rw (l, p) (turned_uses 0 s.sp (sp_after (moves_of e s) s.sp) t.busy t.full)
effect_uses e s h (several m k) = k.uses

-- ---- While a transfer runs, a call that moves no word leaves it as it is, and a length word waits

effect_waits : (e : Event) (s : State) → moves_of e s ≡ 0 → s.sp.busy ≡ true → Effect e s
    → SameTransfer (event_leaves e s).sp s.sp × ((event_leaves e s).sp.full ≡ (s.sp.full || ltb 0 (lengths_of e)))
unfolding sp_after
effect_waits e s z b (still l m k) = (k.same, k.full ∙ rw l (sym (or-false s.sp.full)))
effect_waits e s z b (wrote v storing l m p q) =
    let w = p ∙ length_busy s.sp v storing b in
    (rw w (waiting v storing), ap (λ (t : SpState). t.full) w ∙ rw l (sym (or-true s.sp.full)))
  where
    waiting : (v : ℕ) (storing : Bool) → SameTransfer (with_waiting s.sp v storing) s.sp
    waiting v storing = search
effect_waits e s z b (turned l p q) = (rw (p, z) (same_transfer s.sp), rw (p, z, l) (sym (or-false s.sp.full)))
effect_waits e s z b (several m k) = k.waits b

-- ---- Several writes, one after the other

same_again : (s t u : SpState) → SameTransfer s t → SameTransfer t u → SameTransfer s u
same_again s t u p q = record {
  spaddr = p.spaddr ∙ q.spaddr;
  ramaddr = p.ramaddr ∙ q.ramaddr;
  len = p.len ∙ q.len;
  count = p.count ∙ q.count;
  skip = p.skip ∙ q.skip;
  row = p.row ∙ q.row;
  storing = p.storing ∙ q.storing;
  busy = p.busy ∙ q.busy;
}

-- Some of a and b is some of a or some of b
some_add : (a b : ℕ) → ltb 0 (a + b) ≡ (ltb 0 a || ltb 0 b)
some_add zero b = ap (ltb 0) (zero-add b)
some_add (suc a) b = lt-ltb 0 (suc a + b) (omega arith) ∙ rw (lt-ltb 0 (suc a) (omega arith))

-- What begins from s to u began before t or after it
begins_add : (s t u : SpState) → as_bit (begins s u) ≤ as_bit (begins s t) + as_bit (begins t u)
begins_add s t u = go s.busy t.busy u.busy s.full t.full u.full
  where
    off : (f g k : Bool) → as_bit (f && not k) ≤ as_bit (f && not g) + as_bit (g && not k)
    off true true k = omega arith
    off true false true = omega arith
    off true false false = omega arith
    off false g k = omega arith

    go : (a b c f g k : Bool)
        → as_bit ((not a && c) || (f && not k)) ≤ as_bit ((not a && b) || (f && not g)) + as_bit ((not b && c) || (g && not k))
    go true true c f g k = off f g k
    go true false true f g k = at_most_two (f && not g) (f && not k)
      where
        at_most_two : (x y : Bool) → as_bit y ≤ as_bit x + 1
        at_most_two true true = omega arith
        at_most_two true false = omega arith
        at_most_two false true = omega arith
        at_most_two false false = omega arith
    go true false false f g k = off f g k
    go false true c f g k = one ((not false && c) || (f && not k)) ((not true && c) || (g && not k))
      where
        one : (x y : Bool) → as_bit x ≤ 1 + as_bit y
        one true true = omega arith
        one true false = omega arith
        one false true = omega arith
        one false false = omega arith
    go false false true f g k = one (f && not g)
      where
        one : (x : Bool) → 1 ≤ as_bit x + 1
        one true = omega arith
        one false = omega arith
    go false false false f g k = off f g k

none_several : (s : SpState) → Several 0 s s (λ w. w)
none_several s = record {
  holds = λ w h. h;
  uses = turned_uses 0 s s (λ b. b) (λ f. f);
  waits = λ b. (same_transfer s, sym (or-false s.full));
}

both_several : (a b : ℕ) (s t u : SpState) (f g : Written → Written) → Several a s t f → Several b t u g → Several (a + b) s u (λ w. g (f w))
both_several a b s t u f g p q = record {
  holds = λ w h. q.holds (f w) (p.holds w h);
  uses =
      chain (as_bit (begins s u)) (as_bit (begins s t)) (as_bit (begins t u)) (as_bit s.full) (as_bit t.full) (as_bit u.full)
      (begins_add s t u) p.uses q.uses;
  waits = λ i.
      let x = p.waits i in
      let y = q.waits (x.0.busy ∙ i) in (
        same_again u t s y.0 x.0,
        y.1 ∙ ap (λ (z : Bool). z || ltb 0 b) x.1 ∙ or_assoc s.full (ltb 0 a) (ltb 0 b) ∙ ap (λ (z : Bool). s.full || z) (sym (some_add a b)),
      );
}
  where
    chain : (su st tu i j k : ℕ) → su ≤ st + tu → st + j ≤ a + i → tu + k ≤ b + j → su + k ≤ a + b + i
    chain su st tu i j k x y z = omega arith

write_several : (a v : ℕ) (f : v < 0x100000000) (s : State) → sound s ≡ true
    → Several (as_bit (is_length a)) s.sp (write_register s a v).state.sp (noted a v)
write_several a v f s h =
    let e = write_effect a v f s h in
    record {
      holds = effect_holds (writes a v f) s e;
      uses = effect_uses (writes a v f) s (facts s h).sp e;
      waits = λ b. effect_waits (writes a v f) s refl b e;
    }

-- The pairs before the first address where there is no register
writes_several : (k : ℕ) (xs vs : List ℕ) (s : State) → Words32 vs → length xs ≡ length vs → sound s ≡ true
    → Several (lengths_among (take (leading xs) xs)) s.sp (writes_from k xs vs s).state.sp
    (noted_all (take (leading xs) xs) (take (leading xs) vs))
unfolding writes_from leading lengths_among noted_all
writes_several k [] vs s f l h = none_several s.sp
writes_several k (a ∷ xs) [] s f l h = absurd (omega arith)
writes_several k (a ∷ xs) (v ∷ vs) s f l h =
    let t : State = (write_register s a v).state in
    let n : (write_register s a v).answer.number ≡ register_number (register_at a) =
    ap (λ (o : Outcome). o.answer.number) (write_sound s a v h) ∙ write_number_lem (register_at a) s v in
    rw n
    (at (register_at a)
    (both_several (as_bit (is_length a)) (lengths_among (take (leading xs) xs)) s.sp t.sp (writes_from (suc k) xs vs t).state.sp (noted a v)
    (noted_all (take (leading xs) xs) (take (leading xs) vs))
    (write_several a v (f 0) s h)
    (writes_several (suc k) xs vs t (λ i. f (suc i)) (omega arith) (write_kept s a v (f 0) h))))
  where
    at : (r : Result Register AddressError)
        → Several (as_bit (is_length a) + lengths_among (take (leading xs) xs)) s.sp (writes_from (suc k) xs vs (write_register s a v).state).state.sp
        (λ w. noted_all (take (leading xs) xs) (take (leading xs) vs) (noted a v w))
        → Several (lengths_among (take (cond (is_register r) (suc (leading xs)) 0) (a ∷ xs))) s.sp
        (if_refused (register_number r) (ending s (register_number r) k) (writes_from (suc k) xs vs (write_register s a v).state)).state.sp
        (noted_all (take (cond (is_register r) (suc (leading xs)) 0) (a ∷ xs)) (take (cond (is_register r) (suc (leading xs)) 0) (v ∷ vs)))
    at (Ok (Sp r)) p = p
    at (Ok (Dp r)) p = p
    at (Err Misaligned) p = none_several s.sp
    at (Err Unmapped) p = none_several s.sp

burst_several : (xs vs : List ℕ) (f : Words32 vs) (s : State) → sound s ≡ true
    → Several (lengths_of (bursts xs vs f)) s.sp (write_registers s xs vs).state.sp (note (bursts xs vs f))
unfolding burst_refusal lengths_among noted_all
burst_several xs vs f s h = at (burst_allowed xs vs) refl
  where
    at : (b : Bool) → burst_allowed xs vs ≡ b
        → Several (lengths_among (take (cond b (leading xs) 0) xs)) s.sp (write_registers s xs vs).state.sp
        (noted_all (take (cond b (leading xs) 0) xs) (take (cond b (leading xs) 0) vs))
    at true a = rw (burst_begins s xs vs (not_declined s xs vs a h)) (writes_several 0 xs vs s f (allowed xs vs a).0 h)
    at false a = rw (burst_declined s xs vs 10 (rw a)) (none_several s.sp)

-- ---- What each call of a trace does

effect : (e : Event) (s : State) → sound s ≡ true → Effect e s
unfolding read_register tick break acknowledge dp_turn consumer_turn
effect (reads a) s h = still refl refl (quiet (access_refusal s a) s (read_at (register_at a) s) (read_still (register_at a) s))
effect (writes a v f) s h = write_effect a v f s h
effect (bursts xs vs f) s h = several refl (burst_several xs vs f s h)
effect (ticks n) s h = still refl refl (quiet (state_refusal s) s _ (nothing s.sp))
effect breaks s h = still refl refl (quiet (state_refusal s) s _ (others s.sp (sp_break s.sp) (search) refl refl))
effect acknowledges s h = still refl refl (quiet (state_refusal s) s _ (nothing s.sp))
effect (sp_turn_over m) s h = turned refl (turn_moves s m) (λ w. refl)
effect (sp_row_over m) s h = turned refl (row_moves s m) (λ w. refl)
effect (dp_turn_over rdram dmem) s h = still refl refl (quiet (dp_refusal s rdram dmem) s _ (nothing s.sp))
effect consumer_turns s h = still refl refl (quiet (state_refusal s) s _ (nothing s.sp))
effect (run_over a b c m out) s h = turned refl (run_moves s a b c m out) (λ w. refl)

-- Every call leaves a sound state
pub event_kept : (e : Event) (s : State) → sound s ≡ true → sound (event_leaves e s) ≡ true
event_kept (reads a) s h = read_kept s a h
event_kept (writes a v f) s h = write_kept s a v f h
event_kept (bursts xs vs f) s h = burst_kept s xs vs f h
event_kept (ticks n) s h = tick_kept s n h
event_kept breaks s h = break_kept s h
event_kept acknowledges s h = acknowledge_kept s h
event_kept (sp_turn_over m) s h = sp_turn_kept s m h
event_kept (sp_row_over m) s h = sp_row_kept s m h
event_kept (dp_turn_over rdram dmem) s h = dp_turn_kept s rdram dmem h
event_kept consumer_turns s h = consumer_turn_kept s h
event_kept (run_over a b c m out) s h = run_kept s a b c m out h

event_holds : (e : Event) (s : State) → sound s ≡ true → (w : Written) → Holds w s.sp → Holds (note e w) (event_leaves e s).sp
event_holds e s h = effect_holds e s (effect e s h)

trace_holds : (es : List Event) (s : State) → sound s ≡ true → (w : Written) → Holds w s.sp → Holds (last_written es w) (trace_leaves es s).sp
unfolding last_written trace_leaves
trace_holds [] s h w g = g
trace_holds (e ∷ es) s h w g = trace_holds es (event_leaves e s) (event_kept e s h) (note e w) (event_holds e s h w g)

event_uses : (e : Event) (s : State) → sound s ≡ true → Uses (lengths_of e) s.sp (event_leaves e s).sp
event_uses e s h = effect_uses e s (facts s h).sp (effect e s h)

-- A trace begins no more transfers than length words were written in it, and one more where one waited before
pub begun_at_most : (es : List Event) (s : State) → sound s ≡ true
    → begun es s + as_bit (trace_leaves es s).sp.full ≤ length_writes es + as_bit s.sp.full
unfolding begun trace_leaves length_writes
begun_at_most [] s h = omega arith
begun_at_most (e ∷ es) s h =
    chain (as_bit (begins s.sp (event_leaves e s).sp)) (begun es (event_leaves e s)) (as_bit (trace_leaves es (event_leaves e s)).sp.full)
    (as_bit (event_leaves e s).sp.full) (lengths_of e) (length_writes es) (as_bit s.sp.full)
    (event_uses e s h)
    (begun_at_most es (event_leaves e s) (event_kept e s h))
  where
    chain : (a b c d i j k : ℕ) → a + d ≤ i + k → b + c ≤ j + d → a + b + c ≤ i + j + k
    chain a b c d i j k p q = omega arith

-- Every trace from a sound state
pub trace_written : (s : State) (es : List Event) → sound s ≡ true → TraceWritten s es
trace_written s es h = record {
  holds =
      trace_holds es s h (written_before s) (record { splatch = refl; ramlatch = refl; waiting = λ _. refl; waitstoring = λ _. refl });
  at_most = begun_at_most es s h;
}

-- From power-up nothing was written before: the trace alone decides
pub from_power_up : (es : List Event) → TraceWritten power_up es
from_power_up es = trace_written power_up es power_up_sound

-- ---- The words of the running transfer

abbrev waiting_words : SpState → ℕ
waiting_words s = cond s.full (transfer_words s.waiting) 0

left_is : (s : SpState) → s.busy ≡ true → words_left s ≡ running_words s + waiting_words s
unfolding words_left
left_is s b = rw b

-- One is left exactly at the end of the last row
last : (s : SpState) → SpSound s → (running_words s ≡ 1) ↔ ((s.len ≡ 0) × (s.count ≡ 0))
unfolding running_words
last s h = (λ e. ends_at s.len s.count s.row h.multiples.len e, λ z. one s.len s.count s.row z.0 z.1)
  where
    ends_at : (len count row : ℕ) → len % 8 ≡ 0 → len / 8 + 1 + count * (row / 8 + 1) ≡ 1 → (len ≡ 0) × (count ≡ 0)
    ends_at len zero row m e = (omega arith, refl)
    ends_at len (suc count) row m e = absurd (omega arith)

    one : (len count row : ℕ) → len ≡ 0 → count ≡ 0 → len / 8 + 1 + count * (row / 8 + 1) ≡ 1
    one len count row p q = rw (p, q) (omega arith)

same_words : (s t : SpState) → SameTransfer s t → running_words s ≡ running_words t
unfolding running_words
same_words s t p = rw (p.len, p.count, p.row)

-- From s to t the transfer goes on with n words less, and what waits stays
record GoesOn (n : ℕ) (s t : SpState) : Type 0 where
  busy : t.busy ≡ true
  full : t.full ≡ s.full
  words : n + running_words t ≡ running_words s

goes_on : (s : SpState) → SpSound s → s.busy ≡ true → 1 < running_words s → GoesOn 1 s (sp_next s)
unfolding next_word next_row
goes_on s h b more = go (cases s)
  where
    less : (t : SpState) → sp_next s ≡ t → t.busy ≡ true → t.full ≡ s.full → t.waiting ≡ s.waiting → GoesOn 1 s (sp_next s)
    less t e i f w =
        let same : waiting_words t ≡ waiting_words s = rw (f, w) in
        let step : words_left s ≡ suc (words_left t) = rw e at (left_busy s h b) in
        rw e (record { busy = i; full = f; words = omega (arith, left_is s b, left_is t i) })

    not_last : s.len ≡ 0 → s.count ≡ 0 → GoesOn 1 s (sp_next s)
    not_last l c = absurd (omega (arith, (last s h).1 (l, c)))

    go : Case s → GoesOn 1 s (sp_next s)
    go (idle i e) = contradiction b i
    go (in_row i l e) = less (next_word s) e refl refl refl
    go (end_of_row i l c e) = less (next_row s) e refl refl refl
    go (starts i l c f e) = not_last l c
    go (ends i l c f e) = not_last l c

after_goes_on : (n : ℕ) (s : SpState) → SpSound s → s.busy ≡ true → n < running_words s → GoesOn n s (sp_after n s)
unfolding sp_after
after_goes_on zero s h b more = record { busy = b; full = refl; words = omega arith }
after_goes_on (suc n) s h b more =
    let k = goes_on s h b (omega arith) in
    let r = after_goes_on n (sp_next s) (next_kept s h) k.busy (omega (arith, k.words)) in
    record { busy = r.busy; full = r.full ∙ k.full; words = omega (arith, k.words, r.words) }

-- ---- Turns of the same transfer

in_row_lem : (s : SpState) → s.busy ≡ true → 0 < s.len → sp_next s ≡ next_word s
unfolding sp_next
in_row_lem s b l = rw (b, lt-ltb 0 s.len l)

end_of_row_lem : (s : SpState) → s.busy ≡ true → s.len ≡ 0 → 0 < s.count → sp_next s ≡ next_row s
unfolding sp_next
end_of_row_lem s b l c = rw (b, le-ltb 0 s.len (omega arith), lt-ltb 0 s.count c)

same_word : (s t : SpState) → SameTransfer s t → SameTransfer (next_word s) (next_word t)
unfolding next_word
same_word s t p = record {
  spaddr = ap (λ (a : ℕ). bank_add a 8) p.spaddr;
  ramaddr = ap (λ (a : ℕ). ram_add a 8) p.ramaddr;
  len = ap (λ (n : ℕ). n - 8) p.len;
  count = p.count;
  skip = p.skip;
  row = p.row;
  storing = p.storing;
  busy = refl;
}

same_row : (s t : SpState) → SameTransfer s t → SameTransfer (next_row s) (next_row t)
unfolding next_row
same_row s t p = record {
  spaddr = ap (λ (a : ℕ). bank_add a 8) p.spaddr;
  ramaddr = rw (p.ramaddr, p.skip);
  len = p.row;
  count = ap (λ (n : ℕ). n - 1) p.count;
  skip = p.skip;
  row = p.row;
  storing = p.storing;
  busy = refl;
}

-- Before its last word a turn's transfer depends on no other register
same_next : (s t : SpState) → SpSound s → s.busy ≡ true → 1 < running_words s → SameTransfer s t → SameTransfer (sp_next s) (sp_next t)
same_next s t h b more p = go (cases s)
  where
    busy : t.busy ≡ true
    busy = sym p.busy ∙ b

    not_last : s.len ≡ 0 → s.count ≡ 0 → SameTransfer (sp_next s) (sp_next t)
    not_last l c = absurd (omega (arith, (last s h).1 (l, c)))

    go : Case s → SameTransfer (sp_next s) (sp_next t)
    go (idle i e) = contradiction b i
    go (in_row i l e) = rw (e, in_row_lem t busy (omega (arith, p.len))) (same_word s t p)
    go (end_of_row i l c e) = rw (e, end_of_row_lem t busy (omega (arith, p.len)) (omega (arith, p.count))) (same_row s t p)
    go (starts i l c f e) = not_last l c
    go (ends i l c f e) = not_last l c

same_after : (n : ℕ) (s t : SpState) → SpSound s → s.busy ≡ true → n < running_words s → SameTransfer s t → SameTransfer (sp_after n s) (sp_after n t)
unfolding sp_after
same_after zero s t h b more p = p
same_after (suc n) s t h b more p =
    let k = goes_on s h b (omega arith) in
    same_after n (sp_next s) (sp_next t) (next_kept s h) k.busy (omega (arith, k.words)) (same_next s t h b (omega arith) p)

-- ---- Along the trace

-- One call while the running transfer has words to move after it
record Step (e : Event) (s : State) : Type 0 where
  busy : (event_leaves e s).sp.busy ≡ true
  left : moves_of e s + running_words (event_leaves e s).sp ≡ running_words s.sp
  full : (event_leaves e s).sp.full ≡ (s.sp.full || ltb 0 (lengths_of e))
  same : SameTransfer (event_leaves e s).sp (sp_after (moves_of e s) s.sp)

step : (e : Event) (s : State) → sound s ≡ true → s.sp.busy ≡ true → moves_of e s < running_words s.sp → Step e s
unfolding sp_after
step e s h b more = go (effect e s h)
  where
    -- No word is moved
    stays : moves_of e s ≡ 0 → Effect e s → Step e s
    stays m k =
        let w = effect_waits e s m b k in
        record {
          busy = w.0.busy ∙ b;
          left = omega (arith, m, same_words (event_leaves e s).sp s.sp w.0);
          full = w.1;
          same = rw m w.0;
        }

    go : Effect e s → Step e s
    go (still l m k) = stays m (still l m k)
    go (wrote v storing l m p q) = stays m (wrote v storing l m p q)
    go (turned l p q) =
        let k : GoesOn (moves_of e s) s.sp (event_leaves e s).sp = rw p (after_goes_on (moves_of e s) s.sp (facts s h).sp b more) in
        record {
          busy = k.busy;
          left = k.words;
          full = k.full ∙ rw l (sym (or-false s.sp.full));
          same = rw p (same_transfer (sp_after (moves_of e s) s.sp));
        }
    go (several m k) = stays m (several m k)

-- Nothing begins in a busy engine whose FULL does not go off
busy_begins : (s t : SpState) (new : Bool) → s.busy ≡ true → t.full ≡ (s.full || new) → begins s t ≡ false
busy_begins s t new b f = rw (b, f) (bits s.full)
  where
    bits : (a : Bool) → (a && not (a || new)) ≡ false
    bits true = refl
    bits false = refl

-- A trace from s to t that leaves the running transfer words to move. None begins, and only turns move the running one
record Along (es : List Event) (s t : State) : Type 0 where
  is_sound : sound t ≡ true
  busy : t.sp.busy ≡ true
  left : moves es s + running_words t.sp ≡ running_words s.sp
  none : begun es s ≡ 0
  full : t.sp.full ≡ (s.sp.full || writes_length es)
  same : SameTransfer t.sp (sp_after (moves es s) s.sp)

along : (es : List Event) (s : State) → sound s ≡ true → s.sp.busy ≡ true → moves es s < running_words s.sp → Along es s (trace_leaves es s)
unfolding trace_leaves moves begun length_writes sp_after
along [] s h b more =
    record { is_sound = h; busy = b; left = omega arith; none = refl; full = sym (or-false s.sp.full); same = same_transfer s.sp }
along (e ∷ es) s h b more =
    let t = event_leaves e s in
    let now = step e s h b (omega arith) in
    let rest = along es t (event_kept e s h) now.busy (omega (arith, now.left)) in
    record {
      is_sound = rest.is_sound;
      busy = rest.busy;
      left = omega (arith, rest.left, now.left);
      none = rw (busy_begins s.sp t.sp (ltb 0 (lengths_of e)) b now.full) (omega (arith, rest.none));
      full = rest.full
          ∙ ap (λ (x : Bool). x || writes_length es) now.full
          ∙ or_assoc s.sp.full (ltb 0 (lengths_of e)) (writes_length es)
          ∙ ap (λ (x : Bool). s.sp.full || x) (sym (some_add (lengths_of e) (length_writes es)));
      same =
          rw (after_add (moves_of e s) (moves es t) s.sp)
          (same_again (trace_leaves es t).sp (sp_after (moves es t) t.sp) (sp_after (moves es t) (sp_after (moves_of e s) s.sp))
          rest.same
          (same_after (moves es t) t.sp (sp_after (moves_of e s) s.sp) (facts t (event_kept e s h)).sp now.busy
          (omega (arith, now.left)) now.same));
    }

-- ---- The turn that moves the last word

-- Where a transfer waits it starts with what was last written, else the engine falls idle; either way none waits after it
record LastTurn (s t : SpState) : Type 0 where
  starts : s.full ≡ true → Starts (written_in s) s t
  ends : s.full ≡ false → t.busy ≡ false
  full : t.full ≡ false

last_turn : (s : SpState) → s.busy ≡ true → s.len ≡ 0 → s.count ≡ 0 → LastTurn s (sp_next s)
unfolding started ended
last_turn s b l c = go (cases s)
  where
    go : Case s → LastTurn s (sp_next s)
    go (idle i e) = contradiction b i
    go (in_row i m e) = absurd (omega arith)
    go (end_of_row i m d e) = absurd (omega arith)
    go (starts i m d f e) = rw e (record { starts = λ _. search; ends = λ g. contradiction f g; full = refl })
    go (ends i m d f e) = rw e (record { starts = λ g. contradiction g f; ends = λ _. refl; full = refl })

-- A trace that writes no length word
none_written : (es : List Event) → writes_length es ≡ false → length_writes es ≡ 0
none_written es e = omega (arith, ltb-false 0 (length_writes es) e)

-- The waiting transfer begins in the turn that ends the running one, from what was last written, and once
pub begins_once : (s : State) (es : List Event) (m : Memory) → Before s es m → BeginsOnce s es m
begins_once s es m p =
    let t = trace_leaves es s in
    let a = along es s p.is_sound p.busy (omega (arith, p.last_word)) in
    let z = (last t.sp (facts t a.is_sound).sp).0 (omega (arith, p.last_word, a.left)) in
    let k : LastTurn t.sp (sp_turn t m).state.sp = rw (turn_leaves t m p.taken) (last_turn t.sp a.busy z.0 z.1) in
    record {
      none_began = a.none;
      undisturbed = a.same;
      waits = a.full;
      starts = λ e.
          let f = a.full ∙ e in
          rw (← holds_all_lem (last_written es (written_before s)) t.sp f (trace_written s es p.is_sound).holds) (k.starts f);
      ends = λ e. k.ends (a.full ∙ e);
      once = λ fs e.
          omega (arith, begun_at_most fs (sp_turn t m).state (sp_turn_kept t m a.is_sound), none_written fs e, ap as_bit k.full);
    }
