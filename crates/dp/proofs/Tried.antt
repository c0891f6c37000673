-- A DP turn and a consumer turn of a run that are taken, as the code comes to them.
use Prim.Native.Nat.{ℕ, ◌+◌, ◌*◌, ◌/◌, ◌%◌, ◌<◌}
use mathlib.Core.Path.{◌≡◌, sym, ◌∙◌}
use mathlib.Core.Bool.{Bool, true, not, ◌&&◌, ◌||◌}
use mathlib.Core.List.{List}
use lib.Dec.{ltb, eqb}
use lib.ListN.{set}
use borrow.Author.Tests.{lt-ltb}
use Rattle.words.specs.Memory.{store_word, word_bytes, word_value}
use Rattle.words.specs.Stepped.{ran}
use Rattle.words.proofs.Tests.{true_and}
use Rattle.dp.specs.declared.DpState.{DpState}
use Rattle.dp.specs.State.{with_command}
use Rattle.dp.specs.Queue.{oldest, slot}
use Rattle.dp.specs.Turn.{next_list_word, fetches, fetch_next, command_length, words_after, framed, consumes, consume_next}
use Rattle.dp.specs.Tried.{may_fetch, FetchTried, may_consume, ConsumeTried}

-- A word framed by its first byte, the length of its command and the words then left
pub framed_by : (s : DpState) (v : ℕ) {first size left : ℕ} → first ≡ v / 0x100000000000000 → size ≡ command_length (first % 64)
    → left ≡ words_after s.wordsleft size
    → (let sync = eqb s.wordsleft 0 && eqb (first % 64) 0x29 in with_command s left (s.pipebusy && not sync) (s.line || sync)) ≡ framed s v
unfolding framed
framed_by s v a b c = rw (c, b, a)

module _ {s : DpState} {taken budget : ℕ} {rdram dmem ring : List ℕ} {f : Bool} (asked : f ≡ fetches s) where
  pub fetch_taken : {t : DpState} {word : List ℕ} {at v : ℕ} → taken < budget → f ≡ true
      → at ≡ slot s → word ≡ next_list_word s rdram dmem → v ≡ word_value word → t ≡ fetch_next s
      → FetchTried s taken budget rdram dmem ring (ran t (taken + 1)) (set ring at v)
  unfolding fetch_next
  fetch_taken h e i w x p =
      let may : fetches s ≡ true = sym asked ∙ e in
      let on : may_fetch s taken budget ≡ true = true_and (ltb taken budget) (fetches s) (lt-ltb taken budget h) may in
      record { registers = rw (on, p, may); slots = rw (on, i, x, w) }

module _ {s : DpState} {taken room : ℕ} {ring out : List ℕ} {f : Bool} (asked : f ≡ consumes s) where
  pub consume_taken : {t : DpState} {word out' : List ℕ} {v : ℕ} → taken < room → f ≡ true
      → v ≡ oldest s ring → word ≡ word_bytes v → out' ≡ store_word out (taken * 8) word
      → t ≡ consume_next s v → ConsumeTried s taken room ring out (ran t (taken + 1)) out'
  unfolding consume_next
  consume_taken h e i w x p =
      let may : consumes s ≡ true = sym asked ∙ e in
      let on : may_consume s taken room ≡ true = true_and (ltb taken room) (consumes s) (lt-ltb taken room h) may in
      record { registers = rw (on, p, may, i); output = rw (on, x, w, i) }
