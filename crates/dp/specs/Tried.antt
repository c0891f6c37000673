-- A DP turn and a consumer turn of a run. Each is passed over without budget, or where it would do
-- nothing.
use Rattle.std.specs.Prelude.{ℕ, ◌+◌, ◌*◌, ◌≡◌, Bool, cond, ◌&&◌, List, ltb}
use Rattle.words.specs.declared.stepped.Stepped.{Stepped}
use Rattle.words.specs.Memory.{store_word, word_bytes, word_value}
use Rattle.words.specs.Stepped.{ran}
use Rattle.dp.specs.declared.DpState.{DpState}
use Rattle.dp.specs.Queue.{oldest, put_last}
use Rattle.dp.specs.Turn.{fetches, next_list_word, fetched, consumes, consumed}

-- The DP turn has budget, and fetches a word
abbrev pub may_fetch : DpState → ℕ → ℕ → Bool
may_fetch s taken budget = ltb taken budget && fetches s

-- What it gives where `taken` words were fetched before it, over the ring at entry and at exit.
-- Passed over, it uses no budget
pub record FetchTried (s : DpState) (taken budget : ℕ) (rdram dmem ring : List ℕ)
    (r : Stepped DpState) (ring' : List ℕ) : Type 0 where
  pub registers : r ≡ cond (may_fetch s taken budget) (ran (fetched s) (taken + 1)) (ran s taken)
  pub slots : ring' ≡ cond (may_fetch s taken budget) (put_last s ring (word_value (next_list_word s rdram dmem))) ring

-- The consumer turn has room, and consumes a word
abbrev pub may_consume : DpState → ℕ → ℕ → Bool
may_consume s taken room = ltb taken room && consumes s

-- What it gives where `taken` words were put before it, over the output at entry and at exit.
-- Passed over, it uses no room
pub record ConsumeTried (s : DpState) (taken room : ℕ) (ring out : List ℕ)
    (r : Stepped DpState) (out' : List ℕ) : Type 0 where
  pub registers : r ≡ cond (may_consume s taken room) (ran (consumed s (oldest s ring)) (taken + 1)) (ran s taken)
  pub output : out' ≡ cond (may_consume s taken room) (store_word out (taken * 8) (word_bytes (oldest s ring))) out
