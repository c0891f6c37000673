-- The command queue: a ring of 32 slots. `head` is the slot of the oldest word and `queued` how many there are; a slot that holds no queued word keeps what it
-- last held. So what stands in the ring depends on the words fetched, and not on when they were consumed.
use Rattle.std.specs.Prelude.{ℕ, zero, suc, ◌+◌, ◌%◌, List, [], ◌∷◌, get_or, set}
use Rattle.dp.specs.declared.DpState.{DpState}

-- n words of a ring from slot i on
unfoldable pub words_from : List ℕ → ℕ → ℕ → List ℕ
words_from ring i zero = []
words_from ring i (suc n) = get_or ring (i % 32) 0 ∷ words_from ring (i + 1) n

-- The queue's words, oldest first
abbrev pub queued_words : DpState → List ℕ → List ℕ
queued_words s ring = words_from ring s.head s.queued

abbrev pub oldest : DpState → List ℕ → ℕ
oldest s ring = get_or ring (s.head % 32) 0

-- The slot of the next word
abbrev pub slot : DpState → ℕ
slot s = (s.head + s.queued) % 32

-- The ring with a word put there
abbrev pub put_last : DpState → List ℕ → ℕ → List ℕ
put_last s ring v = set ring (slot s) v
