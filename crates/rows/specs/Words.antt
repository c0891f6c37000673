-- Words one after another: read from an address on, and moved from one memory to another.
use Rattle.std.specs.Prelude.{ℕ, zero, suc, ◌+◌, ◌-◌, ◌/◌, min, List, [], ◌++◌}
use Rattle.words.specs.Memory.{load_word, store_word}

-- How many words are fitted in n bytes from an address on, at most `most`
unfoldable pub fitted_words : (most n at : ℕ) → ℕ
fitted_words most n at = min most ((n - at) / 8)

-- n words from an address on; those past the lent length are zeros
unfoldable pub words_from : ℕ → List ℕ → ℕ → List ℕ
words_from zero l a = []
words_from (suc n) l a = load_word l a ++ words_from n l (a + 8)

-- The target after n words are moved there; those past its lent length are dropped
unfoldable pub words_moved : ℕ → List ℕ → ℕ → List ℕ → ℕ → List ℕ
words_moved zero d at s from = d
words_moved (suc n) d at s from = words_moved n (store_word d at (load_word s from)) (at + 8) s (from + 8)
