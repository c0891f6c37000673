-- The whole case of the rules: a recording of 32 bytes, and its listing. And a recording that stops, with the lines that the first one has not.
use Rattle.std.specs.Prelude.{ℕ, List, [], ◌∷◌, replicate}
use Rattle.words.specs.Memory.{memory}
use Rattle.machine.specs.Sound.{power_up}
use Rattle.laws.specs.World.{World, world}
use Rattle.listing.specs.Text.{Text}

unfoldable pub bytes : List ℕ
bytes =
    -- Write 0x1FF8 to 0x04040000
    0x01 ∷ 0x04 ∷ 0x04 ∷ 0x00 ∷ 0x00 ∷ 0x00 ∷ 0x00 ∷ 0x1F ∷ 0xF8
    -- Write 0x0F to 0x04040008
    ∷ 0x01 ∷ 0x04 ∷ 0x04 ∷ 0x00 ∷ 0x08 ∷ 0x00 ∷ 0x00 ∷ 0x00 ∷ 0x0F
    -- SP run with budget 2
    ∷ 0x03 ∷ 0x00 ∷ 0x00 ∷ 0x00 ∷ 0x02
    -- Read 0x04040000, and expect 0x1008
    ∷ 0x02 ∷ 0x04 ∷ 0x04 ∷ 0x00 ∷ 0x00 ∷ 0x00 ∷ 0x00 ∷ 0x10 ∷ 0x08
    ∷ []

-- Power-up, over 32,768 bytes of RDRAM and two banks of 4,096 bytes that start as zeros
unfoldable pub start : World
start = world power_up (memory (replicate 32768 0) (replicate 4096 0) (replicate 4096 0))

unfoldable pub text : Text
text =
    -- `replay 1`
    114 ∷ 101 ∷ 112 ∷ 108 ∷ 97 ∷ 121 ∷ 32 ∷ 49 ∷ 10
    -- `S 00000002`
    ∷ 83 ∷ 32 ∷ 48 ∷ 48 ∷ 48 ∷ 48 ∷ 48 ∷ 48 ∷ 48 ∷ 50 ∷ 10
    -- `R 04040000 00001008 ok`
    ∷ 82 ∷ 32 ∷ 48 ∷ 52 ∷ 48 ∷ 52 ∷ 48 ∷ 48 ∷ 48 ∷ 48 ∷ 32 ∷ 48 ∷ 48 ∷ 48 ∷ 48 ∷ 49 ∷ 48 ∷ 48 ∷ 56 ∷ 32 ∷ 111 ∷ 107 ∷ 10
    -- `end 4`
    ∷ 101 ∷ 110 ∷ 100 ∷ 32 ∷ 52 ∷ 10
    ∷ []

unfoldable pub stop_bytes : List ℕ
stop_bytes =
    -- Store 0x0123456789ABCDEF at 0x04001FF8, the last word of IMEM
    0x08 ∷ 0x04 ∷ 0x00 ∷ 0x1F ∷ 0xF8 ∷ 0x01 ∷ 0x23 ∷ 0x45 ∷ 0x67 ∷ 0x89 ∷ 0xAB ∷ 0xCD ∷ 0xEF
    -- Check it, and expect 1
    ∷ 0x09 ∷ 0x04 ∷ 0x00 ∷ 0x1F ∷ 0xF8 ∷ 0x00 ∷ 0x00 ∷ 0x00 ∷ 0x00 ∷ 0x00 ∷ 0x00 ∷ 0x00 ∷ 0x01
    -- DP run with budget 16, where no list runs
    ∷ 0x04 ∷ 0x00 ∷ 0x00 ∷ 0x00 ∷ 0x10
    -- A run with budgets 2 and 16, where nothing runs
    ∷ 0x0A ∷ 0x00 ∷ 0x00 ∷ 0x00 ∷ 0x02 ∷ 0x00 ∷ 0x00 ∷ 0x00 ∷ 0x10
    -- Kind 11, which is unknown; then a BREAK, which is not reached
    ∷ 0x0B ∷ 0x06
    ∷ []

unfoldable pub stop_text : Text
stop_text =
    -- `replay 1`
    114 ∷ 101 ∷ 112 ∷ 108 ∷ 97 ∷ 121 ∷ 32 ∷ 49 ∷ 10
    -- `L 04001FF8 0123456789ABCDEF expected 0000000000000001`
    ∷ 76 ∷ 32 ∷ 48 ∷ 52 ∷ 48 ∷ 48 ∷ 49 ∷ 70 ∷ 70 ∷ 56 ∷ 32 ∷ 48 ∷ 49 ∷ 50 ∷ 51 ∷ 52 ∷ 53 ∷ 54 ∷ 55 ∷ 56 ∷ 57 ∷ 65 ∷ 66 ∷ 67 ∷ 68 ∷ 69 ∷ 70
    ∷ 32 ∷ 101 ∷ 120 ∷ 112 ∷ 101 ∷ 99 ∷ 116 ∷ 101 ∷ 100 ∷ 32 ∷ 48 ∷ 48 ∷ 48 ∷ 48 ∷ 48 ∷ 48 ∷ 48 ∷ 48 ∷ 48 ∷ 48 ∷ 48 ∷ 48 ∷ 48 ∷ 48 ∷ 48 ∷ 49 ∷ 10
    -- `D 00000000`
    ∷ 68 ∷ 32 ∷ 48 ∷ 48 ∷ 48 ∷ 48 ∷ 48 ∷ 48 ∷ 48 ∷ 48 ∷ 10
    -- `S 00000000`
    ∷ 83 ∷ 32 ∷ 48 ∷ 48 ∷ 48 ∷ 48 ∷ 48 ∷ 48 ∷ 48 ∷ 48 ∷ 10
    -- `D 00000000`
    ∷ 68 ∷ 32 ∷ 48 ∷ 48 ∷ 48 ∷ 48 ∷ 48 ∷ 48 ∷ 48 ∷ 48 ∷ 10
    -- `stop 4 7 40`
    ∷ 115 ∷ 116 ∷ 111 ∷ 112 ∷ 32 ∷ 52 ∷ 32 ∷ 55 ∷ 32 ∷ 52 ∷ 48 ∷ 10
    ∷ []
