-- The twelve marked examples hold.
use mathlib.Core.Path.{◌≡◌, refl}
use mathlib.Core.Bool.{true}
use Rattle.words.specs.Memory.{word_value}
use Rattle.sp.specs.Sound.{sp_sound}
use Rattle.sp.specs.Transfer.{length_written, started, ended}
use Rattle.sp.specs.Turn.{sp_next, sp_after}
use Rattle.sp.specs.Left.{running_words, transfer_words, words_left}
use Rattle.sp.specs.Formula.{before_word, after_last, after_words}
use Rattle.dp.specs.Sound.{dp_sound}
use Rattle.dp.specs.Lists.{start_written, end_written, list_started, waiting_started}
use Rattle.dp.specs.Registers.{modes_written, flushed, dp_status_written}
use Rattle.dp.specs.Turn.{enqueued, advanced, followed, fetch_next, command_length, framed, dequeued, consume_next}
use Rattle.machine.specs.Sound.{sound}
use Rattle.machine.specs.Address.{register_at}
use Rattle.machine.specs.Refusals.{access_refusal}
use Rattle.machine.specs.Calls.{read_register, write_register}
use Rattle.marked.specs.Marked.{holds_all, examples}
use Rattle.marked.proofs.After.{after}
use Rattle.marked.proofs.Quick.{word_at, quick, quick_all, accepts_all}

computed : quick_all examples ≡ true
unfolding quick_all quick examples after after_words before_word after_last word_at
    write_register read_register access_refusal register_at sound sp_sound dp_sound
    length_written started words_left running_words transfer_words sp_after sp_next ended
    start_written end_written list_started waiting_started modes_written flushed dp_status_written
    fetch_next word_value enqueued advanced followed consume_next dequeued framed command_length
computed = refl

-- M1 to M12
pub marked : holds_all examples ≡ true
marked = accepts_all examples computed
