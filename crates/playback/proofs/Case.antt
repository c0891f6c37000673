-- The whole case of the rules, the case that stops, and the first one's recording as the writer makes it, by computation.
use mathlib.Core.Path.{◌≡◌, refl}
use mathlib.Core.List.{[], ◌∷◌}
use native.Mathlib.Omega.{arith}
use lib.ListN.{replicate}
use Rattle.words.specs.Memory.{bytes_at, load_word, store_word, word_value, word_bytes}
use Rattle.sp.specs.Transfer.{started, length_written, next_word, ended}
use Rattle.sp.specs.Sound.{sp_sound}
use Rattle.sp.specs.Turn.{sp_next, sp_move}
use Rattle.dp.specs.Sound.{dp_sound}
use Rattle.machine.specs.Sound.{sound}
use Rattle.machine.specs.Address.{register_at}
use Rattle.machine.specs.Refusals.{access_refusal, sp_refusal}
use Rattle.machine.specs.Calls.{read_register, write_register}
use Rattle.machine.specs.Runs.{tried, round, rounds, merged, end_of_run, run}
use Rattle.recording.specs.declared.Record.TheVariants.{Write, Read, SpRun}
use Rattle.recording.specs.Kinds.{decoded, record_of}
use Rattle.recording.specs.Fields.{of_kind, record_by}
use Rattle.recording.specs.Reader.{record_number}
use Rattle.recording.specs.Writer.{write_number, write_answer, write_buffer}
use Rattle.recording.specs.Split.{split_from}
use Rattle.recording.specs.Written.{Appends}
use Rattle.recording.specs.Written.Appends.{none, adds}
use Rattle.listing.specs.Text.{hex, leading, decimal, run_line, verdict, found_line, end_line, stop_line}
use Rattle.playback.specs.Effects.{load_at, store_at, after, line}
use Rattle.playback.specs.declared.Verdict.TheVariants.{Refused, Passed}
use Rattle.playback.specs.Findings.{total, first_from}
use Rattle.playback.specs.Replay.{lines, replay_refusal, replay}
use Rattle.playback.specs.Verdict.{judged}
use Rattle.playback.specs.Case.{bytes, start, text, stop_bytes, stop_text}

pub whole_case : ((replay bytes start).text ≡ text)
    × ((replay bytes start).outcome.answer.number ≡ 0)
    × ((replay bytes start).outcome.answer.count ≡ 4)
    × ((replay bytes start).place ≡ 0)
    × ((replay bytes start).findings ≡ record { compared = 1; differed = 0; index = 0; place = 0 })
    × (judged 0 (replay bytes start).findings ≡ Passed 1)
unfolding bytes start text replay replay_refusal sp_refusal access_refusal sound sp_sound dp_sound register_at
    split_from record_number record_of decoded lines after line write_register read_register
    run end_of_run merged rounds round tried sp_move sp_next started length_written next_word ended
    run_line found_line verdict hex decimal leading end_line total first_from judged
whole_case = (refl, refl, refl, refl, refl, refl)

pub stop_case : ((replay stop_bytes start).text ≡ stop_text)
    × ((replay stop_bytes start).outcome.answer.number ≡ 7)
    × ((replay stop_bytes start).outcome.answer.count ≡ 4)
    × ((replay stop_bytes start).place ≡ 40)
    × ((replay stop_bytes start).findings ≡ record { compared = 1; differed = 1; index = 1; place = 13 })
    × (judged 7 (replay stop_bytes start).findings ≡ Refused 7 1 1)
unfolding stop_bytes start stop_text replay replay_refusal sp_refusal sound sp_sound dp_sound
    split_from record_number record_of decoded lines after line load_at store_at load_word store_word bytes_at word_value word_bytes
    run end_of_run merged rounds round tried
    run_line found_line verdict hex decimal leading stop_line total first_from judged
stop_case = (refl, refl, refl, refl, refl, refl)

-- The writer makes the case's recording of its four records, in a buffer that has just as many bytes
pub case_appended : Appends (replicate 32 0) 0 (Write 0x04040000 0x1FF8 ∷ Write 0x04040008 0x0F ∷ SpRun 2 ∷ Read 0x04040000 0x1008 ∷ []) bytes 32
unfolding bytes write_answer write_buffer write_number record_by decoded register_at
case_appended =
    adds {f = of_kind 1 0x04040000 0x1FF8} (omega arith) (record { answer = refl; bytes = refl }) refl
    (adds {f = of_kind 1 0x04040008 0x0F} (omega arith) (record { answer = refl; bytes = refl }) refl
    (adds {f = of_kind 3 0 2} (omega arith) (record { answer = refl; bytes = refl }) refl
    (adds {f = of_kind 2 0x04040000 0x1008} (omega arith) (record { answer = refl; bytes = refl }) refl
    none)))
