-- The samples of the ten kinds, by computation.
use mathlib.Core.Path.{refl}
use Rattle.words.specs.Memory.{word_bytes}
use Rattle.machine.specs.Address.{register_at}
use Rattle.recording.specs.Kinds.{decoded, record_of}
use Rattle.recording.specs.Fields.{record_by}
use Rattle.recording.specs.Reader.{record_number, first, read_record}
use Rattle.recording.specs.Writer.{write_number, write_answer, write_buffer}
use Rattle.recording.specs.Samples.{samples, ReadAs, SamplesWritten}

pub samples_read : ReadAs samples
unfolding samples read_record first record_number record_of decoded register_at
samples_read = (refl, (refl, (refl, (refl, (refl, (refl, (refl, (refl, (refl, (refl, tt))))))))))

pub samples_written : SamplesWritten
unfolding samples write_buffer write_answer write_number record_by decoded register_at word_bytes
samples_written = record { bytes = refl; answers = refl; short = refl }
