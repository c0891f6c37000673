-- A record of each kind: its bytes, what the reader finds there, and what the writer makes of it.
use Rattle.std.specs.Prelude.{ℕ, ◌+◌, ◌≡◌, List, [], ◌∷◌, ◌++◌, map, length, replicate}
use Rattle.recording.specs.declared.Record.{Record}
use Rattle.recording.specs.declared.Record.TheVariants.{Write, Read, SpRun, DpRun, Tick, Break, Acknowledge, Store, Check, Run}
use Rattle.recording.specs.Fields.{fields_of}
use Rattle.recording.specs.Reader.{found, read_record}
use Rattle.recording.specs.Writer.{write_number, answered, write_answer, write_buffer}

pub record Sample : Type 0 where
  pub bytes : List ℕ
  pub item : Record

abbrev pub sample : List ℕ → Record → Sample
sample bytes item = record { bytes = bytes; item = item }

unfoldable pub samples : List Sample
samples =
    sample (1 ∷ 0x04 ∷ 0x04 ∷ 0x00 ∷ 0x0C ∷ 0x12 ∷ 0x34 ∷ 0x56 ∷ 0x78 ∷ []) (Write 0x0404000C 0x12345678)
    ∷ sample (2 ∷ 0x04 ∷ 0x10 ∷ 0x00 ∷ 0x1C ∷ 0x9A ∷ 0xBC ∷ 0xDE ∷ 0xF0 ∷ []) (Read 0x0410001C 0x9ABCDEF0)
    ∷ sample (3 ∷ 0x01 ∷ 0x02 ∷ 0x03 ∷ 0x04 ∷ []) (SpRun 0x01020304)
    ∷ sample (4 ∷ 0x05 ∷ 0x06 ∷ 0x07 ∷ 0x08 ∷ []) (DpRun 0x05060708)
    ∷ sample (5 ∷ 0xFF ∷ 0xFE ∷ 0xFD ∷ 0xFC ∷ []) (Tick 0xFFFEFDFC)
    ∷ sample (6 ∷ []) Break
    ∷ sample (7 ∷ []) Acknowledge
    ∷ sample (8 ∷ 0x03 ∷ 0xEF ∷ 0xFF ∷ 0xF8 ∷ 0x01 ∷ 0x23 ∷ 0x45 ∷ 0x67 ∷ 0x89 ∷ 0xAB ∷ 0xCD ∷ 0xEF ∷ []) (Store 0x03EFFFF8 0x0123456789ABCDEF)
    ∷ sample (9 ∷ 0x04 ∷ 0x00 ∷ 0x1F ∷ 0xF8 ∷ 0xFE ∷ 0xDC ∷ 0xBA ∷ 0x98 ∷ 0x76 ∷ 0x54 ∷ 0x32 ∷ 0x10 ∷ []) (Check 0x04001FF8 0xFEDCBA9876543210)
    ∷ sample (10 ∷ 0xA1 ∷ 0xB2 ∷ 0xC3 ∷ 0xD4 ∷ 0x0E ∷ 0x1F ∷ 0x20 ∷ 0x31 ∷ []) (Run 0xA1B2C3D4 0x0E1F2031)
    ∷ []

-- The reader finds each record, and the place after it is the end
abbrev pub ReadAs : List Sample → Type 0
ReadAs [] = Unit {0}
ReadAs (x ∷ xs) = (read_record x.bytes 0 ≡ found x.item (length x.bytes)) × ReadAs xs

-- As many bytes of another value as a sample has, between two that are not its own
abbrev pub around : List ℕ → List ℕ
around bytes = 0xAA ∷ bytes ++ (0xBB ∷ [])

abbrev pub blank : Sample → List ℕ
blank x = around (replicate (length x.bytes) 0xEE)

-- The writer puts the bytes there and nowhere else, and answers the place after them; with one byte less of room it declines
pub record SamplesWritten : Type 0 where
  pub bytes : map (λ (x : Sample). write_buffer (fields_of x.item) 1 (blank x)) samples ≡ map (λ (x : Sample). around x.bytes) samples
  pub answers : map (λ (x : Sample). write_answer (fields_of x.item) 1 (blank x)) samples
      ≡ map (λ (x : Sample). answered 0 (1 + length x.bytes)) samples
  pub short : map (λ (x : Sample). write_number (fields_of x.item) 1 (length x.bytes)) samples ≡ replicate 10 14
