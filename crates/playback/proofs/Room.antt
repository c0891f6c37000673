-- The listing's length. A register's line has the most bytes for those of its record: 38 for 9.
use Prim.Native.Nat.{ℕ, zero, suc, ◌+◌, ◌-◌, ◌*◌, ◌≤◌}
use mathlib.Core.Path.{◌≡◌, refl}
use mathlib.Core.Bool.{true, false}
use mathlib.Core.List.{List, [], ◌∷◌, ◌++◌}
use native.Mathlib.Omega.{arith}
use lib.ListN.{length, length-append}
use Rattle.machine.specs.Refusals.{if_refused}
use Rattle.machine.specs.Calls.{read_register}
use Rattle.laws.specs.World.{World}
use Rattle.recording.specs.declared.Record.{Record}
use Rattle.recording.specs.Kinds.{four, eight, body_size, size, decoded, kind_of, record_of}
use Rattle.recording.specs.Reader.{record_number, longest}
use Rattle.recording.specs.Split.{Split, stops, precedes, split_from, split}
use Rattle.recording.proofs.Accepted.{accepted_whole}
use Rattle.listing.specs.Text.{Text, letter_s, letter_d, letter_r, letter_l}
use Rattle.listing.proofs.Lengths.{length_run, length_found, length_end, length_stop}
use Rattle.playback.specs.Effects.{load_at, replay_run, sp_line, dp_line, after, line}
use Rattle.playback.specs.Replay.{lines, last_line, played, not_played, headed, replay_refusal, replay}
use Rattle.playback.specs.Theorems.{longest_listing}
use Rattle.playback.proofs.Begins.{short_enough}

-- ---- A line against the bytes of its record

line_of : (kind a v word : ℕ) (w : World) → 9 * length (line (decoded kind a v word) w) ≤ 38 * size kind
unfolding decoded line
line_of zero a v word w = omega arith
line_of (suc zero) a v word w = omega arith
line_of (suc (suc zero)) a v word w = omega (arith, length_found letter_r false a (read_register w.state a).answer.value v)
line_of (suc (suc (suc zero))) a v word w = omega (arith, length_run letter_s (replay_run w a 0).outcome.answer.count)
line_of (suc (suc (suc (suc zero)))) a v word w = omega (arith, length_run letter_d (replay_run w 0 a).words)
line_of (suc (suc (suc (suc (suc zero))))) a v word w = omega arith
line_of (suc (suc (suc (suc (suc (suc zero)))))) a v word w = omega arith
line_of (suc (suc (suc (suc (suc (suc (suc zero))))))) a v word w = omega arith
line_of (suc (suc (suc (suc (suc (suc (suc (suc zero)))))))) a v word w = omega arith
line_of (suc (suc (suc (suc (suc (suc (suc (suc (suc zero))))))))) a v word w =
    omega (arith, length_found letter_l true a (load_at a w.memory) word)
line_of (suc (suc (suc (suc (suc (suc (suc (suc (suc (suc zero)))))))))) a v word w =
    let r = replay_run w a v in
    omega (
      arith,
      length-append (sp_line r) (dp_line r),
      length_run letter_s r.outcome.answer.count,
      length_run letter_d r.words,
    )
line_of (suc (suc (suc (suc (suc (suc (suc (suc (suc (suc (suc kind))))))))))) a v word w = omega arith

line_fits : (s : List ℕ) (w : World) → 9 * length (line (record_of s) w) ≤ 38 * size (kind_of s)
unfolding record_of
line_fits s w = line_of (kind_of s) (four s 1) (four s 5) (eight s 5) w

-- ---- The lines and the last line, whatever count it shows

abbrev listed : Split → World → ℕ → Text
listed x w count = lines x.items w ++ last_line x.number count x.place

last_fits : (number count place : ℕ) → 9 * length (last_line number count place) ≤ 207
last_fits zero count place = omega (arith, length_end count)
last_fits (suc number) count place = omega (arith, length_stop count (suc number) place)

-- One record of a recording, declined or accepted
one : (at n : ℕ) (r : Record) (x : Split) (w : World) (count most : ℕ) → 207 ≤ most
    → (n ≡ 0 → 9 * length (line r w) + 9 * length (listed x (after r w) count) ≤ most)
    → 9 * length (listed (if_refused n (stops at n) (precedes r x)) w count) ≤ most
unfolding lines
one at zero r x w count most h f =
    let g = f refl in
    let both = length-append (line r w ++ lines x.items (after r w)) (last_line x.number count x.place) in
    let before = length-append (line r w) (lines x.items (after r w)) in
    let rest = length-append (lines x.items (after r w)) (last_line x.number count x.place) in
    omega (arith, g, both, before, rest)
one at (suc n) r x w count most h f = omega (arith, last_fits (suc n) count at)

-- With the lines of the records after it
grows : (b : ℕ) (s : List ℕ) (w : World) (rest : ℕ) → 9 * rest ≤ 38 * (length s - body_size b) + 207 → record_number (b ∷ s) ≡ 0
    → 9 * length (line (record_of (b ∷ s)) w) + 9 * rest ≤ 38 * (suc (length s) - 0) + 207
grows b s w rest h e = omega (arith, line_fits (b ∷ s) w, accepted_whole (b ∷ s) e)

text_fits : (at j : ℕ) (s : List ℕ) (w : World) (count : ℕ) → 9 * length (listed (split_from at j s) w count) ≤ 38 * (length s - j) + 207
unfolding split_from lines
text_fits at zero [] w count = omega (arith, length_end count)
text_fits at (suc j) [] w count = omega (arith, length_end count)
text_fits at (suc j) (b ∷ s) w count = omega (arith, text_fits at j s w count)
text_fits at zero (b ∷ s) w count =
    let r = record_of (b ∷ s) in
    let x = split_from (at + size b) (body_size b) s in
    one at (record_number (b ∷ s)) r x w count (38 * (suc (length s) - 0) + 207) (omega arith)
    (λ e. grows b s w (length (listed x (after r w) count)) (text_fits (at + size b) (body_size b) s (after r w) count) e)

-- ---- The whole listing

pub listing_size : (s : List ℕ) (w : World) → length (replay s w).text ≤ longest_listing
unfolding replay
listing_size s w = whole (replay_refusal s w) (short_enough s w)
  where
    whole : (n : ℕ) → (n ≡ 0 → length s ≤ longest) → length (headed (if_refused n (not_played n w) (played (split s) w))).text ≤ longest_listing
    whole zero h = omega (arith, h refl, text_fits 0 0 s w (length (split s).items))
    whole (suc n) h = omega (arith, length_stop 0 (suc n) 0)
