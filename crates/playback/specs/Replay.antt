-- Replaying a recording.
use Rattle.std.specs.Prelude.{ℕ, List, [], ◌∷◌, ◌++◌, leb, length}
use Rattle.words.specs.Memory.{Memory}
use Rattle.machine.specs.declared.Outcome.{Outcome}
use Rattle.machine.specs.Refusals.{check, sp_refusal, declined, ending, if_refused}
use Rattle.laws.specs.World.{World}
use Rattle.recording.specs.declared.Record.{Record}
use Rattle.recording.specs.Reader.{longest}
use Rattle.recording.specs.Split.{Split, split}
use Rattle.listing.specs.Text.{Text, header, end_line, stop_line}
use Rattle.playback.specs.declared.Findings.{Findings}
use Rattle.playback.specs.Effects.{after, line}
use Rattle.playback.specs.Findings.{findings, no_findings}

-- What records leave, one after the other
unfoldable pub after_all : List Record → World → World
after_all [] w = w
after_all (r ∷ rs) w = after_all rs (after r w)

-- The lines that they write
unfoldable pub lines : List Record → World → Text
lines [] w = []
lines (r ∷ rs) w = line r w ++ lines rs (after r w)

-- The last line: `stop`, or `end` where the number is 0
abbrev pub last_line : ℕ → ℕ → ℕ → Text
last_line number count place = if_refused number (stop_line count number place) (end_line count)

-- How a replay ends: number, value, count and state; the place where the declined record begins, 0 if there is none; what the accepted records
-- found; every lent byte of memory; the listing
pub record Played : Type 0 where
  pub outcome : Outcome
  pub place : ℕ
  pub findings : Findings
  pub memory : Memory
  pub text : Text

-- The accepted records are performed. What the declined one would do is not done
abbrev pub played : Split → World → Played
played x w =
    record {
      outcome = ending (after_all x.items w).state x.number (length x.items);
      place = if_refused x.number x.place 0;
      findings = findings x.items w;
      memory = (after_all x.items w).memory;
      text = lines x.items w ++ last_line x.number (length x.items) x.place;
    }

-- The checks before the first record: 9, then 1, 2, 3 and 4
unfoldable pub replay_refusal : List ℕ → World → ℕ
replay_refusal s w = check (leb (length s) longest) 9 (sp_refusal w.state w.memory)

-- A replay that does not begin changes nothing
abbrev pub not_played : ℕ → World → Played
not_played number w =
    record { outcome = declined w.state number; place = 0; findings = no_findings; memory = w.memory; text = stop_line 0 number 0 }

-- The first line goes before
abbrev pub headed : Played → Played
headed p = record { outcome = p.outcome; place = p.place; findings = p.findings; memory = p.memory; text = header ++ p.text }

-- The recording s is replayed
unfoldable pub replay : List ℕ → World → Played
replay s w = headed (if_refused (replay_refusal s w) (not_played (replay_refusal s w) w) (played (split s) w))
