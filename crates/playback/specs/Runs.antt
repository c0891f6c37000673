-- Records of kind 3 do and list what a run of the SP alone does, those of kind 4 leave the SP and the memory alone, and kind 10 with one budget 0 does what
-- they do.
use Rattle.std.specs.Prelude.{ℕ, min, ◌≡◌, ◌++◌}
use Rattle.sp.specs.Turn.{sp_after, memory_after, sp_taken}
use Rattle.machine.specs.Sound.{with_sp}
use Rattle.laws.specs.World.{World, world}
use Rattle.laws.specs.Left.{words_put}
use Rattle.recording.specs.declared.Record.TheVariants.{SpRun, DpRun, Run}
use Rattle.listing.specs.Text.{letter_s, letter_d, run_line}
use Rattle.playback.specs.Effects.{after, line}

-- The turns of an SP run
abbrev pub sp_turns : World → ℕ → ℕ
sp_turns w budget = sp_taken budget w.state.sp

-- The words that a DP run puts out, whose output has room for 256 words
abbrev pub dp_words : World → ℕ → ℕ
dp_words w budget = words_put budget (min budget 256) w.state.dp

-- In a world whose state is sound and whose memory has allowed lengths, as every record of a replay finds it
pub record RunsAlone (w : World) (budget : ℕ) : Type 0 where
  pub sp_leaves : after (SpRun budget) w
      ≡ (let n = sp_turns w budget in world (with_sp w.state (sp_after n w.state.sp)) (memory_after n w.state.sp w.memory))
  pub sp_lists : line (SpRun budget) w ≡ run_line letter_s (sp_turns w budget)
  pub dp_lists : line (DpRun budget) w ≡ run_line letter_d (dp_words w budget)
  pub dp_keeps_sp : (after (DpRun budget) w).state.sp ≡ w.state.sp
  pub dp_keeps_memory : (after (DpRun budget) w).memory ≡ w.memory
  -- With one budget 0 kind 10 leaves what they leave, and lists a 0 beside their line
  pub sp_of_both : (after (Run budget 0) w ≡ after (SpRun budget) w) × (line (Run budget 0) w ≡ line (SpRun budget) w ++ run_line letter_d 0)
  pub dp_of_both : (after (Run 0 budget) w ≡ after (DpRun budget) w) × (line (Run 0 budget) w ≡ run_line letter_s 0 ++ line (DpRun budget) w)
