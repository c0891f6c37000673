-- Where a merged run stands, by what its loops have in hand, and what it gives where no check declines it.
use Rattle.std.specs.Prelude.{◌≡◌, ℕ, ◌+◌, ◌<◌, ◌≤◌, true, false, List}
use Rattle.words.specs.declared.stepped.Stepped.{Stepped}
use Rattle.words.specs.Memory.{Memory, memory}
use Rattle.sp.specs.declared.SpState.{SpState}
use Rattle.sp.specs.Turn.{sp_after, memory_after}
use Rattle.sp.specs.Tried.{may_move}
use Rattle.dp.specs.declared.DpState.{DpState}
use Rattle.machine.specs.declared.State.{State}
use Rattle.machine.specs.declared.Ran.{Ran}
use Rattle.runs.specs.declared.merged.Stood.{Stood}
use Rattle.machine.specs.Runs.{sp, Budgets, Run, begin, acts, merged, answered}

abbrev pub both : SpState → DpState → List ℕ → State
both s d queue = record { sp = s; dp = d; queue = queue }

abbrev pub standing : SpState → DpState → List ℕ → Memory → List ℕ → ℕ → ℕ → ℕ → Run
standing s d queue m out moved fetched words =
    record { state = both s d queue; memory = m; out = out; moved = moved; fetched = fetched; words = words }

-- Budgets of which the consumer's is cut to the output's room already
abbrev pub cut_to : ℕ → ℕ → ℕ → Budgets
cut_to spbudget dpbudget room = record { sp = spbudget; dp = dpbudget; consumer = room }

-- Where a run ends that begins with these registers and slots
abbrev pub end_from : SpState → DpState → List ℕ → ℕ → ℕ → ℕ → Memory → List ℕ → Run
end_from s d queue spbudget dpbudget room m out = merged (cut_to spbudget dpbudget room) (begin (both s d queue) m out)

-- What the SP moves at once where its turn acts, one word at least, over the memory m at entry and m' at exit: the registers and the bytes of as many
-- turns, none of them idle. Nothing where its turn is passed over
pub record Ahead (s : SpState) (moved budget : ℕ) (m : Memory) (r : Stepped SpState)
    (m' : Memory) : Type 0 where
  pub words : ℕ
  pub count : r.count ≡ moved + words
  pub some : may_move s moved budget ≡ true → (0 < words) × (moved + words ≤ budget)
  pub none : may_move s moved budget ≡ false → words ≡ 0
  pub busy : (k : ℕ) → k < words → (sp_after k s).busy ≡ true
  pub state : r.state ≡ sp_after words s
  pub bytes : m' ≡ memory_after words s m

-- Where a run stands whose end is `end`, once the SP's turn is passed over: whoever finishes it from here has finished the whole run
pub record StandsAt (end : Run) (b : Budgets) (r : Stood) (queue' : List ℕ) (m' : Memory) (out' : List ℕ) : Type 0 where
  pub rest : merged b (standing r.sp r.dp queue' m' out' r.moved r.got r.words) ≡ end
  pub passed : may_move r.sp r.moved b.sp ≡ false

-- What the rounds of the DP and the consumer alone give of a run: r, and the slots and the output at exit. It is the end of the run, whatever the SP
-- and IMEM are, where the SP's turn is passed over
abbrev pub Drawn : DpState → (fetched words dpbudget room : ℕ) → (rdram dmem queue out : List ℕ)
    → Stepped DpState → (queue' out' : List ℕ) → Type 0
Drawn d fetched words dpbudget room rdram dmem queue out r queue' out' =
    (s : SpState) (moved spbudget : ℕ) (imem : List ℕ)
    → acts (cut_to spbudget dpbudget room) sp (standing s d queue (memory rdram dmem imem) out moved fetched words) ≡ false
    → (let e = merged (cut_to spbudget dpbudget room) (standing s d queue (memory rdram dmem imem) out moved fetched words) in
    e ≡ standing s r.state queue' (memory rdram dmem imem) out' moved e.fetched r.count)

-- The call's r, and memory and output at exit, of a run that ends at q
pub record EndsAt (q : Run) (r : Ran) (m' : Memory) (out' : List ℕ) : Type 0 where
  pub given : r ≡ answered 0 q
  pub bytes : m' ≡ q.memory
  pub output : out' ≡ q.out
