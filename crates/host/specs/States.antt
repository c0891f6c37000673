-- States as host programs hand them over and get them back: every flag is a byte.
use Rattle.std.specs.Prelude.{ℕ, Bool, false, cond, ◌&&◌, List, [], ◌∷◌, ltb, leb}
use Rattle.words.specs.Bits.{as_bit}
use Rattle.words.specs.Tests.{all}
use Rattle.sp.specs.declared.SpState.{SpState}
use Rattle.sp.specs.State.{sp_power_up, with_waiting}
use Rattle.dp.specs.declared.DpState.{DpState}
use Rattle.machine.specs.declared.State.{State}
use Rattle.machine.specs.declared.Outcome.{Outcome}
use Rattle.machine.specs.declared.Ran.{Ran}
use Rattle.machine.specs.Sound.{power_up, with_sp}
use Rattle.host.specs.declared.HostSp.{HostSp}
use Rattle.host.specs.declared.HostDp.{HostDp}
use Rattle.host.specs.declared.HostState.{HostState}
use Rattle.host.specs.declared.HostOutcome.{HostOutcome}
use Rattle.host.specs.declared.HostRan.{HostRan}

-- A byte is a flag if it is 0 or 1
abbrev pub is_flag : ℕ → Bool
is_flag b = leb b 1

abbrev pub is_on : ℕ → Bool
is_on b = ltb 0 b

abbrev pub sp_flags : HostSp → List Bool
sp_flags h =
    is_flag h.busy
    ∷ is_flag h.storing
    ∷ is_flag h.full
    ∷ is_flag h.waitstoring
    ∷ is_flag h.halted
    ∷ is_flag h.broke
    ∷ is_flag h.sstep
    ∷ is_flag h.intbreak
    ∷ is_flag h.line
    ∷ is_flag h.semaphore
    ∷ []

abbrev pub dp_flags : HostDp → List Bool
dp_flags h =
    is_flag h.startpending
    ∷ is_flag h.endpending
    ∷ is_flag h.xbus
    ∷ is_flag h.freeze
    ∷ is_flag h.flush
    ∷ is_flag h.pipebusy
    ∷ is_flag h.line
    ∷ []

-- Every flag is one
unfoldable pub flags : HostState → Bool
flags h = all (sp_flags h.sp) && all (dp_flags h.dp)

-- ---- From a host

abbrev pub sp_decoded : HostSp → SpState
sp_decoded h = record {
  splatch = h.splatch;
  ramlatch = h.ramlatch;
  spaddr = h.spaddr;
  ramaddr = h.ramaddr;
  len = h.len;
  count = h.count;
  skip = h.skip;
  row = h.row;
  busy = is_on h.busy;
  storing = is_on h.storing;
  full = is_on h.full;
  waiting = h.waiting;
  waitstoring = is_on h.waitstoring;
  halted = is_on h.halted;
  broke = is_on h.broke;
  sstep = is_on h.sstep;
  intbreak = is_on h.intbreak;
  signals = h.signals;
  line = is_on h.line;
  semaphore = is_on h.semaphore;
}

abbrev pub dp_decoded : HostDp → DpState
dp_decoded h = record {
  start = h.start;
  «end» = h.end;
  current = h.current;
  limit = h.limit;
  startpending = is_on h.startpending;
  endpending = is_on h.endpending;
  xbus = is_on h.xbus;
  freeze = is_on h.freeze;
  flush = is_on h.flush;
  pipebusy = is_on h.pipebusy;
  wordsleft = h.wordsleft;
  queued = h.queued;
  head = h.head;
  line = is_on h.line;
  clock = h.clock;
  cmdcount = h.cmdcount;
  pipecount = h.pipecount;
  tmemcount = h.tmemcount;
}

-- A state that is not sound: FULL without BUSY
abbrev pub unsound : State
unsound = with_sp power_up (with_waiting sp_power_up 0 false)

-- The state that a call is made on. Bytes that are no flags stand for no state: the call is made on one that is not sound
unfoldable pub decoded : HostState → State
decoded h = cond (flags h) (record { sp = sp_decoded h.sp; dp = dp_decoded h.dp; queue = h.queue }) unsound

-- ---- To a host

abbrev pub sp_encoded : SpState → HostSp
sp_encoded s = record {
  splatch = s.splatch;
  ramlatch = s.ramlatch;
  spaddr = s.spaddr;
  ramaddr = s.ramaddr;
  len = s.len;
  count = s.count;
  skip = s.skip;
  row = s.row;
  waiting = s.waiting;
  busy = as_bit s.busy;
  storing = as_bit s.storing;
  full = as_bit s.full;
  waitstoring = as_bit s.waitstoring;
  halted = as_bit s.halted;
  broke = as_bit s.broke;
  sstep = as_bit s.sstep;
  intbreak = as_bit s.intbreak;
  signals = s.signals;
  line = as_bit s.line;
  semaphore = as_bit s.semaphore;
}

abbrev pub dp_encoded : DpState → HostDp
dp_encoded s = record {
  start = s.start;
  «end» = s.end;
  current = s.current;
  limit = s.limit;
  clock = s.clock;
  cmdcount = s.cmdcount;
  pipecount = s.pipecount;
  tmemcount = s.tmemcount;
  startpending = as_bit s.startpending;
  endpending = as_bit s.endpending;
  xbus = as_bit s.xbus;
  freeze = as_bit s.freeze;
  flush = as_bit s.flush;
  pipebusy = as_bit s.pipebusy;
  wordsleft = s.wordsleft;
  line = as_bit s.line;
  queued = s.queued;
  head = s.head;
}

unfoldable pub encoded : State → HostState
encoded s = record { sp = sp_encoded s.sp; dp = dp_encoded s.dp; queue = s.queue }

-- What a call gives back that gave o. A state with bytes that are no flags comes back as it went in
unfoldable pub handed : HostState → Outcome → HostOutcome
handed h o = record { state = cond (flags h) (encoded o.state) h; answer = o.answer }

unfoldable pub ran_handed : HostState → Ran → HostRan
ran_handed h r = record { outcome = handed h r.outcome; words = r.words }
