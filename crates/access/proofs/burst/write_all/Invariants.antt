-- At each test of the loop the state is sound, and whoever finishes from here has finished the whole.
use mathlib.Core.Path.{◌≡◌}
use mathlib.Core.Bool.{true}
use lib.ListN.{length, drop}
use Rattle.machine.specs.Sound.{sound}
use Rattle.bursts.specs.Bursts.{writes_from}
use Rattle.access.proofs.burst.write_all.Given as goal

abbrev pub invariant-loop-a : goal.invariant-loop-a
invariant-loop-a l =
    let n = length l.yielded in
    record {
      counted : l.count ≡ n;
      sound : sound l.s ≡ true;
      goes_on : writes_from n (drop n l.addresses) (drop n l.values) l.s
          ≡ writes_from 0 l.addresses l.values l.initial.s;
    }
