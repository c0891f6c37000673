-- At each test of the loop the state is sound, and whoever finishes from here has finished the whole.
use Prim.Native.Nat.{ℕ, ◌+◌, ◌≤◌}
use mathlib.Core.Path.{◌≡◌, refl, sym, ap, ◌∙◌}
use mathlib.Core.List.{List, [], ◌∷◌, ◌++◌}
use native.Mathlib.Omega.{arith}
use lib.ListN.{length, get_or}
use Rattle.std.proofs.Common.{rules, Ok, length-append}
use Rattle.std.proofs.lemmas.Slice.Zip.{zip_turn, zip_end}
use Rattle.machine.specs.declared.State.{State}
use Rattle.machine.specs.Address.{register_at}
use Rattle.machine.specs.Calls.{write_at}
use Rattle.machine.specs.Refusals.{number, register_number, ending}
use Rattle.machine.proofs.Refusals.{numbers_apart}
use Rattle.bursts.specs.Bursts.{burst_refusal}
use Rattle.bursts.proofs.Bursts.{checked, allowed, written, write_leaves}
use Rattle.bursts.proofs.Bursts.{goes_on, stops_here, at_end, pair_kept}
use Rattle.access.proofs.burst.write_all.Goals as goal

-- The lists are as long as each other, and not longer than 64
lengths : (s : State) (xs vs : List ℕ) → burst_refusal s xs vs ≡ 0
    → (length xs ≡ length vs) × (length xs ≤ 64)
lengths s xs vs h = allowed xs vs (checked s xs vs h).0

pub loop-a-init : goal.loop-a-init
loop-a-init c =
    record { counted = refl; sound = (checked c.args.s _ _ c.requires).1; goes_on = refl }

pub overflow_add-count : goal.overflow_add-count
overflow_add-count c =
    let xs = c.args.addresses.now in
    let vs = c.args.values.now in
    let from = c.into_iter-a-iterator.result in
    let turn = zip_turn xs vs _ from _ c.next.new.self _ (search rules) (search rules)
    c.loop-a.yielded_by _ c.in-Some.is c.next.ensures.steps in
    omega (arith, turn.0, (lengths c.args.s xs vs c.requires).1, c.loop-a.invariant.counted)

pub loop-a-preserved : goal.loop-a-preserved
loop-a-preserved c =
    let xs = c.args.addresses.now in
    let vs = c.args.values.now in
    let from = c.into_iter-a-iterator.result in
    let turn = zip_turn xs vs _ from _ c.next.new.self _ (search rules) (search rules)
    c.loop-a.yielded_by _ c.in-Some.is c.next.ensures.steps in
    let same = (lengths c.args.s xs vs c.requires).0 in
    let n = length c.loop-a.yielded in
    let s = c.loop-a.s in
    let r = c.register_at.result in
    let at = c.register_at.ensures ∙ ap register_at (turn.2 0) in
    let sound = c.loop-a.invariant.sound in
    let more : length (c.loop-a.yielded ++ (c.in-Some.a, c.in-Some.v) ∷ []) ≡ n + 1 =
    length-append c.loop-a.yielded _ in
    let leaves : c.write.new.s ≡ (write_at (Ok c.in-Ok.register) s c.in-Some.v.now).state =
    grind arith in
    let next : c.write.new.s ≡ written r s (get_or vs n 0) =
    leaves ∙ write_leaves (Ok c.in-Ok.register) s c.in-Some.v.now
    ∙ (λ j. written (sym c.in-Ok.is j) s (turn.3 0 j)) in
    record {
      counted = omega (arith, more, c.loop-a.invariant.counted);
      sound = rw next (pair_kept n xs vs s turn.0 same r at sound (c.type_inv.values n).fits);
      goes_on =
          rw (more, next) (goes_on n xs vs s turn.0 same r at sound (ap register_number c.in-Ok.is))
          ∙ c.loop-a.invariant.goes_on;
    }

pub returns-in-Err : goal.returns-in-Err
returns-in-Err c =
    let xs = c.args.addresses.now in
    let vs = c.args.values.now in
    let from = c.into_iter-a-iterator.result in
    let turn = zip_turn xs vs _ from _ c.next.new.self _ (search rules) (search rules)
    c.loop-a.yielded_by _ c.in-Some.is c.next.ensures.steps in
    let same = (lengths c.args.s xs vs c.requires).0 in
    let s = c.loop-a.s in
    let r = c.register_at.result in
    let at = c.register_at.ensures ∙ ap register_at (turn.2 0) in
    let given : c.into.result ≡ register_number r =
    c.into.ensures ∙ ap number c.from.ensures ∙ sym (ap register_number c.in-Err.is) in
    let refused : register_number r ≡ 0 → ⊥ =
    λ z. numbers_apart.never_zero c.from.result (sym c.into.ensures ∙ given ∙ z) in
    c.ending.ensures ∙ (λ j. ending s (given j) (c.loop-a.invariant.counted j))
    ∙ stops_here (length c.loop-a.yielded) xs vs s turn.0 same r at c.loop-a.invariant.sound refused
    ∙ c.loop-a.invariant.goes_on

pub returns : goal.returns
returns c =
    let xs = c.args.addresses.now in
    let vs = c.args.values.now in
    let from = c.into_iter-a-iterator.result in
    let done = zip_end xs vs _ from _ c.next.new.self _ (search rules) (search rules)
    c.loop-a.yielded_by c.in-None.is c.next.ensures.steps in
    let all : length xs ≤ length c.loop-a.yielded =
    omega (arith, done, (lengths c.args.s xs vs c.requires).0) in
    c.ending-2.ensures ∙ ap (ending c.loop-a.s 0) c.loop-a.invariant.counted
    ∙ at_end (length c.loop-a.yielded) xs vs c.loop-a.s all
    ∙ c.loop-a.invariant.goes_on
