use Prim.Native.Nat.{ℕ, ◌≤◌, ◌<◌}
use mathlib.Core.Path.{◌≡◌, refl, sym, ap, ◌∙◌}
use native.Mathlib.Omega.{arith}
use mathlib.Core.List.{List}
use lib.ListN.{length}
use borrow.Author.Rules.{rules}
use Rattle.std.specs.Prelude.{is_some}
use Rattle.words.specs.Lent.{lent}
use Rattle.words.proofs.Lent.{same_refl, same_trans}
use Rattle.machine.specs.Refusals.{number}
use Rattle.machine.proofs.Refusals.{numbers_apart}
use Rattle.recording.specs.declared.Record.{Record}
use Rattle.recording.specs.Reader.{Reading, found, refused, longest, read_record}
use Rattle.recording.proofs.Splitting.{moves_on}
use Rattle.playback.proofs.Found.{few_noted, quiet_none, quiet_noted}
use Rattle.playback.proofs.Steps.{next_record, stopped, finished, plays}
use Rattle.player.proofs.Noting.{none_found}
use Rattle.player.specs.Expected.{is_unexpected}
use Rattle.player.proofs.playing.play.Goals as goal

-- The reader goes on, and stays within the recording
moved_on : (s : List ℕ) (at : ℕ) {item : Record} {next : ℕ} → length s ≤ longest
    → found item next ≡ read_record s at → (at < next) × (next ≤ length s)
moved_on s at h e =
    let m = moves_on s at h (sym (ap (λ (r : Reading). r.number) e)) in
    rw (ap (λ (r : Reading). r.place) e) m

pub loop-at-init : goal.loop-at-init
loop-at-init c =
    let z = none_found c.default-findings.ensures in (
      search rules,
      search rules,
      refl,
      rw z (λ r m d f. f),
      rw z (omega arith),
      rw z (omega arith),
      rw z quiet_none,
      same_refl _,
    )

pub noted-findings-requires : goal.noted-findings-requires
noted-findings-requires c =
    let i = c.loop-at.invariant in
    let h = c.requires in
    (omega (arith, i.0, i.1, i.4, h), omega (arith, i.0, i.1, i.5, h))

pub overflow_add-count : goal.overflow_add-count
overflow_add-count c =
    omega (arith, c.loop-at.invariant.1, c.loop-at-test.true, c.requires)

pub loop-at-smaller : goal.loop-at-smaller
loop-at-smaller c =
    let on = moved_on c.args.recording.now c.loop-at.at c.requires c.in-Ok.ensures.reading in
    omega (arith, on.0, on.1)

pub loop-at-preserved : goal.loop-at-preserved
loop-at-preserved c =
    let l = c.loop-at in
    let i = l.invariant in
    let on = moved_on c.args.recording.now c.loop-at.at c.requires c.in-Ok.ensures.reading in
    let p = c.perform-done in
    let seen = p.result.as_expected in
    let z = c.noted-findings.ensures in
    let few =
    few_noted l.findings (is_some seen) (is_unexpected seen) l.count l.at l.count i.4 i.5
    in
    let step =
    next_record c.args.recording.now l.at l.count l.findings (found c.in-Ok.item c.in-Ok.next) _ _
    c.requires c.in-Ok.ensures.reading refl p.ensures.performed in (
      on.1,
      omega (arith, on.0, i.1),
      p.ensures.same_buffer ∙ i.2,
      rw z (λ r m d f. i.3 r m d (step r m d f)),
      rw z few.0,
      rw z few.1,
      rw z (quiet_noted l.findings (is_some seen) (is_unexpected seen) l.count l.at i.6),
      same_trans i.7 p.ensures.same,
    )

pub returns-in-Err : goal.returns-in-Err
returns-in-Err c =
    let l = c.loop-at in
    let s = c.args.recording.now in
    let why = c.in-Err.why in
    let w = c.put_stop.ensures in
    let g = c.replayed.ensures in
    let n = c.into-number.ensures in
    record {
      same = l.invariant.7;
      same_buffer = w.same_buffer ∙ l.invariant.2;
      played =
          plays s _
          (l.invariant.3 _ _ _
          (stopped s l.at l.count l.findings (refused (number why)) l.state (lent l.m)
          c.replayed.result c.requires c.loop-at-test.true c.in-Err.ensures.reading
          (numbers_apart.never_zero why) l.invariant.6
          (rw (← n) w.put) (rw (← n) g.0) (g.1 ∙ c.at.ensures) g.2 g.3));
    }

pub returns : goal.returns
returns c =
    let l = c.loop-at in
    let s = c.args.recording.now in
    let w = c.put_end.ensures in
    let g = c.replayed-2.ensures in
    record {
      same = l.invariant.7;
      same_buffer = w.same_buffer ∙ l.invariant.2;
      played =
          plays s _
          (l.invariant.3 _ _ _
          (finished s l.at l.count l.findings l.state (lent l.m)
          c.replayed-2.result c.loop-at-test.false l.invariant.6 w.put g.0 (g.1 ∙ c.at-2.ensures)
          g.2 g.3));
    }
