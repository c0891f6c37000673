use Prim.Native.Nat.{◌≤◌}
use mathlib.Core.Path.{◌≡◌}
use lib.ListN.{length}
use Rattle.lines.proofs.Writing.{first}
use Rattle.playback.specs.Theorems.{longest_listing}
use Rattle.console.proofs.Listings.{report_given}
use borrow.Author.Rules.{rules}
use Rattle.console.proofs.judge.Goals as goal

pub returns : goal.returns
returns c =
    let p = c.args in
    let room : longest_listing ≤ length p.out.now = search rules in
    let size : length p.line.now ≡ 128 = search rules in
    let n = c.new-summary.ensures in
    let put = first n.bytes n.place c.put_summary.ensures in
    let e =
    report_given _ _ _ p.out.now c.replay-done.result _ _ _ c.at.result c.power_up.ensures room size
    c.replay-done.ensures put c.at.ensures
    in
    record { report = e.0; listing_len = e.1.0; summary_len = e.1.1 }
