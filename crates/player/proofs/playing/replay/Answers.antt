use mathlib.Core.Path.{refl, sym, ◌∙◌}
use Rattle.std.proofs.Common.{rules}
use Rattle.machine.proofs.Refusals.{numbers_apart}
use Rattle.playback.proofs.Begins.{short_enough}
use Rattle.playback.proofs.Steps.{replays_begun, replays_not}
use Rattle.lines.proofs.Writing.{first}
use Rattle.player.proofs.Noting.{none_found}
use Rattle.player.proofs.FromStart.{at_end, all_at_end}
use Rattle.player.proofs.playing.replay.Goals as goal

pub play-requires : goal.play-requires
play-requires c = short_enough _ _ (sym c.in_default.ensures)

pub returns-in-Err : goal.returns-in-Err
returns-in-Err c =
    let g = c.replayed.ensures in
    let l = c.new-lines.ensures in
    let why = c.in-Err.why in
    let n = c.into-number.ensures in
    at_end
    (replays_not _ _ _ c.into-number.result (n ∙ c.in-Err.ensures)
    (λ z. numbers_apart.never_zero why (sym n ∙ z))
    (first l.bytes l.place c.put_header.ensures) c.put_stop.ensures.put
    g.0 (g.1 ∙ c.at.ensures) g.2 (g.3 ∙ none_found c.default.ensures) refl)
    (search rules)

pub returns : goal.returns
returns c =
    let n = c.new-lines.ensures in
    all_at_end c.play.new.m
    (replays_begun _ _ _ (sym c.in_default.ensures)
    (first n.bytes n.place c.put_header.ensures) c.play.ensures.played refl)
    (search rules) (search rules) (search rules) (search rules)
