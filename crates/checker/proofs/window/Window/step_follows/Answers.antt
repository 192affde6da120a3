use Rattle.std.proofs.Common.{rules}
use mathlib.Core.Path.{sym}
use Rattle.checker.specs.Inner.Within.{window_stuck}
use Rattle.checker.proofs.FollowLaws.{follows_read}
use Rattle.checker.proofs.window.Window.step_follows.Goals as goal

pub returns-then-byte_at-step : goal.returns-then-byte_at-step
returns-then-byte_at-step c =
    let w = c.args.self in
    let said = follows_read w.netlist.now (window_stuck w) w.w c.args.known.now c.args.step w.n _ w.sound_netlist c.place_of-place.ensures in
    search (rules, sym said)

pub returns-else-byte_at-step : goal.returns-else-byte_at-step
returns-else-byte_at-step c =
    let w = c.args.self in
    let said = follows_read w.netlist.now (window_stuck w) w.w c.args.known.now c.args.step w.n _ w.sound_netlist c.place_of-place.ensures in
    search (rules, sym said)
