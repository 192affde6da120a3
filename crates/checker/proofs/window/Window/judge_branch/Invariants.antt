use lib.ListN.{length}
use Prim.Native.Nat.{◌/◌}
use Rattle.certificate.specs.Certificate.{steps_in}
use Rattle.certificate.specs.Inner.Reading.{steps_left}
use Rattle.knowledge.specs.Inner.Slice.{entered}
use Rattle.knowledge.specs.Window.{begin}
use Rattle.checker.proofs.ReplayLaws.{Reached}
use Rattle.checker.specs.Inner.Within.{window_net, window_stuck}
use Rattle.checker.proofs.window.Window.judge_branch.Given as goal

abbrev pub invariant-loop-step : goal.invariant-loop-step
invariant-loop-step l =
    let w = l.self in
    let net = window_net w in
    let left = steps_left l.step-iterator.run.now l.step-iterator.at in
    Reached net (window_stuck w) w.w (steps_in (length l.run / 7) l.run) left (begin net (window_stuck w) w.w w.head.node w.head.frame l.v) (entered l.closed l.known)
