use mathlib.Core.Path.{◌≡◌}
use Rattle.sweeps.specs.Sweeps.{rising}
use Rattle.sweeps.specs.Inner.Windows.{relation_in, work_of}
use Rattle.sweeps.proofs.window.Window.sweep_frame.Given as goal

abbrev pub invariant-loop-node : goal.invariant-loop-node
invariant-loop-node l =
    let first = work_of l.initial.known l.initial.run l.initial.done in
    work_of l.known l.run l.done ≡ rising (relation_in l.self l.frame) l.node first
