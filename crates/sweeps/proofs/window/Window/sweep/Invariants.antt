use mathlib.Core.Path.{◌≡◌}
use lib.ListN.{length}
use Rattle.sweeps.specs.Sweeps.{rising}
use Rattle.sweeps.specs.Inner.Windows.{CalmIn, frame_in, work_of}
use Rattle.sweeps.proofs.window.Window.sweep.Given as goal

abbrev pub invariant-loop-frame : goal.invariant-loop-frame
invariant-loop-frame l =
    let first = work_of l.initial.known l.initial.run l.initial.done in
    let here = work_of l.known l.run l.done in record {
      room_calm : length l.calm.noted.now ≡ length l.initial.calm.noted.now;
      swept : here ≡ rising (frame_in l.self) l.frame first;
      calm : CalmIn l.self l.calm.noted.now here;
    }
