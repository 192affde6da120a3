use Prim.Native.Nat.{◌-◌}
use mathlib.Core.Path.{◌≡◌}
use Rattle.sweeps.specs.Inner.Work.{tally}
use Rattle.sweeps.specs.Inner.Windows.{CalmIn, sweeps_in, work_of}
use Rattle.sweeps.proofs.window.Window.sweep_to_end.Given as goal

abbrev pub invariant-loop : goal.invariant-loop
invariant-loop l =
    let first = work_of l.initial.known l.initial.run l.initial.done in
    let here = work_of l.known l.run l.done in record {
      few : tally here ≡ tally first;
      to_come : sweeps_in l.self (l.most - l.counter) here ≡ sweeps_in l.self l.most first;
      calm : CalmIn l.self l.calm.noted.now here;
    }
