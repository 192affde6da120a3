use Prim.Native.Nat.{◌≤◌}
use mathlib.Core.Path.{◌≡◌}
use Rattle.sweeps.specs.Inner.Windows.{pins_of, work_of}
use Rattle.sweeps.proofs.sweep.Relation.try_pins.Given as goal

abbrev pub invariant-loop-pin : goal.invariant-loop-pin
invariant-loop-pin l =
    let first = work_of l.initial.known l.initial.run l.initial.done in
    let here = work_of l.known l.run l.done in record {
      tried : here ≡ pins_of l.self l.pin first;
      grows : l.initial.done.steps ≤ l.done.steps;
      still : l.done.steps ≡ l.initial.done.steps → here ≡ first;
    }
