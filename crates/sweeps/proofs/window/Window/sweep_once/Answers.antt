use Rattle.sweeps.specs.Inner.Windows.{circuit_of, stuck_lines}
use Rattle.sweeps.specs.Inner.Work.{work}
use mathlib.Core.Bool.{false}
use mathlib.Core.List.{[]}
use Rattle.sweeps.proofs.CalmLaws.{calm_none}
use Rattle.sweeps.proofs.window.Window.sweep_once.Goals as goal

-- there is no byte for a calm frame
pub sweep-requires-clause-calm_before : goal.sweep-requires-clause-calm_before
sweep-requires-clause-calm_before c =
    let a = c.args in
    calm_none (circuit_of a.self) (stuck_lines a.self) 0 (work a.known.now [] 0 false)
