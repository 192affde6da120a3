-- Behind a sweep of the frame, `calm_noted_where` says which frames are calm, of the sweep by its definition: the calls put in what the code
-- has made of the branch and of the bytes.
use Prim.Native.Nat.{ℕ, ◌<◌}
use mathlib.Core.List.{List}
use mathlib.Core.Path.{sym, subst}
use lib.Dec.{eqb}
use lib.ListN.{length}
use Rattle.netlist.specs.Netlist.{pin_count}
use Rattle.simulator.proofs.ClockLaws.{Ordered, sound-ordered}
use Rattle.sweeps.specs.Inner.Work.{Work, frame_noted}
use Rattle.sweeps.specs.Inner.Windows.{CalmIn, circuit_of, stuck_lines, work_of}
use Rattle.sweeps.proofs.CalmLaws.{calm_noted_where}
use Rattle.sweeps.proofs.window.Window.sweep_unless_calm.Goals as goal

pub returns-clause-calm_after : goal.returns-clause-calm_after
returns-clause-calm_after c =
    let a = c.args in
    let bytes = a.self.netlist.now in
    let noted = a.calm.now.noted.now in
    let w = work_of a.known.now a.run.now a.progress in
    let d = c.sweep_frame-done in
    let x = work_of d.new.known d.new.run d.result in
    let ordered : (0 < length noted → Ordered (circuit_of a.self)) = λ h. sound-ordered bytes a.self.n (pin_count bytes) (c.requires.sound_where_noted h) in
    let calm = calm_noted_where (circuit_of a.self) (stuck_lines a.self) a.frame w noted ordered c.requires.calm_before in
    let after : (Work → Type 0) = λ y. CalmIn a.self (frame_noted noted a.frame (eqb y.steps w.steps)) y in
    subst (λ (l : List ℕ). CalmIn a.self l x) (sym c.note.ensures.noted) (subst after (sym d.ensures) calm)
