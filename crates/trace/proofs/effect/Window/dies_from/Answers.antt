-- The trace, frame by frame. The loop's invariant: from frame t on, with `last - t` frames behind it, the effect dies as it does from c on.
-- A touched output ends the trace (`frame_open`); where none is touched, the trace goes on from what is latched (`frame_on`), the fault's lines
-- being those of the first frame only. After the loop one frame is left: no output of it and no flip-flop's pin may be touched (`frame_last`).
use Prim.Native.Nat.{◌+◌}
use mathlib.Core.Path.{◌≡◌, ◌∙◌, sym}
use native.Mathlib.Omega.{arith}
use Rattle.circuit.specs.Fault.{lines_in}
use Rattle.trace.proofs.TouchedLaws.{frame_last, frame_on, frame_open}
use Rattle.trace.proofs.effect.Window.dies_from.Goals as goal

pub returns-then-not-outputs_untouched : goal.returns-then-not-outputs_untouched
returns-then-not-outputs_untouched c =
    let frame = c.frame-frame.ensures in
    let turn = c.touch_nodes.ensures in
    let outputs = c.outputs_untouched.ensures in
    frame_open _ _ _ _ frame.netlist frame.circuit frame.values turn outputs c.if-not-outputs_untouched.true ∙ sym c.loop-t.invariant

pub loop-t-preserved : goal.loop-t-preserved
unfolding lines_in
loop-t-preserved c =
    let frame = c.frame-frame.ensures in
    let turn = c.touch_nodes.ensures in
    let outputs = c.outputs_untouched.ensures in
    c.loop-t.invariant
    ∙ frame_on _ _ _ _ frame.netlist frame.circuit frame.values turn outputs _ _ (omega arith) c.if-not-outputs_untouched.false c.latch_touched.ensures

pub returns-then-outputs_untouched : goal.returns-then-outputs_untouched
returns-then-outputs_untouched c =
    let frame = c.frame-frame-2.ensures in
    let turn = c.touch_nodes-2.ensures in
    let outputs = c.outputs_untouched-2.ensures in
    let at_last : c.loop-t.t ≡ c.args.self.now.c + c.args.self.now.f = omega arith in
    frame_last _ _ _ _ frame.netlist frame.circuit frame.values turn outputs _ (omega arith) c.if-outputs_untouched.true c.pins_untouched.ensures
    ∙ sym (rw at_last at c.loop-t.invariant)

pub returns-else-outputs_untouched : goal.returns-else-outputs_untouched
returns-else-outputs_untouched c =
    let frame = c.frame-frame-2.ensures in
    let turn = c.touch_nodes-2.ensures in
    let outputs = c.outputs_untouched-2.ensures in
    let at_last : c.loop-t.t ≡ c.args.self.now.c + c.args.self.now.f = omega arith in
    c.if-outputs_untouched.false
    ∙ frame_open _ _ _ _ frame.netlist frame.circuit frame.values turn outputs c.if-outputs_untouched.false
    ∙ sym (rw at_last at c.loop-t.invariant)
