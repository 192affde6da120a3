-- The trace of a window with a lent slice, which has a byte for each node: 1 where it is touched.
use Rattle.std.specs.Prelude.{Bool, cond, false, List, [], ◌*◌, ◌+◌, ℕ, leb, length}
use Rattle.values.specs.Lists.{at}
use Rattle.netlist.specs.Netlist.{Net, net_of}
use Rattle.circuit.specs.Fault.{StuckLines, lines_in}
use Rattle.knowledge.specs.Inner.Slice.{known_in}
use Rattle.trace.specs.Trace.{cleared, effect_dies, pins_touched, untouched_values}
use Rattle.trace.specs.declared.frame.Frame.{Frame}
use Rattle.trace.specs.declared.frame.FramePins.{FramePins}
use Rattle.trace.specs.declared.effect.Window.{Window}

-- What a frame has, in the words of Trace: the circuit's nodes, the lines that are stuck, and what is known of each node.
module _ (frame : Frame) where
  abbrev pub frame_net : Net
  frame_net = net_of frame.netlist.now

  abbrev pub frame_lines : StuckLines
  frame_lines = lines_in frame.circuit

  abbrev pub frame_known : ℕ → ℕ
  frame_known = at frame.values.now

-- a frame's pins of a node: which of them are touched, and their values, a touched one's unknown
module _ (pins : FramePins) where
  abbrev pub touched_pins : List ℕ
  touched_pins = pins_touched (frame_net pins.frame) (frame_lines pins.frame) (frame_known pins.frame) (at pins.touched.now) pins.node

  abbrev pub read_pins : List ℕ
  read_pins = untouched_values (frame_net pins.frame) (frame_lines pins.frame) (frame_known pins.frame) (at pins.touched.now) pins.node

-- and what a window has: what is known, by node and frame
module _ (window : Window) where
  abbrev pub window_net : Net
  window_net = net_of window.netlist.now

  abbrev pub window_known : ℕ → ℕ → ℕ
  window_known = known_in window.known.now window_net.size

-- the answer of the trace of a window, and what the lent slice then holds
pub record Traced : Type 0 where
  pub dies : Bool
  pub touched : List ℕ

abbrev pub traced : Bool → List ℕ → Traced
traced dies touched = record { dies = dies; touched = touched }

-- The trace from frame c on, F frames after it: whether the effect dies. The slice has to have a byte for each node and frame
-- from c on, and these are 0 afterwards; a shorter one stays as it is, and nothing is said to die.
unfoldable pub tracing : Net → StuckLines → ℕ → ℕ → (ℕ → ℕ → ℕ) → List ℕ → Traced
tracing net f c F kn touched =
    cond (leb (net.size * (F + 1)) (length touched)) (traced (effect_dies net kn F c f []) (cleared (net.size * (F + 1)) touched)) (traced false touched)
