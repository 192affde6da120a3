-- A window's circuit, and a step's nodes and frames against it.
use Rattle.std.specs.Prelude.{Bool, ◌&&◌, List, ℕ, ltb}
use Rattle.certificate.specs.declared.step.Step.{Step}
use Rattle.checker.specs.declared.window.Window.{Window}
use Rattle.circuit.specs.Fault.{StuckLines, lines_of}
use Rattle.knowledge.specs.Inner.Slice.{known_in}
use Rattle.knowledge.specs.Window.{present_below}
use Rattle.netlist.specs.Netlist.{Net, net_of}

-- the step names nodes below n, frames below W, and a value
abbrev pub within : Step → ℕ → ℕ → Bool
within s n W = (ltb s.node n && ltb s.frame W) && (ltb s.value 2 && (ltb s.via n && ltb s.during W))

-- a window's circuit, the stuck lines of each frame, and what is known in a slice, by node and frame
module _ (window : Window) where
  abbrev pub window_net : Net
  window_net = net_of window.netlist.now

  abbrev pub window_stuck : ℕ → StuckLines
  window_stuck = present_below window.head.c (lines_of window.head.fault)

  abbrev pub window_known : List ℕ → ℕ → ℕ → ℕ
  window_known bytes = known_in bytes window_net.size
