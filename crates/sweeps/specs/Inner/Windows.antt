-- What the code makes of lent bytes in a window of its own type: the sweeps, with the window's circuit, stuck lines and number of frames
-- put in.
use Rattle.std.specs.Prelude.{List, ◌≡◌, ◌*◌, ◌+◌, ◌≤◌, suc, ℕ}
use Rattle.circuit.specs.Fault.{StuckLines, lines_of}
use Rattle.netlist.specs.Netlist.{Net, kind_of, net_of, source_of}
use Rattle.knowledge.specs.Window.{pin_frame, present_below}
use Rattle.sweeps.specs.Sweeps.{rising, sweep, sweep_frame, sweeps, try_line, use_relation}
use Rattle.sweeps.specs.Inner.Work.{CalmFrames, Work, in_bytes, tally, work}
use Rattle.sweeps.specs.declared.window.Window.{Window}
use Rattle.sweeps.specs.declared.sweep.Progress.{Progress}
use Rattle.sweeps.specs.declared.sweep.Relation.{Relation}

-- a branch in lent bytes, with how far it has come
abbrev pub work_of : List ℕ → List ℕ → Progress → Work
work_of known run progress = work known run progress.steps progress.closed

-- So few steps can come in all that their places are numbers of the code: a window has no more places than this.
abbrev pub FewSteps : Work → Type 0
FewSteps w = tally w ≤ 1048576

-- the circuit of a window, and the stuck lines of each of its frames
abbrev pub circuit_of : Window → Net
circuit_of x = net_of x.netlist.now

abbrev pub stuck_lines : Window → ℕ → StuckLines
stuck_lines x = present_below x.c (lines_of x.fault)

-- how many places it has: one for each node at each frame
abbrev pub places_in : Window → ℕ
places_in x = x.n * x.w

-- line i of a relation, and the lines of its pins in order
abbrev pub line_of : Relation → ℕ → Work → Work
line_of r = try_line (in_bytes (circuit_of r.window).size) (circuit_of r.window) (stuck_lines r.window) r.node r.frame

abbrev pub pins_of : Relation → ℕ → Work → Work
pins_of r = rising (λ (k : ℕ). line_of r (suc k))

-- the output's line is no step
abbrev pub IsSettled : Relation → Work → Type 0
IsSettled r w = (line_of r 0 w).steps ≡ w.steps

-- where what is known of the source of a pin stands, in the frame of the pins
abbrev pub source_place : Relation → ℕ → ℕ
source_place r pin =
    let bytes = r.window.netlist.now in
    pin_frame (kind_of bytes r.node) r.frame * r.window.n + source_of bytes r.node pin

-- the relation of a node at frame t, and those of all nodes at it
abbrev pub relation_in : Window → ℕ → ℕ → Work → Work
relation_in x t = use_relation (in_bytes (circuit_of x).size) (circuit_of x) (stuck_lines x) t

abbrev pub frame_in : Window → ℕ → Work → Work
frame_in x t = sweep_frame (in_bytes (circuit_of x).size) (circuit_of x) (stuck_lines x) t

abbrev pub sweep_in : Window → Work → Work
sweep_in x = sweep (in_bytes (circuit_of x).size) (circuit_of x) (stuck_lines x) x.w

-- so many sweeps at most
abbrev pub sweeps_in : Window → ℕ → Work → Work
sweeps_in x m = sweeps (in_bytes (circuit_of x).size) (circuit_of x) (stuck_lines x) x.w m

-- the frames that are noted are calm
abbrev pub CalmIn : Window → List ℕ → Work → Type 0
CalmIn x calm w = CalmFrames (circuit_of x) (stuck_lines x) calm w
