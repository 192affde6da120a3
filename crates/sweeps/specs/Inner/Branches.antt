-- The branches of a split that is tried, as the code has them: with its circuit, fault and window put in.
use Rattle.std.specs.Prelude.{Bool, List, ◌+◌, ℕ}
use Rattle.circuit.specs.Fault.{StuckLines, lines_of}
use Rattle.netlist.specs.Netlist.{Net, net_of}
use Rattle.checker.specs.Checker.{closes}
use Rattle.knowledge.specs.Window.{Branch, present_below}
use Rattle.knowledge.specs.Inner.Slice.{Holds}
use Rattle.sweeps.specs.Splits.{branch_of, split_closes}
use Rattle.sweeps.specs.Inner.Trials.{last_branch, window_bytes}
use Rattle.sweeps.specs.declared.window.Trial.{Trial}

-- the circuit of a trial, the stuck lines of each frame, and how many frames there are
abbrev pub net_in : Trial → Net
net_in t = net_of t.window.netlist.now

abbrev pub stuck_in : Trial → ℕ → StuckLines
stuck_in t = present_below t.split.c (lines_of t.window.fault)

abbrev pub frames_in : Trial → ℕ
frames_in t = t.split.c + t.f + 1

-- branch v of the split, and whether it closes
abbrev pub branch_in : Trial → ℕ → Branch
branch_in t v = branch_of (net_in t) t.window.fault t.f t.split v

abbrev pub closes_in : Trial → ℕ → Bool
closes_in t v = closes (net_in t) (lines_of t.window.fault) t.split.c t.f (branch_in t v)

abbrev pub split_closes_in : Trial → Bool
split_closes_in t = split_closes (net_in t) t.window.fault t.f t.split

-- bytes hold what is known in branch v
abbrev pub HoldsBranch : Trial → ℕ → List ℕ → Type 0
HoldsBranch t v bytes = Holds (net_in t) (stuck_in t) (frames_in t) (branch_in t v).values bytes

-- the bytes of what is known in branch v, and in the branch that is worked out last
abbrev pub bytes_in : Trial → ℕ → List ℕ
bytes_in t v = window_bytes (net_in t) (stuck_in t) (frames_in t) (branch_in t v).values

abbrev pub last_bytes : Trial → List ℕ
last_bytes t = window_bytes (net_in t) (stuck_in t) (frames_in t) (last_branch (net_in t) t.window.fault t.f t.split).values
