-- What the code finds of a branch, before both are put together to a verdict.
use Rattle.std.specs.Prelude.{Bool, Err, Ok, Result, ℕ}
use Rattle.std.proofs.Math.Option.{Option, none, some}
use Rattle.netlist.specs.Netlist.{Net}
use Rattle.circuit.specs.Fault.{StuckLines}
use Rattle.knowledge.specs.Window.{Branch}
use Rattle.checker.specs.Checker.{closes}
use Rattle.netlist.specs.declared.refusal.Refusal.{Refusal}
use Rattle.netlist.specs.declared.refusal.Refusal.TheVariants.{StepNotAllowed}

-- what is found of a branch: a step that is not allowed, or whether it closes
unfoldable pub judgement : Net → StuckLines → ℕ → ℕ → Option Branch → Result Bool Refusal
judgement net f c F none = Err StepNotAllowed
judgement net f c F (some b) = Ok (closes net f c F b)
