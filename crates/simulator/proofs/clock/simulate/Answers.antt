-- The simulator reads the netlist, tests the circuit (9) and the slices (16), and makes the clock step: settle, then latch.
-- A netlist that is not sound is turned back with the reader's number (`simulation-unsound`). Where a test fails, it is the first that
-- does (`simulation-refused`). At the end both have passed (`simulation-done`), and `step_halves` makes one clock step of settling and
-- latching.
use mathlib.Core.Bool.{true}
use mathlib.Core.Path.{◌∙◌, ◌≡◌, ap, refl, sym}
use Rattle.netlist.proofs.RefusalLaws.{fails_here, fails_later}
use Rattle.netlist.specs.Netlist.{net_of, reading_says}
use Rattle.simulator.proofs.SimulatorLaws.{simulation-done, simulation-refused, simulation-unsound, slices_fitting, step_halves}
use Rattle.simulator.specs.Clock.{simulator_call, slices_fit}
use Rattle.simulator.proofs.clock.simulate.Goals as goal

pub returns-in_default : goal.returns-in_default
returns-in_default c =
    let unsound = sym c.read-answer.ensures ∙ ap reading_says c.unwrap_err.ensures in
    sym (simulation-unsound _ _ unsound)

pub returns-then-not-circuit_exists : goal.returns-then-not-circuit_exists
returns-then-not-circuit_exists c =
    let fails = sym c.circuit_exists.ensures ∙ c.if-not-circuit_exists.true in
    sym (simulation-refused _ 9 (sym c.in-Ok.ensures) (fails_here fails refl))

pub returns-then-not-slices_fit : goal.returns-then-not-slices_fit
returns-then-not-slices_fit c =
    let exists = sym c.circuit_exists.ensures ∙ c.if-not-circuit_exists.false in
    let fails = sym c.slices_fit.ensures ∙ c.if-not-slices_fit.true in
    sym (simulation-refused _ 16 (sym c.in-Ok.ensures) (fails_later exists (fails_here fails refl)))

pub returns : goal.returns
returns c =
    let a = c.args in
    let q = simulator_call a.netlist.now a.circuit a.first.now a.second.now in
    let sound = sym c.in-Ok.ensures in
    let exists = sym c.circuit_exists.ensures ∙ c.if-not-circuit_exists.false in
    let fit : slices_fit (net_of a.netlist.now) a.first.now a.second.now ≡ true = sym c.slices_fit.ensures ∙ c.if-not-slices_fit.false in
    rw (c.latch.ensures, c.settle.ensures)
    (step_halves q c.in-Ok.size.nodes c.in-Ok.size.pins sound (slices_fitting _ _ _ fit) ∙ sym (simulation-done q sound (exists, (fit, tt))))
