-- While the circuits are alike, a clock shows no difference and leaves them alike (`both_alike`).
use mathlib.Core.Bool.{true}
use mathlib.Core.Path.{◌∙◌, ◌≡◌, ap}
use native.Mathlib.Omega.{arith}
use Rattle.circuit.specs.Fault.{lines_of}
use Rattle.search.proofs.QuestionLaws.{question_size}
use Rattle.netlist.specs.Netlist.{net_of, pin_count}
use Rattle.simulator.proofs.ClockLaws.{sound-ordered}
use Rattle.witness.proofs.WitnessLaws.{both_alike, drawn_inputs}
use Rattle.witness.specs.Inner.Alike.{Alike}
use Rattle.search.specs.declared.question.Question.{Question}
use Rattle.search.proofs.trial.Circuits.run_both.Goals as goal
use Rattle.search.proofs.trial.Circuits.run_both.Goals.{After-step_both}

a-clock : (c : After-step_both)
    → Alike (net_of c.args.self.now.question.netlist.now) (lines_of c.args.self.now.question.fault) c.args.self.now.latched.now c.args.self.now.good_latched.now
    → (c.step_both.result ≡ true → ⊥)
    × Alike (net_of c.args.self.now.question.netlist.now) (lines_of c.args.self.now.question.fault) c.step_both.new.latched c.step_both.new.good_latched
a-clock c h =
    let q = c.args.self.now.question in
    let s = q.netlist.now in
    let net = net_of s in
    let l = c.loop.self in
    let i = c.loop.invariant in
    let same = ap (λ (x : Question). x.n) i.0 in
    let size = question_size q in
    let nodes = same ∙ size in
    let o = sound-ordered s q.n (pin_count s) q.sound_netlist in
    let bits = drawn_inputs net q.n size _ (λ k p. c.draw.ensures k (omega (arith, l.faulty_fits.0, same))) in
    both_alike net (lines_of q.fault) o _ l.latched.now l.good_values.now l.good_latched.now
    (c.draw.auto.values ∙ l.faulty_fits.0 ∙ nodes) (l.faulty_fits.1 ∙ nodes) (l.good_fits.0 ∙ nodes) (l.good_fits.1 ∙ nodes) bits (i.1 h) _ _ _ c.step_both.ensures

pub returns-then-step_both : goal.returns-then-step_both
returns-then-step_both c = λ e h. (a-clock (goal.at.returns-then-step_both c).After-step_both h).0 c.if-step_both.true

pub loop-preserved : goal.loop-preserved
loop-preserved c = (c.loop.invariant.0, λ h. (a-clock (goal.at.loop-preserved c).After-step_both h).1)
