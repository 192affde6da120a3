use Prim.Native.Nat.{ℕ, suc, ◌+◌, ◌-◌}
use mathlib.Core.Path.{◌∙◌, ◌≡◌, ap, subst}
use native.Mathlib.Omega.{arith}
use Rattle.circuit.specs.Fault.{lines_in, lines_of}
use Rattle.search.proofs.QuestionLaws.{question_size}
use Rattle.netlist.specs.Netlist.{net_of, pin_count}
use Rattle.simulator.proofs.ClockLaws.{sound-ordered}
use Rattle.witness.proofs.AlikeLaws.{from_now}
use Rattle.witness.proofs.WitnessLaws.{clock_from, drawn_inputs}
use Rattle.witness.specs.Inner.Alike.{AlikeFrom}
use Rattle.search.specs.declared.question.Question.{Question}
use Rattle.search.proofs.trial.Circuits.lead_in.Goals as goal

pub loop-preserved : goal.loop-preserved
unfolding lines_in
loop-preserved c =
    let q = c.args.self.now.question in
    let s = q.netlist.now in
    let net = net_of s in
    let f = lines_of q.fault in
    let l = c.loop in
    let size = question_size q in
    let o = sound-ordered s q.n (pin_count s) q.sound_netlist in
    let z : q.b - l.counter ≡ suc (q.b - (l.counter + 1)) = omega arith in
    let same = ap (λ (x : Question). x.n) l.invariant.0 in
    let fits = l.self.faulty_fits in
    let bits = drawn_inputs net q.n size _ (λ k h. c.draw.ensures k (omega (arith, fits.0, same))) in
    let values = c.draw.auto.values ∙ fits.0 ∙ same ∙ size in (
      l.invariant.0,
      λ h. clock_from net _ l.self.latched.now values f o (fits.1 ∙ same ∙ size) bits (q.b - (l.counter + 1))
          (subst (λ (k : ℕ). AlikeFrom net f k l.self.latched.now) z (l.invariant.1 h)) _ c.run_clock.ensures,
    )

pub returns-clause-alike : goal.returns-clause-alike
returns-clause-alike c =
    let q = c.args.self.now.question in
    let net = net_of q.netlist.now in
    let f = lines_of q.fault in
    let l = c.loop in
    let z : q.b - l.counter ≡ 0 = omega (arith, c.loop-test.false) in
    λ h. from_now net f l.self.latched.now (subst (λ (k : ℕ). AlikeFrom net f k l.self.latched.now) z (l.invariant.1 h))
