use native.Mathlib.Omega.{arith}
use lib.ListN.{length}
use lib.Seq.{sets}
use mathlib.Core.List.{List}
use mathlib.Core.Path.{◌∙◌, ◌≡◌, subst, sym}
use Prim.Native.Nat.{ℕ}
use Rattle.values.proofs.SetsLaws.{sets-whole}
use Rattle.circuit.specs.Fault.{StuckLines, lines_of}
use Rattle.search.proofs.QuestionLaws.{question_size}
use Rattle.netlist.specs.Netlist.{Net, net_of}
use Rattle.witness.proofs.AlikeLaws.{redundant_from}
use Rattle.witness.proofs.WitnessLaws.{drawn_latched}
use Rattle.witness.specs.Inner.Alike.{Alike}
use Rattle.search.specs.declared.question.Question.{Question}
use Rattle.search.proofs.trial.Circuits.trial.Goals as goal

-- the good circuit takes over a copy of what the faulty one has latched
alike-copied : (net : Net) (s : StuckLines) (l m z : List ℕ) → Alike net s l l → m ≡ sets z 0 l → length z ≡ length l → Alike net s l m
alike-copied net s l m z h e k = subst (λ (w : List ℕ). Alike net s l w) (sym (e ∙ sets-whole l z k)) h

pub returns : goal.returns
returns c =
    let q = c.args.self.now.question in
    let s = q.netlist.now in
    let net = net_of s in
    let f = lines_of q.fault in
    let size = question_size q in
    let bits = drawn_latched net q.n size _ (λ k h. c.draw.ensures k (omega (arith, c.args.self.now.faulty_fits.1))) in
    let l = c.lead_in.new.self in
    let long = l.good_fits.1 ∙ sym l.faulty_fits.1 in
    let alike : Question → Type 0 = λ x. Alike (net_of x.netlist.now) (lines_of x.fault) l.latched.now c.copy.new.to in
    λ e h.
    let copied = alike-copied net f _ _ l.good_latched.now (c.lead_in.ensures.alike (redundant_from net f q.b _ bits h)) c.copy.ensures long in
    c.run_both.ensures e (subst alike (sym c.lead_in.ensures.same_question) copied)
