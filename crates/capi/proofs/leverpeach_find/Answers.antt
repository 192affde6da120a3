-- A number of 2^32 or more is neither a refusal's nor none's, so the finder has found a mark, whose c and length the number tells.
use Rattle.std.proofs.Common.{◌*◌, ◌+◌, ◌<◌, ◌≤◌, ◌≡◌, Err, None, Ok, Some, arith, refl, rules, subst, take, ℕ}
use Rattle.std.specs.Prelude.{Option, Result}
use Rattle.capi.specs.Numbers.{find_number}
use Rattle.circuit.specs.declared.fault.Fault.{Fault}
use Rattle.finder.specs.Finder.{finding_says, found}
use Rattle.finder.specs.Marks.{IsMark}
use Rattle.finder.specs.declared.Mark.{Mark}
use Rattle.netlist.specs.Refusal.{number_of_refusal}
use Rattle.netlist.specs.declared.refusal.Refusal.{Refusal}
use Rattle.capi.proofs.leverpeach_find.Goals as goal
use Rattle.capi.proofs.leverpeach_find.Goals.{After-number_of}

said : (c : After-number_of) → c.number_of.result ≡ find_number (finding_says c.find-answer.result)
said c = search rules

short : (c : After-number_of) (m : Mark) → c.find-answer.result ≡ Ok (Some m) → m.length < 4294967296
short c m e = omega (arith, rw e at c.find-answer.type_inv)

few : (refusal : Refusal) → number_of_refusal refusal ≤ 16
few refusal = search (rules, arith)

found_by : (r : Result (Option Mark) Refusal) {n : ℕ} (k l : ℕ) → ((m : Mark) → r ≡ Ok (Some m) → m.length < 4294967296) → l < 4294967296
    → n ≡ find_number (finding_says r) → n ≡ 4294967296 * (k + 1) + l → (x : ℕ) × (finding_says r ≡ found k l x)
found_by (Ok (Some m)) k l s h e z =
    let g : m.length < 4294967296 = s m refl in
    let same_c : m.c ≡ k = omega arith in
    let same_length : m.length ≡ l = omega arith in
    (m.steps, λ i. found (same_c i) (same_length i) m.steps)
found_by (Ok None) k l s h e z = absurd (omega arith)
found_by (Err refusal) k l s h e z = absurd (omega (arith, few refusal))

pub returns-clause-means_mark : goal.returns-clause-means_mark
returns-clause-means_mark c = λ k l h z.
    let a = c.args in
    let r = found_by c.find-answer.result k l (short c) h (said c) z in
    (r.0, subst (λ (x : Fault). IsMark a.netlist.now x a.b a.f k r.0 (take l c.find-answer.new.certificate)) c.fault_of-fault.ensures (c.find-answer.ensures.means_mark k l r.0 r.1))
