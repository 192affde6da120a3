-- Demand 1: a refusal of the reader has one of these numbers and no other; and how the same law is made of a tool over it
-- (`simulation_numbers`, `checking_numbers`, `finding_numbers`).
use mathlib.Core.List.{List, Mem, [], ◌++◌, ◌∷◌, map, mem-append_left, mem-append_right, mem-cons_of_mem, mem-cons_self}
use mathlib.Core.Option.{Option, none, some}
use mathlib.Core.Path.{◌∙◌, ◌≡◌, ap, refl, sym}
use Prim.Native.Nat.{ℕ}
use native.Mathlib.Omega.{arith}
use Rattle.std.specs.Prelude.{Result, Ok, Err}
use Rattle.netlist.specs.Refusal.{number_of_refusal, number_said}
use Rattle.netlist.specs.declared.reader.Size.{Size}
use Rattle.netlist.specs.declared.refusal.Refusal.{Refusal}
use Rattle.netlist.specs.declared.refusal.Refusal.TheVariants as refusals
use Rattle.netlist.specs.Answer.{Answer, Test, answered, number_of, refusal, refused}
use Rattle.netlist.specs.Netlist.{node_count, pin_count, reading, reader_tests, reading_says, sound}
use Rattle.netlist.proofs.RefusalLaws.{FirstFails, fails_here, fails_later, refusal_some}

abbrev numbers_of : {A : Type 0} → List (Test A) → List ℕ
numbers_of {A} ts = map (λ (t : Test A). t.number) ts

-- the first test that fails is one of the tests
fails_among : {A : Type 0} (ts : List (Test A)) (a : A) (k : ℕ) → FirstFails a k ts → Mem k (numbers_of ts)
fails_among {A = A} [] a k x' = elim x' [ ]
fails_among (t ∷ ts) a k (fails_here f e) = rw (← e) mem-cons_self
fails_among (t ∷ ts) a k (fails_later p f) = mem-cons_of_mem t.number (fails_among ts a k f)

-- THE READER

-- the number that is said of what the reader finds is that of its answer, 0 where the netlist is sound
pub number_read : (found : Result Size Refusal) → number_said found ≡ number_of (reading_says found)
number_read (Ok size) = refl
number_read (Err refusal) = refl

pub reading_numbers : (bs : List ℕ) (k : ℕ) → reading bs ≡ refused k → Mem k (1 ∷ 2 ∷ 3 ∷ 4 ∷ 5 ∷ 6 ∷ 7 ∷ [])
unfolding reading
reading_numbers bs k q = by (refusal reader_tests bs) refl q
  where
    by : (r : Option ℕ)
        → refusal reader_tests bs ≡ r
        → ◌≡◌ {A = Answer} (elim r [ none ↦ sound (node_count bs) (pin_count bs) | some j ↦ refused j ]) (refused k)
        → Mem k (numbers_of reader_tests)
    by (some j) e q = let h : j ≡ k = ap number_of q in rw (← h) (fails_among reader_tests bs j (refusal_some reader_tests bs j e))
    by none e q = absurd (let z : ◌≡◌ {A = ℕ} 0 1 = cc in omega arith)

-- A tool that reads a netlist, makes its tests and then does its work gives the reader's numbers, those of its tests, and those that its
-- work ends with.
pub tool_numbers : {A O : Type 0} (answer : O → Answer) (ts : List (Test A)) (a : A) (bs : List ℕ) (back : ℕ → O) (done : O) (rest : List ℕ)
    → ((j : ℕ) → answer (back j) ≡ refused j)
    → ((k : ℕ) → answer done ≡ refused k → Mem k rest)
    → (k : ℕ)
    → answer (elim (reading bs) [ refused j ↦ back j | answered _ ↦ elim (refusal ts a) [ some j ↦ back j | none ↦ done ] ]) ≡ refused k
    → Mem k (numbers_of reader_tests ++ (numbers_of ts ++ rest))
tool_numbers {A} {O} answer ts a bs back done rest same last k = by-reading (reading bs) refl
  where
    number : (j : ℕ) → answer (back j) ≡ refused k → j ≡ k
    number j q = ap number_of (sym (same j) ∙ q)

    by-test : (r : Option ℕ)
        → refusal ts a ≡ r
        → answer (elim r [ some j ↦ back j | none ↦ done ]) ≡ refused k
        → Mem k (numbers_of ts ++ rest)
    by-test (some j) e q = rw (← number j q) (mem-append_left rest (fails_among ts a j (refusal_some ts a j e)))
    by-test none e q = mem-append_right (numbers_of ts) (last k q)

    by-reading : (r : Answer)
        → reading bs ≡ r
        → answer (elim r [ refused j ↦ back j | answered _ ↦ elim (refusal ts a) [ some j ↦ back j | none ↦ done ] ]) ≡ refused k
        → Mem k (numbers_of reader_tests ++ (numbers_of ts ++ rest))
    by-reading (refused j) e q = mem-append_left (numbers_of ts ++ rest) (reading_numbers bs k (e ∙ ap refused (number j q)))
    by-reading (answered vs) e q = mem-append_right (numbers_of reader_tests) (by-test (refusal ts a) refl q)

-- no refusal has the number 0
pub number_some : (r : Refusal) → number_of_refusal r ≡ 0 → ⊥
number_some refusals.NoHead e = absurd (omega (arith, e))
number_some refusals.SizesNotAllowed e = absurd (omega (arith, e))
number_some refusals.LengthWrong e = absurd (omega (arith, e))
number_some refusals.UnknownKind e = absurd (omega (arith, e))
number_some refusals.PairsApart e = absurd (omega (arith, e))
number_some refusals.PinCountUnfit e = absurd (omega (arith, e))
number_some refusals.SourceNotAllowed e = absurd (omega (arith, e))
number_some refusals.LayoutWrong e = absurd (omega (arith, e))
number_some refusals.NoSuchFault e = absurd (omega (arith, e))
number_some refusals.WindowTooLong e = absurd (omega (arith, e))
number_some refusals.WorkSliceShort e = absurd (omega (arith, e))
number_some refusals.CertificateSliceShort e = absurd (omega (arith, e))
number_some refusals.SplitOutside e = absurd (omega (arith, e))
number_some refusals.StepNotAllowed e = absurd (omega (arith, e))
number_some refusals.BranchOpen e = absurd (omega (arith, e))
number_some refusals.SlicesUnfit e = absurd (omega (arith, e))
