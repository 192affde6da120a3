-- 01, "Knowledge": the sweeps that work out a branch.
use Rattle.std.specs.Prelude.{Bool, ◌||◌, false, true, ◌*◌, suc, zero, ℕ, eqb, length}
use Rattle.circuit.specs.Fault.{StuckLines}
use Rattle.netlist.specs.Netlist.{Net}
use Rattle.gates.specs.Value.{is_unknown}
use Rattle.knowledge.specs.Window.{Branch, begin, conclusion, enter, in_force, known}
use Rattle.certificate.specs.declared.step.Step.{Step}

-- a after f 0, then f 1, .., then f (n - 1)
module _ {A : Type 0} where
  unfoldable pub rising : (ℕ → A → A) → ℕ → A → A
  rising f zero a = a
  rising f (suc n) a = f n (rising f n a)

-- What sweeps work on: it is closed or not, knows values by node and frame, takes steps, and has made a number of them.
-- A branch is such a thing (`branches`, below), and so are the lent bytes that the code works on (Work).
pub record BranchState (A : Type 0) : Type 0 where
  pub closed : A → Bool
  pub knows : A → ℕ → ℕ → ℕ
  pub takes : A → Step → A
  pub made : A → ℕ

-- S: the stuck lines of each frame
module _ {A : Type 0} (k : BranchState A) (net : Net) (S : ℕ → StuckLines) where
  -- what the relation of node n at frame t concludes of its line i, from what is known at that moment
  abbrev pub concluded : ℕ → ℕ → ℕ → A → Step
  concluded n t i a = conclusion net S (k.knows a) n t i

  -- a conclusion that is no step: it has no value, or the one that is known already
  unfoldable pub says_nothing : A → Step → Bool
  says_nothing a s = is_unknown s.value || eqb (k.knows a s.node s.frame) s.value

  -- Each new value is a step. A conclusion opposite to a known value is the last step.
  unfoldable pub try_line : ℕ → ℕ → ℕ → A → A
  try_line n t i a = elim (k.closed a || says_nothing a (concluded n t i a)) [ true ↦ a | false ↦ k.takes a (concluded n t i a) ]

  -- in a relation first the output, then pins in order
  unfoldable pub use_relation : ℕ → ℕ → A → A
  use_relation t n a = elim (in_force net S n t) [ true ↦ rising (try_line n t) (suc (length (net.pins n))) a | false ↦ a ]

  -- Sweeps run by rising frame, then node; W: the number of frames.
  unfoldable pub sweep_frame : ℕ → A → A
  sweep_frame t a = rising (use_relation t) net.size a

  unfoldable pub sweep : ℕ → A → A
  sweep W a = rising sweep_frame W a

  -- A sweep without a step ends the branch, and so does a contradiction. So many sweeps are made at most: CountingLaws shows that
  -- N × W + 1 are never too few.
  unfoldable pub sweeps : ℕ → ℕ → A → A
  sweeps W zero a = a
  sweeps W (suc m) a = let b = sweep W a in elim (k.closed b || eqb (k.made b) (k.made a)) [ true ↦ b | false ↦ sweeps W m b ]

abbrev pub branches : Net → (ℕ → StuckLines) → BranchState Branch
branches net S = record { closed = λ b. b.closed; knows = λ b. known net S b.values; takes = enter net S; made = λ b. length b.steps }

-- branch v of the split at node n and frame t of a window of W frames, worked out
unfoldable pub implied : Net → (ℕ → StuckLines) → ℕ → ℕ → ℕ → ℕ → Branch
implied net S W n t v = sweeps (branches net S) net S W (suc (net.size * W)) (begin net S W n t v)
