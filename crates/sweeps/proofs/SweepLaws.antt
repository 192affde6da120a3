-- What every step keeps, sweeps keep; for whatever they work on.
use mathlib.Core.Bool.{Bool, ◌||◌, false, true}
use mathlib.Core.Path.{◌≡◌, refl}
use Prim.Native.Nat.{◌<◌, suc, zero, ℕ}
use lib.Dec.{eqb}
use lib.ListN.{length}
use Rattle.circuit.specs.Fault.{StuckLines}
use Rattle.netlist.specs.Netlist.{Net}
use Rattle.knowledge.specs.Window.{in_force}
use Rattle.sweeps.proofs.RisingLaws.{rising_keeps}
use Rattle.sweeps.specs.Sweeps.{BranchState, concluded, rising, says_nothing, sweep, sweep_frame, sweeps, try_line, use_relation}

-- S: the stuck lines of each frame; W: the number of frames. Q is kept by each step that is taken: a conclusion of a relation in force,
-- which says something, while nothing is closed.
module _ {A : Type 0} (k : BranchState A) (net : Net) (S : ℕ → StuckLines) (W : ℕ) (Q : A → Type 0)
    (keep : (a : A) (n t i : ℕ) → n < net.size → t < W → i < suc (length (net.pins n)) → in_force net S n t ≡ true → Q a → k.closed a ≡ false
    → says_nothing k net S a (concluded k net S n t i a) ≡ false → Q (k.takes a (concluded k net S n t i a))) where
  line_keeps : (n t i : ℕ) → n < net.size → t < W → i < suc (length (net.pins n)) → in_force net S n t ≡ true → (a : A) → Q a → Q (try_line k net S n t i a)
  unfolding try_line
  line_keeps n t i h g l f a q = go (k.closed a) refl (says_nothing k net S a (concluded k net S n t i a)) refl
    where
      go : (x : Bool) → k.closed a ≡ x → (y : Bool) → says_nothing k net S a (concluded k net S n t i a) ≡ y
          → Q (elim (x || y) [ true ↦ a | false ↦ k.takes a (concluded k net S n t i a) ])
      go true p y r = q
      go false p true r = q
      go false p false r = keep a n t i h g l f q p r

  -- the steps of one relation
  pub relation_keeps : (t n : ℕ) → n < net.size → t < W → (a : A) → Q a → Q (use_relation k net S t n a)
  unfolding use_relation
  relation_keeps t n h g a q = go (in_force net S n t) refl
    where
      go : (x : Bool) → in_force net S n t ≡ x → Q (elim x [ true ↦ rising (try_line k net S n t) (suc (length (net.pins n))) a | false ↦ a ])
      go true f = rising_keeps (try_line k net S n t) Q (suc (length (net.pins n))) (λ i l b r. line_keeps n t i h g l f b r) a q
      go false f = q

  -- the steps of one frame
  pub frame_keeps : (t : ℕ) → t < W → (a : A) → Q a → Q (sweep_frame k net S t a)
  unfolding sweep_frame
  frame_keeps t g a q = rising_keeps (use_relation k net S t) Q net.size (λ n h b r. relation_keeps t n h g b r) a q

  -- one sweep, and all of them
  pub sweep_keeps : (a : A) → Q a → Q (sweep k net S W a)
  unfolding sweep
  sweep_keeps a q = rising_keeps (sweep_frame k net S) Q W (λ t g b r. frame_keeps t g b r) a q

  pub sweeps_keeps : (m : ℕ) (a : A) → Q a → Q (sweeps k net S W m a)
  unfolding sweeps
  sweeps_keeps zero a q = q
  sweeps_keeps (suc m) a q = go (k.closed b || eqb (k.made b) (k.made a)) (sweeps_keeps m b r)
    where
      b : A
      b = sweep k net S W a

      r : Q b
      r = sweep_keeps a q

      go : (x : Bool) → Q (sweeps k net S W m b) → Q (elim x [ true ↦ b | false ↦ sweeps k net S W m b ])
      go true s = r
      go false s = s
