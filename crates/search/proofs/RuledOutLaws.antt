-- A fault that is not c-cycle redundant has no split that closes at c or below, so the search for it may begin above c.
use mathlib.Core.Bool.{Bool, false, true}
use mathlib.Core.List.{List}
use mathlib.Core.Option.{none}
use mathlib.Core.Path.{◌≡◌, refl, subst}
use Prim.Native.Nat.{◌+◌, ◌-◌, ◌≤◌, ℕ}
use native.Mathlib.Omega.{arith}
use Rattle.circuit.specs.Fault.{fault_exists, lines_of}
use Rattle.netlist.specs.Netlist.{net_of, node_count, pin_count, reading, sound}
use Rattle.circuit.specs.declared.fault.Fault.{Fault}
use Rattle.simulator.proofs.RedundantLaws.{redundant-later}
use Rattle.simulator.specs.Statement.{Redundant}
use Rattle.search.proofs.FirstLaws.{windows-none-by}
use Rattle.search.proofs.ClosingLaws.{mark_redundant}
use Rattle.search.specs.FirstSplit.{try_windows, Within}
use Rattle.splits.specs.Split.{split}
use Rattle.sweeps.specs.Splits.{split_closes}
use Rattle.splits.specs.declared.split.Split.{Split}
use Rattle.knowledge.specs.Window.{most_frames}

module _ (nb : List ℕ) (f : Fault) (B F : ℕ) (sound-nb : reading nb ≡ sound (node_count nb) (pin_count nb))
    (there : fault_exists (net_of nb) f ≡ true) (narrow : B + F + 1 ≤ most_frames) (c : ℕ) (seen : Redundant nb f c → ⊥) where
  -- a split that closes there would make the fault redundant from its own c on, so also from c on
  pub ruled_out : (s : Split) → Within (net_of nb) B F s → s.c ≤ c → split_closes (net_of nb) f F s ≡ false
  ruled_out s w l = go (split_closes (net_of nb) f F s) refl
    where
      go : (q : Bool) → split_closes (net_of nb) f F s ≡ q → q ≡ false
      go false e = refl
      go true e =
          let z : c - s.c + s.c ≡ c = omega arith in
          absurd (seen (subst (Redundant nb f) z (redundant-later (net_of nb) (lines_of f) s.c (c - s.c) (mark_redundant nb f B F sound-nb there narrow s w e))))

  module _ (low : c ≤ B) where
    -- so no window up to c has one
    pub windows_ruled_out : try_windows (net_of nb) f F (c + 1) ≡ none
    windows_ruled_out = windows-none-by (net_of nb) f F (c + 1) (λ d t n b g h. ruled_out (split d t n) (omega arith, g, h) (omega arith))
