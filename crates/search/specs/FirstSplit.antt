-- 01, "Finder": in which order splits are tried, and which is the first that closes.
use Rattle.std.specs.Prelude.{false, true, ◌⊎◌, ◌≡◌, ◌+◌, ◌<◌, ◌≤◌, suc, zero, ℕ}
use Rattle.std.proofs.Math.Option.{Option, none, some}
use Rattle.netlist.specs.Netlist.{Net}
use Rattle.circuit.specs.declared.fault.Fault.{Fault}
use Rattle.splits.specs.Split.{split}
use Rattle.sweeps.specs.Splits.{split_closes}
use Rattle.splits.specs.declared.split.Split.{Split}

-- the first of f 0, f 1, .., f (n - 1) that is there
module _ {A : Type 0} where
  unfoldable pub first_some : (ℕ → Option A) → ℕ → Option A
  first_some f zero = none
  first_some f (suc n) = elim (first_some f n) [ some a ↦ some a | none ↦ f n ]

module _ (net : Net) (f : Fault) (F : ℕ) where
  unfoldable pub try_split : Split → Option Split
  try_split s = elim (split_closes net f F s) [ true ↦ some s | false ↦ none ]

  -- It tries c from 0 to B, then frames, then nodes, rising.
  unfoldable pub try_nodes : ℕ → ℕ → ℕ → Option Split
  try_nodes c t m = first_some (λ n. try_split (split c t n)) m

  unfoldable pub try_frames : ℕ → ℕ → Option Split
  try_frames c m = first_some (λ t. try_nodes c t net.size) m

  unfoldable pub try_windows : ℕ → Option Split
  try_windows m = first_some (λ c. try_frames c (c + F + 1)) m

-- the first split whose two branches close, with c up to B
abbrev pub first_split : Net → Fault → ℕ → ℕ → Option Split
first_split net f B F = try_windows net f F (suc B)

-- a split of one of the windows: c up to B, a frame of the window, a node of the circuit
abbrev pub Within : Net → ℕ → ℕ → Split → Type 0
Within net B F s = (s.c ≤ B) × (s.frame < s.c + F + 1) × (s.node < net.size)

-- by c, then frame, then node
abbrev pub Earlier : Split → Split → Type 0
Earlier r s = (r.c < s.c) ⊎ ((r.c ≡ s.c) × ((r.frame < s.frame) ⊎ ((r.frame ≡ s.frame) × (r.node < s.node))))

-- the first split whose two branches close
pub record IsFirst (net : Net) (fault : Fault) (B F : ℕ) (s : Split) : Type 0 where
  pub within : Within net B F s
  pub closes : split_closes net fault F s ≡ true
  pub none_earlier : (r : Split) → Within net B F r → Earlier r s → split_closes net fault F r ≡ false
