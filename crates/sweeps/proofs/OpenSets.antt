-- Open sets: a shut set of values in which the effect does not die keeps each of its values open as a split. What an open branch knows in
-- the end is such a set, so none of the values that it knows is that of a branch that closes.
use mathlib.Core.Bool.{Bool, ◌&&◌, false, true, true≢false}
use mathlib.Core.List.{List, []}
use mathlib.Core.Logic.{◌⊎◌, inl, inr}
use mathlib.Core.Path.{◌∙◌, ◌≡◌, ap, refl, sym}
use Prim.Native.Nat.{◌*◌, ◌+◌, ◌<◌, suc, zero, ℕ}
use native.Mathlib.Omega.{arith}
use Rattle.simulator.proofs.ClockLaws.{Ordered}
use Rattle.circuit.specs.Fault.{StuckLines, lines_of}
use Rattle.netlist.specs.Netlist.{Net}
use Rattle.circuit.specs.declared.fault.Fault.{Fault}
use Rattle.gates.proofs.GateLaws.{stuck_refines}
use Rattle.values.specs.Lists.{at}
use Rattle.knowledge.proofs.Monotone.{Shut}
use Rattle.trace.proofs.TraceMonotone.{dies_mono}
use Rattle.checker.proofs.ShutLaws.{Inside, allowed_inside, begin_inside, known_in}
use Rattle.checker.specs.Checker.{closes}
use Rattle.trace.specs.Trace.{effect_dies}
use Rattle.knowledge.specs.Window.{Branch, conclusion, known, present_below, held}
use Rattle.knowledge.specs.Inner.Slice.{Holds}
use Rattle.sweeps.proofs.CountingLaws.{Ended, implied_ends}
use Rattle.sweeps.proofs.ReplayedLaws.{implied_allowed}
use Rattle.sweeps.proofs.StandsLaws.{closes-closed, closes-traced}
use Rattle.sweeps.proofs.StillLaws.{Silent, branches-count, nothing-new, still-silent, sweep-still}
use Rattle.sweeps.specs.Splits.{branch_of, split_closes}
use Rattle.splits.specs.Split.{split}
use Rattle.sweeps.specs.Sweeps.{branches, implied, sweep}
use Rattle.sweeps.specs.Inner.Work.{KeptOpen}
use Rattle.splits.specs.declared.split.Split.{Split}

-- what an open branch knows, where one more sweep changes nothing, is a shut set
pub ended_shut : (net : Net) (S : ℕ → StuckLines) (W : ℕ) (b : Branch) → b.closed ≡ false → sweep (branches net S) net S W b ≡ b → Shut net S W (known net S b.values)
unfolding Silent known
ended_shut net S W b c e =
    record {
      has-held = λ n t h. stuck_refines (held net S n t) _;
      has_concluded = λ n t a h g r l. nothing-new (branches net S) net S b (conclusion net S (known net S b.values) n t a) (silent t g n h r a l);
    }
  where
    silent : (t : ℕ) → t < W → Silent (branches net S) net S t b
    silent t g = still-silent (branches net S) net S (branches-count net S) t b c (sweep-still (branches net S) net S (branches-count net S) W b e t g)

module _ (net : Net) (o : Ordered net) (f : StuckLines) (c F W : ℕ) where
  -- THE law of open sets
  pub open_set : (K : ℕ → ℕ → ℕ) → Shut net (present_below c f) W K → effect_dies net K F c f [] ≡ false
      → (n t x : ℕ) → n < net.size → K n t ≡ x → closes net f c F (implied net (present_below c f) W n t x) ≡ false
  open_set K shut e n t x h q = sym (closes-traced net f c F b inside.still_open) ∙ go (effect_dies net (known net (present_below c f) b.values) F c f []) refl
    where
      b : Branch
      b = implied net (present_below c f) W n t x

      inside : Inside net o (present_below c f) W K shut b
      inside = allowed_inside net o (present_below c f) W K shut (begin_inside net o (present_below c f) W K shut n t x h q) (implied_allowed net o (present_below c f) W n t x)

      go : (z : Bool) → effect_dies net (known net (present_below c f) b.values) F c f [] ≡ z → z ≡ false
      go true r =
          absurd
          (true≢false
          (sym (dies_mono net o (known net (present_below c f) b.values) K (known_in net o (present_below c f) W K shut b inside) f c F r) ∙ e))
      go false r = refl

  -- a branch that does not close has met no contradiction, and its effect does not die
  pub open_says : (b : Branch) → closes net f c F b ≡ false → (b.closed ≡ false) × (effect_dies net (known net (present_below c f) b.values) F c f [] ≡ false)
  open_says b e = go b.closed refl
    where
      go : (q : Bool) → b.closed ≡ q → (b.closed ≡ false) × (effect_dies net (known net (present_below c f) b.values) F c f [] ≡ false)
      go true q = absurd (true≢false (closes-closed net f c F b q ∙ e))
      go false q = (q, closes-traced net f c F b q ∙ e)

  -- so what it knows in the end is a shut set
  pub open_shut : (n t x : ℕ) → n < net.size → t < W → x < 2 → closes net f c F (implied net (present_below c f) W n t x) ≡ false
      → Shut net (present_below c f) W (known net (present_below c f) (implied net (present_below c f) W n t x).values)
  unfolding Ended
  open_shut n t x h g k e = ended_shut net (present_below c f) W b (open_says b e).0 (go (implied_ends net o (present_below c f) W n t x h g k))
    where
      b : Branch
      b = implied net (present_below c f) W n t x

      go : (b.closed ≡ true) ⊎ (sweep (branches net (present_below c f)) net (present_below c f) W b ≡ b) → sweep (branches net (present_below c f)) net (present_below c f) W b ≡ b
      go (inl q) = absurd (true≢false (sym q ∙ (open_says b e).0))
      go (inr q) = q

-- a split with a branch that does not close does not close
pub side_open : (net : Net) (f : Fault) (F : ℕ) (s : Split) (y : ℕ) → y < 2 → closes net (lines_of f) s.c F (branch_of net f F s y) ≡ false → split_closes net f F s ≡ false
unfolding split_closes
side_open net f F s y l e = go y l e
  where
    side : ℕ → Bool
    side x = closes net (lines_of f) s.c F (branch_of net f F s x)

    right : (a b : Bool) → b ≡ false → (a && b) ≡ false
    right true b q = q
    right false b q = refl

    go : (y : ℕ) → y < 2 → side y ≡ false → (side 0 && side 1) ≡ false
    go zero l q = ap (λ (b : Bool). b && side 1) q
    go (suc zero) l q = right (side 0) (side 1) q
    go (suc (suc y)) l q = absurd (omega arith)

-- The splits of a window. s: a split whose branch v does not close.
module _ (net : Net) (o : Ordered net) (f : Fault) (F : ℕ) (s : Split) (v : ℕ) (hn : s.node < net.size) (ht : s.frame < s.c + F + 1) (hv : v < 2)
    (stays : closes net (lines_of f) s.c F (branch_of net f F s v) ≡ false) where
  -- each value that the branch knows in the end, as a split, has a branch that does not close
  pub open_knows : (m u y : ℕ) → m < net.size → known net (present_below s.c (lines_of f)) (branch_of net f F s v).values m u ≡ y
      → closes net (lines_of f) s.c F (branch_of net f F (split s.c u m) y) ≡ false
  unfolding branch_of
  open_knows m u y h e =
      open_set net o (lines_of f) s.c F (s.c + F + 1) (known net (present_below s.c (lines_of f)) (branch_of net f F s v).values)
      (open_shut net o (lines_of f) s.c F (s.c + F + 1) s.node s.frame v hn ht hv stays)
      (open_says net o (lines_of f) s.c F (s.c + F + 1) (branch_of net f F s v) stays).1
      m u y h e

  -- so the split there does not close
  pub open_split : (m u y : ℕ) → m < net.size → y < 2 → known net (present_below s.c (lines_of f)) (branch_of net f F s v).values m u ≡ y
      → split_closes net f F (split s.c u m) ≡ false
  open_split m u y h l e = side_open net f F (split s.c u m) y l (open_knows m u y h e)

  -- the same of the bytes that hold what the branch knows: where they have 0 or 1, the split does not close
  pub open_knows_in : (bytes : List ℕ) → Holds net (present_below s.c (lines_of f)) (s.c + F + 1) (branch_of net f F s v).values bytes
      → KeptOpen net f F s.c bytes
  unfolding Holds KeptOpen
  open_knows_in bytes holds m u h g l = open_split m u (at bytes (u * net.size + m)) h l (sym (holds m u h g))
