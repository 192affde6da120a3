-- Guessed sets of values: one that has the held values, of which a sweep makes no step, and in which the effect does not die, is an open set,
-- wherever it is from.
use mathlib.Core.Bool.{false}
use mathlib.Core.List.{List, []}
use mathlib.Core.Logic.{◌⊎◌, inl, inr}
use mathlib.Core.Path.{◌∙◌, ◌≡◌, ap, refl, subst, sym}
use Prim.Native.Nat.{◌*◌, ◌+◌, ◌<◌, ◌≤◌, ℕ}
use native.Mathlib.Decide.{dec_lt, ℕ_discrete}
use native.Mathlib.Omega.{arith}
use Rattle.simulator.proofs.ClockLaws.{Ordered}
use Rattle.circuit.specs.Fault.{StuckLines, lines_of}
use Rattle.netlist.specs.Netlist.{Net}
use Rattle.circuit.specs.declared.fault.Fault.{Fault}
use Rattle.gates.proofs.GateLaws.{Refines}
use Rattle.values.specs.Lists.{at}
use Rattle.knowledge.proofs.HoldLaws.{none-held}
use Rattle.knowledge.proofs.Monotone.{Shut}
use Rattle.knowledge.proofs.RelationLaws.{absent_from, present_below_lem}
use Rattle.trace.specs.Trace.{effect_dies}
use Rattle.knowledge.specs.Window.{conclusion, present_below, held}
use Rattle.knowledge.specs.Inner.Slice.{known_in}
use Rattle.sweeps.proofs.OpenSets.{open_set, side_open}
use Rattle.sweeps.proofs.StillLaws.{Silent, bytes_count, nothing-new, still-silent, sweep_moves, sweep-still}
use Rattle.sweeps.specs.Splits.{branch_of}
use Rattle.splits.specs.Split.{split}
use Rattle.sweeps.specs.Sweeps.{sweep}
use Rattle.sweeps.specs.Inner.Work.{HasHeld, KeptOpen, Work, in_bytes, work}

-- ---- the held values

-- one frame more has the stuck value
pub held_more : (known : List ℕ) (N m u k : ℕ) → ((t : ℕ) → t < k → at known (t * N + m) ≡ u) → at known (k * N + m) ≡ u
    → (t : ℕ) → t < k + 1 → at known (t * N + m) ≡ u
held_more known N m u k f e t h = go (dec_lt t k)
  where
    go : Dec (t < k) → at known (t * N + m) ≡ u
    go (yes p) = f t p
    go (no d) = let z : t ≡ k = omega arith in ap (λ (x : ℕ). at known (x * N + m)) z ∙ e

module _ (N : ℕ) (f : Fault) (c : ℕ) (known : List ℕ) where
  -- all frames below c have it
  pub held_all : ((t : ℕ) → t < c → at known (t * N + f.node) ≡ (lines_of f).node f.node) → HasHeld N f c known
  unfolding HasHeld
  held_all have n t h = go (dec_lt t c)
    where
      go : Dec (t < c) → (present_below c (lines_of f) t).node n ≡ at known (t * N + n)
      go (no d) = absurd (let e = ap (λ (s : StuckLines). s.node n) (absent_from c (lines_of f) t (omega arith)) in omega (arith, e, h))
      go (yes p) = same (ℕ_discrete n f.node)
        where
          e : (present_below c (lines_of f) t).node n ≡ (lines_of f).node n
          e = ap (λ (s : StuckLines). s.node n) (present_below_lem c (lines_of f) t p)

          same : Dec (n ≡ f.node) → (present_below c (lines_of f) t).node n ≡ at known (t * N + n)
          same (yes q) = e ∙ ap (lines_of f).node q ∙ sym (have t p) ∙ ap (λ (x : ℕ). at known (t * N + x)) (sym q)
          same (no d) = absurd (omega (arith, e, h, none-held f n d))

  -- no node is held
  pub held_nowhere : 2 ≤ (lines_of f).node f.node → HasHeld N f c known
  unfolding HasHeld
  held_nowhere high n t h = absurd (go (dec_lt t c) (ℕ_discrete n f.node))
    where
      go : Dec (t < c) → Dec (n ≡ f.node) → ⊥
      go (no d) q = let e = ap (λ (s : StuckLines). s.node n) (absent_from c (lines_of f) t (omega arith)) in omega (arith, e, h)
      go (yes p) (yes q) = let e = ap (λ (s : StuckLines). s.node n) (present_below_lem c (lines_of f) t p) ∙ ap (lines_of f).node q in omega (arith, e, h, high)
      go (yes p) (no d) = let e = ap (λ (s : StuckLines). s.node n) (present_below_lem c (lines_of f) t p) in omega (arith, e, h, none-held f n d)

-- ---- the sweep

-- what bytes have, where a sweep changes nothing, is a shut set
pub still_shut : (net : Net) (S : ℕ → StuckLines) (W : ℕ) (w : Work) → w.closed ≡ false → sweep (in_bytes net.size) net S W w ≡ w
    → ((n t : ℕ) → Refines (held net S n t) (known_in w.known net.size n t))
    → Shut net S W (known_in w.known net.size)
unfolding Silent
still_shut net S W w c e has =
    record {
      has-held = λ n t h. has n t;
      has_concluded = λ n t a h g r l. nothing-new (in_bytes net.size) net S w (conclusion net S (known_in w.known net.size) n t a) (silent t g n h r a l);
    }
  where
    silent : (t : ℕ) → t < W → Silent (in_bytes net.size) net S t w
    silent t g = still-silent (in_bytes net.size) net S (bytes_count net.size) t w c (sweep-still (in_bytes net.size) net S (bytes_count net.size) W w e t g)

module _ (net : Net) (o : Ordered net) (f : Fault) (F c : ℕ) (known run : List ℕ) where
  abbrev S : ℕ → StuckLines
  S = present_below c (lines_of f)

  abbrev W : ℕ
  W = c + F + 1

  kept : sweep (in_bytes net.size) net S W (work known run 0 false) ≡ work known run 0 false → HasHeld net.size f c known
      → effect_dies net (known_in known net.size) F c (lines_of f) [] ≡ false
      → KeptOpen net f F c known
  unfolding KeptOpen HasHeld held branch_of
  kept e has d m u h g l =
      side_open net f F (split c u m) (known_in known net.size m u) l
      (open_set net o (lines_of f) c F W (known_in known net.size) (still_shut net S W (work known run 0 false) refl e has) d m u (known_in known net.size m u) h refl)

  -- THE law of guessed sets. after: the bytes after a sweep.
  pub guess_open : (after : Work) → after ≡ sweep (in_bytes net.size) net S W (work known run 0 false) → after.steps ≡ 0 → HasHeld net.size f c known
      → effect_dies net (known_in after.known net.size) F c (lines_of f) [] ≡ false
      → KeptOpen net f F c after.known
  guess_open after e z has =
      subst (λ (x : Work). effect_dies net (known_in x.known net.size) F c (lines_of f) [] ≡ false → KeptOpen net f F c x.known) (sym (e ∙ still)) (kept still has)
    where
      still : sweep (in_bytes net.size) net S W (work known run 0 false) ≡ work known run 0 false
      still = go (sweep_moves (in_bytes net.size) net S (bytes_count net.size) W (work known run 0 false))
        where
          go : (sweep (in_bytes net.size) net S W (work known run 0 false) ≡ work known run 0 false) ⊎ (0 < (sweep (in_bytes net.size) net S W (work known run 0 false)).steps)
              → sweep (in_bytes net.size) net S W (work known run 0 false) ≡ work known run 0 false
          go (inl q) = q
          go (inr q) = absurd (let y = ap (λ (x : Work). x.steps) e in omega (arith, y, z, q))
