-- How many steps a branch can have, and that sweeps end: by a contradiction or a sweep without a step, never because no more are made.
use mathlib.Core.Bool.{Bool, ◌||◌, false, false≢true, not, true}
use mathlib.Core.List.{List, [], ◌++◌, ◌∷◌}
use mathlib.Core.Logic.{◌⊎◌, inl, inr}
use mathlib.Core.Path.{◌∙◌, ◌≡◌, ap, refl}
use Prim.Native.Nat.{◌*◌, ◌+◌, ◌<◌, ◌≤◌, suc, zero, ℕ}
use native.Mathlib.Nat.{le_of_suc-le-suc, not-suc-le-zero}
use native.Mathlib.Omega.{arith}
use lib.Dec.{eqb}
use lib.ListN.{get_or, length, length-append, length-replicate, length-set, replicate, set}
use borrow.Author.Tests.{eqb-false, eqb-true}
use Rattle.simulator.proofs.ClockLaws.{Ordered}
use Rattle.values.proofs.ListLaws.{replicate-at}
use Rattle.gates.proofs.ValueLaws.{known-low}
use Rattle.circuit.specs.Fault.{StuckLines}
use Rattle.netlist.specs.Netlist.{Net}
use Rattle.gates.specs.Value.{is_unknown, stuck_or}
use Rattle.knowledge.proofs.HoldLaws.{place-within}
use Rattle.knowledge.proofs.WindowLaws.{begin-cases, enter-cases}
use Rattle.trace.specs.Trace.{one_if}
use Rattle.knowledge.specs.Window.{Branch, begin, enter, in_force, known, held}
use Rattle.certificate.specs.declared.step.Step.{Step}
use Rattle.sweeps.proofs.ReplayedLaws.{conclusion-within, says_new}
use Rattle.sweeps.proofs.StillLaws.{branches-count, sweep_moves}
use Rattle.sweeps.proofs.SweepLaws.{sweep_keeps, sweeps_keeps}
use Rattle.sweeps.specs.Sweeps.{branches, concluded, says_nothing, sweep, sweeps, implied}
use Rattle.sweeps.specs.Inner.Work.{unknowns}

-- where nothing is known, as many places are unknown as there are
pub unknowns-all : (m : ℕ) → unknowns (replicate m 2) ≡ m
unfolding unknowns
unknowns-all zero = refl
unknowns-all (suc m) = omega (arith, unknowns-all m)

-- a value at an unknown place leaves one fewer
pub unknowns-set : (l : List ℕ) (i v d : ℕ) → i < length l → is_unknown (get_or l i d) ≡ true → v < 2 → suc (unknowns (set l i v)) ≡ unknowns l
unfolding unknowns
unknowns-set [] i v d h e q = absurd (not-suc-le-zero h)
unknowns-set (x ∷ xs) zero v d h e q = let a : one_if (is_unknown v) ≡ 0 = rw (known-low v q) in let b : one_if (is_unknown x) ≡ 1 = rw e in omega arith
unknowns-set (x ∷ xs) (suc i) v d h e q = omega (arith, unknowns-set xs i v d (le_of_suc-le-suc h) e q)

-- what is unknown is not held, and was not concluded
stuck_unknown : (s v : ℕ) → is_unknown (stuck_or s v) ≡ true → is_unknown v ≡ true
stuck_unknown zero v e = absurd (false≢true e)
stuck_unknown (suc zero) v e = absurd (false≢true e)
stuck_unknown (suc (suc s)) v e = e

-- a branch at its end: a contradiction was met, or one more sweep changes nothing
unfoldable pub Ended : Net → (ℕ → StuckLines) → ℕ → Branch → Type 0
Ended net S W b = (b.closed ≡ true) ⊎ (sweep (branches net S) net S W b ≡ b)

module _ (net : Net) (o : Ordered net) (S : ℕ → StuckLines) (W : ℕ) where
  -- steps, unknown values and, while the branch is open, one more are together as many as there are places
  record Tally (b : Branch) : Type 0 where
    full : length b.values ≡ net.size * W
    total : length b.steps + unknowns b.values + one_if (not b.closed) ≡ net.size * W

  enter_tally : (b : Branch) (n t i : ℕ) → n < net.size → t < W → i < suc (length (net.pins n)) → in_force net S n t ≡ true → Tally b → b.closed ≡ false
      → says_nothing (branches net S) net S b (concluded (branches net S) net S n t i b) ≡ false
      → Tally (enter net S b (concluded (branches net S) net S n t i b))
  unfolding known
  enter_tally b n t i h g l f r q e =
      enter-cases net S Tally b s
      (λ u.
      record {
        full = length-set b.values place s.value ∙ r.full;
        total =
            let fewer =
            unknowns-set b.values place s.value 2 (omega (arith, low, r.full)) (stuck_unknown (held net S s.node s.frame) _ u)
            (says_new (branches net S) net S b s e).0 in
            omega (arith, fewer, one_more_lem, before);
      })
      (λ u. record { full = r.full; total = omega (arith, one_more_lem, before) })
    where
      s : Step
      s = concluded (branches net S) net S n t i b

      place : ℕ
      place = s.frame * net.size + s.node

      low : place < net.size * W
      low =
          let p = conclusion-within net o S W (known net S b.values) n t i h g l in
          place-within net.size W s.node s.frame p.0 p.1

      one_more_lem : length (b.steps ++ (s ∷ [])) ≡ suc (length b.steps)
      one_more_lem = omega (arith, length-append b.steps (s ∷ []))

      before : length b.steps + unknowns b.values + 1 ≡ net.size * W
      before = rw q at r.total

  begin-tally : (n t v : ℕ) → n < net.size → t < W → v < 2 → Tally (begin net S W n t v)
  begin-tally n t v h g k =
      begin-cases net S Tally W n t v
      (λ _. record { full = length-replicate (net.size * W) 2; total = omega (arith, unknowns-all (net.size * W)) })
      (λ _.
      record {
        full = length-set l place v ∙ length-replicate (net.size * W) 2;
        total = omega (arith, unknowns-all (net.size * W), unknowns-set l place v 2 low (ap is_unknown (replicate-at 2 (net.size * W) place)) k);
      })
    where
      l : List ℕ
      l = replicate (net.size * W) 2

      place : ℕ
      place = t * net.size + n

      low : place < length l
      low = omega (arith, length-replicate {A = ℕ} (net.size * W) 2, place-within net.size W n t h g)

  -- at most as many steps as there are places
  pub implied_few : (n t v : ℕ) → n < net.size → t < W → v < 2 → length (implied net S W n t v).steps ≤ net.size * W
  unfolding implied
  implied_few n t v h g k =
      let r = sweeps_keeps (branches net S) net S W Tally enter_tally (suc (net.size * W)) (begin net S W n t v) (begin-tally n t v h g k) in
      omega (arith, r.total)

  -- as many sweeps as there are unknown values, and one more, come to an end
  sweeps_end : (m : ℕ) (a : Branch) → Tally a → unknowns a.values < m → Ended net S W (sweeps (branches net S) net S W m a)
  unfolding sweeps Ended
  sweeps_end zero a g h = absurd (not-suc-le-zero h)
  sweeps_end (suc m) a g h = go b.closed refl (eqb (length b.steps) (length a.steps)) refl (λ p. sweeps_end m b r p)
    where
      b : Branch
      b = sweep (branches net S) net S W a

      r : Tally b
      r = sweep_keeps (branches net S) net S W Tally enter_tally a g

      -- a branch has changed only if it has made a step
      moved : (b ≡ a) ⊎ (length a.steps < length b.steps)
      moved = sweep_moves (branches net S) net S (branches-count net S) W a

      still : length b.steps ≡ length a.steps → (b ≡ a) ⊎ (length a.steps < length b.steps) → sweep (branches net S) net S W b ≡ b
      still e (inl z) = ap (sweep (branches net S) net S W) z
      still e (inr l) = absurd (omega arith)

      fewer : b.closed ≡ false → (length b.steps ≡ length a.steps → ⊥) → (b ≡ a) ⊎ (length a.steps < length b.steps) → unknowns b.values < m
      fewer q e (inl z) = absurd (e (ap (λ (x : Branch). length x.steps) z))
      fewer q e (inr l) =
          let now : length b.steps + unknowns b.values + 1 ≡ net.size * W = rw q at r.total in
          less a.closed now g.total
        where
          less : (u : Bool) → length b.steps + unknowns b.values + 1 ≡ net.size * W
              → length a.steps + unknowns a.values + one_if (not u) ≡ net.size * W → unknowns b.values < m
          less true now w = omega (arith, now, l)
          less false now w = omega (arith, now, l)

      go : (x : Bool) → b.closed ≡ x → (y : Bool) → eqb (length b.steps) (length a.steps) ≡ y
          → (unknowns b.values < m → Ended net S W (sweeps (branches net S) net S W m b))
          → Ended net S W (elim (x || y) [ true ↦ b | false ↦ sweeps (branches net S) net S W m b ])
      go true q y e k = inl q
      go false q true e k = inr (still (eqb-true _ _ e) moved)
      go false q false e k = k (fewer q (eqb-false _ _ e) moved)

  -- so the N × W + 1 sweeps of a branch that is worked out are never too few
  pub implied_ends : (n t v : ℕ) → n < net.size → t < W → v < 2 → Ended net S W (implied net S W n t v)
  unfolding implied
  implied_ends n t v h g k =
      let r = begin-tally n t v h g k in
      sweeps_end (suc (net.size * W)) (begin net S W n t v) r (omega (arith, r.total))
