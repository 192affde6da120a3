-- The steps that sweeps make are steps that the checker allows, and they leave the branch that the sweeps leave.
use mathlib.Core.Bool.{Bool, ◌||◌, false, true, true≢false}
use mathlib.Core.List.{List, [], ◌++◌, ◌∷◌}
use mathlib.Core.Option.{some}
use mathlib.Core.Path.{◌≡◌, refl, subst, sym}
use Prim.Native.Nat.{◌*◌, ◌<◌, suc, zero, ℕ}
use native.Mathlib.Nat.{le_of_suc-le-suc}
use native.Mathlib.Omega.{arith}
use lib.Dec.{eqb}
use lib.ListN.{length}
use borrow.Author.Tests.{eqb-false}
use Rattle.simulator.proofs.ClockLaws.{Ordered}
use Rattle.values.proofs.ListLaws.{below_at}
use Rattle.gates.proofs.ValueLaws.{known_is}
use Rattle.circuit.specs.Fault.{StuckLines}
use Rattle.netlist.specs.Netlist.{Net}
use Rattle.gates.specs.Value.{is_unknown}
use Rattle.knowledge.proofs.Agreement.{pin_frame-within}
use Rattle.checker.proofs.VerdictLaws.{Allowed, Follows, allowed_replay, one_step_on, no_step}
use Rattle.knowledge.proofs.WindowLaws.{begin-cases, enter-cases}
use Rattle.checker.specs.Checker.{replay}
use Rattle.knowledge.specs.Window.{Branch, begin, conclusion, enter, in_force, known}
use Rattle.certificate.specs.declared.step.Step.{Step}
use Rattle.sweeps.proofs.SweepLaws.{sweeps_keeps}
use Rattle.sweeps.specs.Sweeps.{BranchState, branches, concluded, says_nothing, implied}

-- a conclusion that says something has a value, and not the one that is known
pub says_new : {A : Type 0} (k : BranchState A) (net : Net) (S : ℕ → StuckLines) (a : A) (s : Step) → says_nothing k net S a s ≡ false
    → (s.value < 2) × (k.knows a s.node s.frame ≡ s.value → ⊥)
unfolding says_nothing
says_new k net S a s e = go (is_unknown s.value) refl e
  where
    go : (u : Bool) → is_unknown s.value ≡ u → (u || eqb (k.knows a s.node s.frame) s.value) ≡ false
        → (s.value < 2) × (k.knows a s.node s.frame ≡ s.value → ⊥)
    go true q e = absurd (true≢false e)
    go false q e = (known_is s.value q, eqb-false (k.knows a s.node s.frame) s.value e)

-- a conclusion is about a node and a frame of the window
pub conclusion-within : (net : Net) → Ordered net → (S : ℕ → StuckLines) (W : ℕ) (kn : ℕ → ℕ → ℕ) (n t i : ℕ) → n < net.size → t < W → i < suc (length (net.pins n))
    → ((conclusion net S kn n t i).node < net.size) × ((conclusion net S kn n t i).frame < W)
unfolding conclusion
conclusion-within net o S W kn n t zero h g l = (h, g)
conclusion-within net o S W kn n t (suc k) h g l = (below_at (o.within n h) k (le_of_suc-le-suc l), omega (arith, pin_frame-within (net.kind n) t))

module _ (net : Net) (S : ℕ → StuckLines) where
  -- a step that is entered stands behind those before it
  pub enter-steps : (b : Branch) (s : Step) → (enter net S b s).steps ≡ b.steps ++ (s ∷ [])
  enter-steps b s = enter-cases net S (λ (x : Branch). x.steps ≡ b.steps ++ (s ∷ [])) b s (λ _. refl) (λ _. refl)

  -- a branch begins without steps
  pub begin-steps : (W n t v : ℕ) → (begin net S W n t v).steps ≡ []
  begin-steps W n t v = begin-cases net S (λ (x : Branch). x.steps ≡ []) W n t v (λ _. refl) (λ _. refl)

module _ (net : Net) (o : Ordered net) (S : ℕ → StuckLines) (W : ℕ) where
  -- the conclusion that a sweep takes follows
  pub taken_follows : (b : Branch) (n t i : ℕ) → n < net.size → t < W → i < suc (length (net.pins n)) → in_force net S n t ≡ true
      → says_nothing (branches net S) net S b (concluded (branches net S) net S n t i b) ≡ false
      → Follows net S W (known net S b.values) (concluded (branches net S) net S n t i b)
  unfolding conclusion
  taken_follows b n t i h g l f e = go i l (says_new (branches net S) net S b (conclusion net S (known net S b.values) n t i) e)
    where
      s : ℕ → Step
      s i = conclusion net S (known net S b.values) n t i

      go : (i : ℕ) → i < suc (length (net.pins n)) → ((s i).value < 2) × (known net S b.values (s i).node (s i).frame ≡ (s i).value → ⊥)
          → Follows net S W (known net S b.values) (s i)
      go zero l p =
          record {
            node_within = h;
            frame_within = g;
            value_binary = p.0;
            via_within = h;
            during_within = g;
            relation = f;
            new = p.1;
            line = zero;
            line_within = l;
            concluded = refl;
          }
      go (suc k) l p =
          let r = conclusion-within net o S W (known net S b.values) n t (suc k) h g l in
          record {
            node_within = r.0;
            frame_within = r.1;
            value_binary = p.0;
            via_within = h;
            during_within = g;
            relation = f;
            new = p.1;
            line = suc k;
            line_within = l;
            concluded = refl;
          }

  -- one more step that is allowed
  allowed_more : {ss : List Step} {b e : Branch} → Allowed net S W ss b e → (s : Step) → e.closed ≡ false → Follows net S W (known net S e.values) s
      → Allowed net S W (ss ++ (s ∷ [])) b (enter net S e s)
  allowed_more no_step s q f = one_step_on q f no_step
  allowed_more (one_step_on p g r) s q f = one_step_on p g (allowed_more r s q f)

  -- the branch is what its own steps leave of b₀
  Reaches : Branch → Branch → Type 0
  Reaches b₀ b = Allowed net S W b.steps b₀ b

  enter_reaches : (b₀ b : Branch) (n t i : ℕ) → n < net.size → t < W → i < suc (length (net.pins n)) → in_force net S n t ≡ true → Reaches b₀ b → b.closed ≡ false
      → says_nothing (branches net S) net S b (concluded (branches net S) net S n t i b) ≡ false
      → Reaches b₀ (enter net S b (concluded (branches net S) net S n t i b))
  unfolding Reaches
  enter_reaches b₀ b n t i h g l f r q e =
      let s = concluded (branches net S) net S n t i b in
      subst (λ (ss : List Step). Allowed net S W ss b₀ (enter net S b s)) (sym (enter-steps net S b s)) (allowed_more r s q (taken_follows b n t i h g l f e))

  -- all steps of a branch that is worked out are allowed, and leave it as it is
  pub implied_allowed : (n t v : ℕ) → Allowed net S W (implied net S W n t v).steps (begin net S W n t v) (implied net S W n t v)
  unfolding implied Reaches
  implied_allowed n t v =
      sweeps_keeps (branches net S) net S W (Reaches (begin net S W n t v)) (enter_reaches (begin net S W n t v)) (suc (net.size * W)) (begin net S W n t v)
      (subst (λ (ss : List Step). Allowed net S W ss (begin net S W n t v) (begin net S W n t v)) (sym (begin-steps net S W n t v)) no_step)

  -- so the checker, which reads them one after the other, comes to the same branch
  pub implied_replays : (n t v : ℕ) → replay net S W (implied net S W n t v).steps (begin net S W n t v) ≡ some (implied net S W n t v)
  implied_replays n t v = allowed_replay net S W (implied_allowed n t v)
