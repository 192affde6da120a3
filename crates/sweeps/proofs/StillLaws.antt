-- Sweeps that make no step change nothing: each conclusion of theirs says nothing. Whether a frame makes a step depends on what is known in
-- it and in the frame before alone.
use mathlib.Core.Bool.{Bool, ◌||◌, false, true}
use mathlib.Core.List.{[], ◌∷◌}
use mathlib.Core.Logic.{◌⊎◌, inl, inr}
use mathlib.Core.Path.{◌∙◌, ◌≡◌, ap, refl, subst, sym}
use Prim.Native.Nat.{◌<◌, pred, suc, zero, ℕ}
use native.Mathlib.Nat.{le_of_suc-le-suc}
use native.Mathlib.Omega.{arith}
use lib.Dec.{eqb}
use lib.ListN.{length, length-append}
use borrow.Author.Tests.{eqb-true}
use Rattle.simulator.proofs.ClockLaws.{Ordered}
use Rattle.circuit.specs.Fault.{StuckLines}
use Rattle.netlist.specs.Netlist.{Net}
use Rattle.values.proofs.BoolLaws.{or_right, or_second}
use Rattle.gates.proofs.GateLaws.{Refines}
use Rattle.values.proofs.ListLaws.{below_at}
use Rattle.gates.proofs.ValueLaws.{known-low}
use Rattle.values.specs.Lists.{at}
use Rattle.gates.specs.Value.{is_unknown}
use Rattle.knowledge.proofs.Agreement.{SameNodes, conclusion-frames, pin_frame_either}
use Rattle.knowledge.specs.Window.{conclusion, in_force}
use Rattle.certificate.specs.declared.step.Step.{Step}
use Rattle.sweeps.proofs.ReplayedLaws.{enter-steps}
use Rattle.sweeps.proofs.RisingLaws.{rising_idle, rising_moves, rising-still, rising_unmoved}
use Rattle.sweeps.specs.Sweeps.{BranchState, branches, concluded, rising, says_nothing, sweep, sweep_frame, try_line, use_relation}
use Rattle.sweeps.specs.Inner.Work.{in_bytes, take_in}

-- every step is counted
abbrev pub Counts : {A : Type 0} → BranchState A → Type 0
Counts {A} k = (a : A) (s : Step) → k.made a < k.made (k.takes a s)

pub branches-count : (net : Net) (S : ℕ → StuckLines) → Counts (branches net S)
branches-count net S b s = let e = ap length (enter-steps net S b s) in omega (arith, e, length-append b.steps (s ∷ []))

pub bytes_count : (N : ℕ) → Counts (in_bytes N)
unfolding take_in
bytes_count N w s = omega arith

module _ {A : Type 0} (k : BranchState A) (net : Net) (S : ℕ → StuckLines) where
  -- a conclusion that says nothing is unknown, or known already
  pub nothing-new : (a : A) (s : Step) → says_nothing k net S a s ≡ true → Refines s.value (k.knows a s.node s.frame)
  unfolding says_nothing
  nothing-new a s e h =
      sym (eqb-true (k.knows a s.node s.frame) s.value (or_right (is_unknown s.value) (eqb (k.knows a s.node s.frame) s.value) e (known-low s.value h)))

  -- the relations in force at frame t conclude nothing that is new
  unfoldable pub Silent : ℕ → A → Type 0
  Silent t a = (n : ℕ) → n < net.size → in_force net S n t ≡ true → (i : ℕ) → i < suc (length (net.pins n)) → says_nothing k net S a (concluded k net S n t i a) ≡ true

  -- a line is tried: nothing is done once closed, nor by a conclusion that says nothing
  module _ (n t i : ℕ) (a : A) where
    abbrev pub said : Bool
    said = says_nothing k net S a (concluded k net S n t i a)

    abbrev pub tried : Bool → A
    tried q = elim q [ true ↦ a | false ↦ k.takes a (concluded k net S n t i a) ]

    pub line_is : (q : Bool) → (k.closed a || said) ≡ q → try_line k net S n t i a ≡ tried q
    unfolding try_line
    line_is q e = ap tried e

    line-silent : said ≡ true → try_line k net S n t i a ≡ a
    line-silent e = line_is true (or_second (k.closed a) said e)

  -- a frame whose relations are silent changes nothing
  pub silent-still : (t : ℕ) (a : A) → Silent t a → sweep_frame k net S t a ≡ a
  unfolding Silent sweep_frame use_relation
  silent-still t a q = rising_idle (use_relation k net S t) net.size a (λ n h. go n h (in_force net S n t) refl)
    where
      go : (n : ℕ) → n < net.size → (b : Bool) → in_force net S n t ≡ b
          → ◌≡◌ {A = A} (elim b [ true ↦ rising (try_line k net S n t) (suc (length (net.pins n))) a | false ↦ a ]) a
      go n h true f = rising_idle (try_line k net S n t) (suc (length (net.pins n))) a (λ i l. line-silent n t i a (q n h f i l))
      go n h false f = refl

  module _ (counts : Counts k) where
    -- a line, a relation, a frame, a sweep: each changes nothing, or makes a step
    pub line_moves : (n t i : ℕ) (a : A) → (try_line k net S n t i a ≡ a) ⊎ (k.made a < k.made (try_line k net S n t i a))
    line_moves n t i a = go (k.closed a || said n t i a) refl
      where
        go : (q : Bool) → (k.closed a || said n t i a) ≡ q → (try_line k net S n t i a ≡ a) ⊎ (k.made a < k.made (try_line k net S n t i a))
        go true e = inl (line_is n t i a true e)
        go false e = inr (subst (λ (x : A). k.made a < k.made x) (sym (line_is n t i a false e)) (counts a (concluded k net S n t i a)))

    relation_moves : (t n : ℕ) (a : A) → (use_relation k net S t n a ≡ a) ⊎ (k.made a < k.made (use_relation k net S t n a))
    unfolding use_relation
    relation_moves t n a = go (in_force net S n t)
      where
        go : (b : Bool) → let r : A = elim b [ true ↦ rising (try_line k net S n t) (suc (length (net.pins n))) a | false ↦ a ] in (r ≡ a) ⊎ (k.made a < k.made r)
        go true = rising_moves (try_line k net S n t) k.made (line_moves n t) (suc (length (net.pins n))) a
        go false = inl refl

    pub frame_moves : (t : ℕ) (a : A) → (sweep_frame k net S t a ≡ a) ⊎ (k.made a < k.made (sweep_frame k net S t a))
    unfolding sweep_frame
    frame_moves t a = rising_moves (use_relation k net S t) k.made (relation_moves t) net.size a

    pub sweep_moves : (W : ℕ) (a : A) → (sweep k net S W a ≡ a) ⊎ (k.made a < k.made (sweep k net S W a))
    unfolding sweep
    sweep_moves W a = rising_moves (sweep_frame k net S) k.made frame_moves W a

    -- a line, or a frame, that makes no step changes nothing
    pub line_unmoved : (n t i : ℕ) (a : A) → k.made (try_line k net S n t i a) ≡ k.made a → try_line k net S n t i a ≡ a
    line_unmoved n t i a e = go (line_moves n t i a)
      where
        go : (try_line k net S n t i a ≡ a) ⊎ (k.made a < k.made (try_line k net S n t i a)) → try_line k net S n t i a ≡ a
        go (inl q) = q
        go (inr q) = absurd (omega arith)

    pub frame_unmoved : (t : ℕ) (a : A) → k.made (sweep_frame k net S t a) ≡ k.made a → sweep_frame k net S t a ≡ a
    unfolding sweep_frame
    frame_unmoved t a e = rising_unmoved (use_relation k net S t) k.made (relation_moves t) net.size a e

    -- a sweep that changes nothing does so in each frame
    pub sweep-still : (W : ℕ) (a : A) → sweep k net S W a ≡ a → (t : ℕ) → t < W → sweep_frame k net S t a ≡ a
    unfolding sweep
    sweep-still W a e = rising-still (sweep_frame k net S) k.made frame_moves W a e

    -- and its relations are silent, where nothing is closed
    pub still-silent : (t : ℕ) (a : A) → k.closed a ≡ false → sweep_frame k net S t a ≡ a → Silent t a
    unfolding Silent sweep_frame use_relation
    still-silent t a c e n h f i l = line (said n t i a) refl
      where
        relation : use_relation k net S t n a ≡ a
        relation = rising-still (use_relation k net S t) k.made (relation_moves t) net.size a e n h

        used : rising (try_line k net S n t) (suc (length (net.pins n))) a ≡ a
        used = sym (ap (λ (b : Bool). elim b [ true ↦ rising (try_line k net S n t) (suc (length (net.pins n))) a | false ↦ a ]) f) ∙ relation

        still : try_line k net S n t i a ≡ a
        still = rising-still (try_line k net S n t) k.made (line_moves n t) (suc (length (net.pins n))) a used i l

        line : (q : Bool) → said n t i a ≡ q → q ≡ true
        line true p = refl
        line false p =
            let taken : k.takes a (concluded k net S n t i a) ≡ a = sym (line_is n t i a false (λ j. c j || p j)) ∙ still in
            absurd (let z = ap k.made taken in omega (arith, counts a (concluded k net S n t i a)))

    module _ (o : Ordered net) (t : ℕ) (a b : A) (now : SameNodes net (λ n. k.knows a n t) (λ n. k.knows b n t))
        (before : SameNodes net (λ n. k.knows a n (pred t)) (λ n. k.knows b n (pred t))) where
      -- what is known at the lines of a relation at frame t is the same
      place_same : (n i : ℕ) → n < net.size → i < suc (length (net.pins n))
          → k.knows a (conclusion net S (k.knows a) n t i).node (conclusion net S (k.knows a) n t i).frame
          ≡ k.knows b (conclusion net S (k.knows a) n t i).node (conclusion net S (k.knows a) n t i).frame
      unfolding conclusion
      place_same n zero h l = now n h
      place_same n (suc j) h l =
          pin_frame_either (net.kind n) t (λ u. SameNodes net (λ m. k.knows a m u) (λ m. k.knows b m u)) now before
          (at (net.pins n) j) (below_at (o.within n h) j (le_of_suc-le-suc l))

      -- and so is what is concluded of them
      silent-same : Silent t a → Silent t b
      unfolding Silent says_nothing
      silent-same q n h f i l = sym same ∙ q n h f i l
        where
          x : Step
          x = conclusion net S (k.knows a) n t i

          y : Step
          y = conclusion net S (k.knows b) n t i

          step : x ≡ y
          step = conclusion-frames net o S (k.knows a) (k.knows b) t now before n i h

          same : (is_unknown x.value || eqb (k.knows a x.node x.frame) x.value) ≡ (is_unknown y.value || eqb (k.knows b y.node y.frame) y.value)
          same =
              (λ j. is_unknown x.value || eqb (place_same n i h l j) x.value)
              ∙ ap (λ (s : Step). is_unknown s.value || eqb (k.knows b s.node s.frame) s.value) step

      -- THE law of a frame that is still: it stays so as long as what is known in it and in the frame before stays the same
      pub frame_stays : k.closed a ≡ false → sweep_frame k net S t a ≡ a → sweep_frame k net S t b ≡ b
      frame_stays c e = silent-still t b (silent-same (still-silent t a c e))
