-- Calm frames: a sweep of a frame tells nothing new of frames other than it and the one before, so all but its neighbours stay calm.
use mathlib.Core.Bool.{Bool, ◌||◌, cond, false, true, true≢false}
use mathlib.Core.List.{List, [], ◌∷◌}
use mathlib.Core.Path.{◌∙◌, ◌≡◌, ap, refl, subst, sym}
use Prim.Native.Nat.{◌*◌, ◌+◌, ◌<◌, pred, suc, zero, ℕ}
use native.Mathlib.Nat.{le_of_suc-le-suc}
use native.Mathlib.Omega.{arith}
use lib.Dec.{eqb}
use lib.ListN.{length, replicate, set}
use lib.Seq.{get_or-set_other}
use borrow.Author.Tests.{eqb-true}
use Rattle.simulator.proofs.ClockLaws.{Ordered}
use Rattle.circuit.specs.Fault.{StuckLines}
use Rattle.netlist.specs.Netlist.{Net}
use Rattle.values.proofs.ListLaws.{below_at, replicate-at, set_either}
use Rattle.values.specs.Lists.{at}
use Rattle.gates.specs.Value.{is_unknown}
use Rattle.knowledge.proofs.Agreement.{SameNodes, pin_frame_either}
use Rattle.knowledge.proofs.HoldLaws.{place-frame}
use Rattle.knowledge.specs.Window.{conclusion, in_force}
use Rattle.knowledge.specs.Inner.Slice.{entered, known_in}
use Rattle.certificate.specs.declared.step.Step.{Step}
use Rattle.sweeps.proofs.RisingLaws.{rising_idle, rising_keeps}
use Rattle.sweeps.proofs.StillLaws.{bytes_count, frame_stays, frame_unmoved, line_is, said}
use Rattle.sweeps.proofs.WorkLaws.{made, relation-closed}
use Rattle.sweeps.specs.Sweeps.{rising, sweep_frame, try_line, use_relation}
use Rattle.sweeps.specs.Inner.Work.{CalmFrames, Work, frame_noted, in_bytes, take_in}

-- a step alters no place but its own
take_elsewhere : (N : ℕ) (w : Work) (s : Step) (p : ℕ) → (p ≡ s.frame * N + s.node → ⊥) → at (take_in N w s).known p ≡ at w.known p
unfolding take_in
take_elsewhere N w s p d = go (is_unknown (at w.known (s.frame * N + s.node)))
  where
    go : (b : Bool) → at (cond b (entered false (set w.known (s.frame * N + s.node) s.value)) (entered true w.known)).bytes p ≡ at w.known p
    go true = get_or-set_other w.known (s.frame * N + s.node) p s.value 0 d
    go false = refl

-- a place that is not 0, where 0 was stored somewhere: another one, and not 0 before
uncleared : (l : List ℕ) (i j : ℕ) → 0 < at (set l i 0) j → (0 < at l j) × (j ≡ i → ⊥)
uncleared [] i j h = absurd (omega arith)
uncleared (x ∷ xs) zero zero h = absurd (omega arith)
uncleared (x ∷ xs) zero (suc j) h = (h, omega arith)
uncleared (x ∷ xs) (suc i) zero h = (h, omega arith)
uncleared (x ∷ xs) (suc i) (suc j) h = let r = uncleared xs i j h in (r.0, λ e. r.1 (omega arith))

-- where no frame is calm
pub calm_none : (net : Net) (S : ℕ → StuckLines) (m : ℕ) (w : Work) → CalmFrames net S (replicate m 0) w
unfolding CalmFrames
calm_none net S m w t h = absurd (omega (arith, replicate-at 0 m t))

module _ (net : Net) (o : Ordered net) (S : ℕ → StuckLines) where
  -- what a relation at frame t concludes is of a node at that frame, or at the one before
  conclusion-at : (P : ℕ → ℕ → Type 0) (kn : ℕ → ℕ → ℕ) (n t i : ℕ) → n < net.size → i < suc (length (net.pins n)) → ((m : ℕ) → m < net.size → P m t)
      → ((m : ℕ) → m < net.size → P m (pred t))
      → P (conclusion net S kn n t i).node (conclusion net S kn n t i).frame
  unfolding conclusion
  conclusion-at P kn n t zero h l now before = now n h
  conclusion-at P kn n t (suc j) h l now before =
      pin_frame_either (net.kind n) t (λ u. (m : ℕ) → m < net.size → P m u) now before (at (net.pins n) j) (below_at (o.within n h) j (le_of_suc-le-suc l))

  -- frame u is neither frame t nor the one before it
  module _ (t u : ℕ) (apart : u ≡ t → ⊥) (apart' : u ≡ pred t → ⊥) where
    -- what is known at frame u is the same
    abbrev Same : Work → Work → Type 0
    Same v w = SameNodes net (λ m. known_in v.known net.size m u) (λ m. known_in w.known net.size m u)

    line_elsewhere : (n i : ℕ) → n < net.size → i < suc (length (net.pins n)) → (w : Work) → Same w (try_line (in_bytes net.size) net S n t i w)
    line_elsewhere n i h l w m g = go (w.closed || said (in_bytes net.size) net S n t i w) refl
      where
        s : Step
        s = made net S n t i w

        other : u * net.size + m ≡ s.frame * net.size + s.node → ⊥
        other =
            conclusion-at (λ k v. u * net.size + m ≡ v * net.size + k → ⊥) (known_in w.known net.size) n t i h l
            (λ k q e. apart (place-frame net.size k t m u q g e))
            (λ k q e. apart' (place-frame net.size k (pred t) m u q g e))

        go : (b : Bool) → (w.closed || said (in_bytes net.size) net S n t i w) ≡ b → at w.known (u * net.size + m) ≡ at (try_line (in_bytes net.size) net S n t i w).known (u * net.size + m)
        go true e = ap (λ (x : Work). at x.known (u * net.size + m)) (sym (line_is (in_bytes net.size) net S n t i w true e))
        go false e =
            sym (take_elsewhere net.size w s (u * net.size + m) other)
            ∙ ap (λ (x : Work). at x.known (u * net.size + m)) (sym (line_is (in_bytes net.size) net S n t i w false e))

    relation_elsewhere : (n : ℕ) → n < net.size → (w : Work) → Same w (use_relation (in_bytes net.size) net S t n w)
    unfolding use_relation
    relation_elsewhere n h w = go (in_force net S n t)
      where
        go : (b : Bool) → Same w (elim b [ true ↦ rising (try_line (in_bytes net.size) net S n t) (suc (length (net.pins n))) w | false ↦ w ])
        go true =
            rising_keeps (try_line (in_bytes net.size) net S n t) (Same w) (suc (length (net.pins n)))
            (λ i l x q m g. q m g ∙ line_elsewhere n i h l x m g) w (λ m g. refl)
        go false = λ m g. refl

    -- A sweep of frame t tells nothing new of frame u.
    pub frame_elsewhere : (w : Work) → Same w (sweep_frame (in_bytes net.size) net S t w)
    unfolding sweep_frame
    frame_elsewhere w =
        rising_keeps (use_relation (in_bytes net.size) net S t) (Same w) net.size (λ n h x q m g. q m g ∙ relation_elsewhere n h x m g) w (λ m g. refl)

  -- a closed branch is left alone
  pub frame_closed : (t : ℕ) (w : Work) → w.closed ≡ true → sweep_frame (in_bytes net.size) net S t w ≡ w
  unfolding sweep_frame
  frame_closed t w c = rising_idle (use_relation (in_bytes net.size) net S t) net.size w (λ n h. relation-closed net S t n w c)

  module _ (t : ℕ) (w : Work) where
    abbrev after : Work
    after = sweep_frame (in_bytes net.size) net S t w

    -- a frame that is calm stays so, unless it is frame t or a neighbour
    calm_stays : (u : ℕ) → (u ≡ t → ⊥) → (u ≡ pred t → ⊥) → (u ≡ t + 1 → ⊥) → sweep_frame (in_bytes net.size) net S u w ≡ w
        → sweep_frame (in_bytes net.size) net S u after ≡ after
    calm_stays u d d' d'' e = go after.closed refl w.closed refl
      where
        go : (b : Bool) → after.closed ≡ b → (q : Bool) → w.closed ≡ q → sweep_frame (in_bytes net.size) net S u after ≡ after
        go true b q r = frame_closed u after b
        go false b true r = absurd (true≢false (sym r ∙ ap (λ (x : Work). x.closed) (sym (frame_closed t w r)) ∙ b))
        go false b false r =
            frame_stays (in_bytes net.size) net S (bytes_count net.size) o u w after
            (frame_elsewhere t u d d' w)
            (frame_elsewhere t (pred u) (omega arith) (omega arith) w)
            r e

    -- THE law of calm frames: they are calm after frame t was swept too, as noted by whether it made a step
    pub calm_noted : (calm : List ℕ) → CalmFrames net S calm w → CalmFrames net S (frame_noted calm t (eqb after.steps w.steps)) after
    unfolding CalmFrames frame_noted
    calm_noted calm k u = go (eqb after.steps w.steps) refl
      where
        still : after.steps ≡ w.steps → after ≡ w
        still e = frame_unmoved (in_bytes net.size) net S (bytes_count net.size) t w e

        go : (b : Bool) → eqb after.steps w.steps ≡ b → 0 < at (frame_noted calm t b) u → sweep_frame (in_bytes net.size) net S u after ≡ after
        go true e =
            let q = still (eqb-true after.steps w.steps e) in
            subst (λ (x : Work). 0 < at (set calm t 1) u → sweep_frame (in_bytes net.size) net S u x ≡ x) (sym q)
            (set_either (λ v. 0 < v → sweep_frame (in_bytes net.size) net S u w ≡ w) calm t u 1 0
            (λ z _. subst (λ (i : ℕ). sweep_frame (in_bytes net.size) net S i w ≡ w) (sym z) q) (k u))
        go false e =
            λ h.
            let a = uncleared (set (set calm (pred t) 0) t 0) (t + 1) u h in
            let b = uncleared (set calm (pred t) 0) t u a.0 in
            let c = uncleared calm (pred t) u b.0 in
            calm_stays u b.1 c.1 a.1 (k u c.0)

-- The same where calm frames are noted of ordered circuits only: of others there is no room for them.
pub calm_noted_where : (net : Net) (S : ℕ → StuckLines) (t : ℕ) (w : Work) (calm : List ℕ) → (0 < length calm → Ordered net) → CalmFrames net S calm w
    → CalmFrames net S (frame_noted calm t (eqb (sweep_frame (in_bytes net.size) net S t w).steps w.steps)) (sweep_frame (in_bytes net.size) net S t w)
unfolding CalmFrames frame_noted
calm_noted_where net S t w [] o k u = go (eqb (sweep_frame (in_bytes net.size) net S t w).steps w.steps)
  where
    go : (b : Bool) → 0 < at (frame_noted [] t b) u → sweep_frame (in_bytes net.size) net S u (sweep_frame (in_bytes net.size) net S t w) ≡ sweep_frame (in_bytes net.size) net S t w
    go true h = absurd (omega arith)
    go false h = absurd (omega arith)
calm_noted_where net S t w (x ∷ xs) o k u = calm_noted net (o (omega arith)) S t w (x ∷ xs) k u
