-- The search finds the first split whose two branches close, or there is none.
use mathlib.Core.Bool.{Bool, false, true}
use mathlib.Core.Logic.{◌⊎◌, inl, inr}
use mathlib.Core.Option.{Option, none, some}
use mathlib.Core.Path.{◌∙◌, ◌≡◌, refl, subst, sym}
use Prim.Native.Nat.{◌+◌, ◌<◌, suc, zero, ℕ}
use native.Mathlib.Decide.{dec_lt}
use native.Mathlib.Nat.{not-suc-le-zero}
use native.Mathlib.Omega.{arith}
use Rattle.netlist.specs.Netlist.{Net}
use Rattle.circuit.specs.declared.fault.Fault.{Fault}
use Rattle.search.specs.FirstSplit.{first_some, first_split, try_frames, try_nodes, try_split, try_windows, Earlier, IsFirst, Within}
use Rattle.splits.specs.Split.{split}
use Rattle.sweeps.specs.Splits.{split_closes}
use Rattle.splits.specs.declared.split.Split.{Split}

module _ {A : Type 0} (f : ℕ → Option A) where
  -- where none is found, none is there
  pub first-none : (n : ℕ) → first_some f n ≡ none → (i : ℕ) → i < n → f i ≡ none
  unfolding first_some
  first-none zero e i h = absurd (not-suc-le-zero h)
  first-none (suc n) e i h = go (first_some f n) refl e (λ q. first-none n q)
    where
      go : (r : Option A) → first_some f n ≡ r → ◌≡◌ {A = Option A} (elim r [ some a ↦ some a | none ↦ f n ]) none
          → (first_some f n ≡ none → (i : ℕ) → i < n → f i ≡ none) → f i ≡ none
      go (some a) q e k = absurd (let z : ◌≡◌ {A = ℕ} 0 1 = cc in omega arith)
      go none q e k = last (dec_lt i n)
        where
          last : Dec (i < n) → f i ≡ none
          last (yes l) = k q i l
          last (no l) = let z : n ≡ i = omega arith in subst (λ (j : ℕ). f j ≡ none) z e

  -- and none is found where none is there
  pub first-none-by : (n : ℕ) → ((i : ℕ) → i < n → f i ≡ none) → first_some f n ≡ none
  unfolding first_some
  first-none-by zero h = refl
  first-none-by (suc n) h = rw (first-none-by n (λ i l. h i (omega arith))) (h n (omega arith))

  -- what is found is there, and nothing before it
  pub record FirstAt (n : ℕ) (a : A) : Type 0 where
    pub index : ℕ
    pub below : index < n
    pub there : f index ≡ some a
    pub none_before : (i : ℕ) → i < index → f i ≡ none

  pub first_some_lem : (n : ℕ) (a : A) → first_some f n ≡ some a → FirstAt n a
  unfolding first_some
  first_some_lem zero a e = absurd (let z : ◌≡◌ {A = ℕ} 0 1 = cc in omega arith)
  first_some_lem (suc n) a e = go (first_some f n) refl e (λ q. first_some_lem n a q)
    where
      go : (r : Option A) → first_some f n ≡ r → elim r [ some b ↦ some b | none ↦ f n ] ≡ some a → (first_some f n ≡ some a → FirstAt n a) → FirstAt (suc n) a
      go (some b) q e k =
          let p = k (q ∙ e) in
          record { index = p.index; below = omega (arith, p.below); there = p.there; none_before = p.none_before }
      go none q e k = record { index = n; below = omega arith; there = e; none_before = first-none n q }

module _ (net : Net) (f : Fault) (F : ℕ) where
  try_none : (s : Split) → try_split net f F s ≡ none → split_closes net f F s ≡ false
  unfolding try_split
  try_none s e = go (split_closes net f F s) e
    where
      go : (q : Bool) → ◌≡◌ {A = Option Split} (elim q [ true ↦ some s | false ↦ none ]) none → q ≡ false
      go true e = absurd (let z : ◌≡◌ {A = ℕ} 0 1 = cc in omega arith)
      go false e = refl

  try_some : (s r : Split) → try_split net f F s ≡ some r → (s ≡ r) × (split_closes net f F s ≡ true)
  unfolding try_split
  try_some s r e = go (split_closes net f F s) e
    where
      go : (q : Bool) → ◌≡◌ {A = Option Split} (elim q [ true ↦ some s | false ↦ none ]) (some r) → (s ≡ r) × (q ≡ true)
      go true e = (cc, refl)
      go false e = absurd (let z : ◌≡◌ {A = ℕ} 0 1 = cc in omega arith)

  -- where no split of a frame is found, and of a window, and of all windows, none closes
  nodes-none : (c t m : ℕ) → try_nodes net f F c t m ≡ none → (n : ℕ) → n < m → split_closes net f F (split c t n) ≡ false
  unfolding try_nodes
  nodes-none c t m e n h = try_none (split c t n) (first-none (λ n. try_split net f F (split c t n)) m e n h)

  frames-none : (c m : ℕ) → try_frames net f F c m ≡ none → (t n : ℕ) → t < m → n < net.size → split_closes net f F (split c t n) ≡ false
  unfolding try_frames
  frames-none c m e t n g h = nodes-none c t net.size (first-none (λ t. try_nodes net f F c t net.size) m e t g) n h

  windows-none : (m : ℕ) → try_windows net f F m ≡ none → (c t n : ℕ) → c < m → t < c + F + 1 → n < net.size → split_closes net f F (split c t n) ≡ false
  unfolding try_windows
  windows-none m e c t n b g h = frames-none c (c + F + 1) (first-none (λ c. try_frames net f F c (c + F + 1)) m e c b) t n g h

  -- and where none closes below c = m, none is found there
  pub windows-none-by : (m : ℕ) → ((c t n : ℕ) → c < m → t < c + F + 1 → n < net.size → split_closes net f F (split c t n) ≡ false) → try_windows net f F m ≡ none
  unfolding try_split try_nodes try_frames try_windows
  windows-none-by m h =
      first-none-by (λ c. try_frames net f F c (c + F + 1)) m
      (λ c b. first-none-by (λ t. try_nodes net f F c t net.size) (c + F + 1)
      (λ t g. first-none-by (λ n. try_split net f F (split c t n)) net.size
      (λ n l. rw (h c t n b g l, try_split))))

  -- THE law of an answer none: every split of every window stays open
  pub split-none : (B : ℕ) → first_split net f B F ≡ none → (s : Split) → Within net B F s → split_closes net f F s ≡ false
  split-none B e s w = windows-none (suc B) e s.c s.frame s.node (omega (arith, w.0)) w.1 w.2

  -- THE law of a split that is found: it is the first that closes
  pub split_some : (B : ℕ) (s : Split) → first_split net f B F ≡ some s → IsFirst net f B F s
  unfolding try_windows try_frames try_nodes
  split_some B s e =
      subst (λ (s : Split). IsFirst net f B F s) found.0
      (record {
        within = (omega (arith, window.below), frame.below, node.below);
        closes = found.1;
        none_earlier = earlier;
      })
    where
      window : FirstAt (λ c. try_frames net f F c (c + F + 1)) (suc B) s
      window = first_some_lem (λ c. try_frames net f F c (c + F + 1)) (suc B) s e

      c : ℕ
      c = window.index

      frame : FirstAt (λ t. try_nodes net f F c t net.size) (c + F + 1) s
      frame = first_some_lem (λ t. try_nodes net f F c t net.size) (c + F + 1) s window.there

      t : ℕ
      t = frame.index

      node : FirstAt (λ n. try_split net f F (split c t n)) net.size s
      node = first_some_lem (λ n. try_split net f F (split c t n)) net.size s frame.there

      found : (split c t node.index ≡ s) × (split_closes net f F (split c t node.index) ≡ true)
      found = try_some (split c t node.index) s node.there

      earlier : (r : Split) → Within net B F r → Earlier r (split c t node.index) → split_closes net f F r ≡ false
      earlier r w (inl l) = frames-none r.c (r.c + F + 1) (window.none_before r.c l) r.frame r.node w.1 w.2
      earlier r w (inr p) = same-window p.1
        where
          same-window : (r.frame < t) ⊎ ((r.frame ≡ t) × (r.node < node.index)) → split_closes net f F r ≡ false
          same-window (inl l) =
              subst (λ (c : ℕ). split_closes net f F (split c r.frame r.node) ≡ false) (sym p.0)
              (nodes-none c r.frame net.size (frame.none_before r.frame l) r.node w.2)
          same-window (inr q) =
              subst (λ (c : ℕ). split_closes net f F (split c r.frame r.node) ≡ false) (sym p.0)
              (subst (λ (t : ℕ). split_closes net f F (split c t r.node) ≡ false) (sym q.0)
              (try_none (split c t r.node) (node.none_before r.node q.1)))
