-- Laws of the walk over the splits, by c, then frame, then node.
use mathlib.Core.Bool.{false, true}
use mathlib.Core.Option.{Option, none, some}
use mathlib.Core.Path.{◌∙◌, ◌≡◌, refl, subst}
use Prim.Native.Nat.{◌*◌, ◌+◌, ◌-◌, ◌<◌, ◌≤◌, suc, zero, ℕ}
use native.Mathlib.Decide.{dec_lt}
use native.Mathlib.Numerals.{add-one}
use native.Mathlib.Omega.{arith}
use Rattle.netlist.specs.Netlist.{Net}
use Rattle.circuit.specs.declared.fault.Fault.{Fault}
use Rattle.search.specs.FirstSplit.{first_some, first_split, try_frames, try_nodes, try_split, try_windows}
use Rattle.splits.specs.Inner.Next.{next_split}
use Rattle.splits.specs.Split.{split}
use Rattle.sweeps.specs.Splits.{split_closes}
use Rattle.splits.specs.declared.split.Split.{Split}
use borrow.Author.Tests.{le-ltb, lt-leb, lt-ltb}
use Rattle.knowledge.specs.Window.{most_frames}

module _ {A : Type 0} (f : ℕ → Option A) where
  -- where none is there yet, one more decides
  pub first_more : (n : ℕ) → first_some f n ≡ none → first_some f (n + 1) ≡ f n
  unfolding first_some
  first_more n e = rw (add-one, e, first_some)

  -- what is found stays found
  pub first_stays : (a : A) (i n : ℕ) → i ≤ n → first_some f i ≡ some a → first_some f n ≡ some a
  unfolding first_some
  first_stays a i zero h e = let z : i ≡ 0 = omega arith in subst (λ (m : ℕ). first_some f m ≡ some a) z e
  first_stays a i (suc n) h e = go (dec_lt n i) (λ l. first_stays a i n l e)
    where
      go : Dec (n < i) → (i ≤ n → first_some f n ≡ some a) → first_some f (suc n) ≡ some a
      go (yes p) r = let z : i ≡ suc n = omega arith in subst (λ (m : ℕ). first_some f m ≡ some a) z e
      go (no p) r = rw (r (omega arith))

-- It falls from each split to the next, up to the last window: no window has more than `most_frames` frames, and node numbers are below 65,536.
abbrev pub left : ℕ → Split → ℕ
left B s = (B + 1 - s.c) * 1048576 + (most_frames - s.frame) * 65536 + (65535 - s.node)

pub left_less : (N F B : ℕ) (s : Split) → N ≤ 65535 → B + F + 1 ≤ most_frames → s.c ≤ B → s.frame ≤ s.c + F → s.node < N → left B (next_split N F s) < left B s
unfolding next_split
left_less N F B s a b h l m = rw (lt-leb 255 (s.c + F) (omega arith)) (elim (dec_lt (s.node + 1) N) [
  | yes d ↦ rw (lt-ltb (s.node + 1) N d) (omega arith)
  | no d ↦ elim (dec_lt s.frame (s.c + F)) [
    | yes e ↦ rw (le-ltb (s.node + 1) N (omega arith), lt-ltb s.frame (s.c + F) e) (omega arith)
    | no e ↦ rw (le-ltb (s.node + 1) N (omega arith), le-ltb s.frame (s.c + F) (omega arith)) (omega arith)
  ]
])

-- The walk has come to this split of a window, or to just behind the last: none before it closes.
pub record Reached (net : Net) (fault : Fault) (F B : ℕ) (s : Split) : Type 0 where
  pub windows : try_windows net fault F s.c ≡ none
  pub frames : try_frames net fault F s.c s.frame ≡ none
  pub nodes : try_nodes net fault F s.c s.frame s.node ≡ none
  pub c_within : s.c ≤ B + 1
  pub frame_within : s.frame ≤ s.c + F
  pub node_within : s.node < net.size

module _ (net : Net) (fault : Fault) (F B : ℕ) where
  -- the first split of a window, where no earlier window has one that closes
  pub reached-window : (c : ℕ) → c ≤ B + 1 → 0 < net.size → try_windows net fault F c ≡ none → Reached net fault F B (split c 0 0)
  unfolding first_some try_nodes try_frames
  reached-window c h k e = record { windows = e; frames = refl; nodes = refl; c_within = h; frame_within = omega arith; node_within = k }

  module _ (s : Split) (r : Reached net fault F B s) where
    abbrev At : Split → Type 0
    At = Reached net fault F B

    nodes-then : try_nodes net fault F s.c s.frame (s.node + 1) ≡ try_split net fault F s
    unfolding try_nodes
    nodes-then = first_more (λ n. try_split net fault F (split s.c s.frame n)) s.node r.nodes

    frames-then : try_frames net fault F s.c (s.frame + 1) ≡ try_nodes net fault F s.c s.frame net.size
    unfolding try_frames
    frames-then = first_more (λ t. try_nodes net fault F s.c t net.size) s.frame r.frames

    windows-then : try_windows net fault F (s.c + 1) ≡ try_frames net fault F s.c (s.c + F + 1)
    unfolding try_windows
    windows-then = first_more (λ c. try_frames net fault F c (c + F + 1)) s.c r.windows

    module _ (q : split_closes net fault F s ≡ false) where
      none_here : try_nodes net fault F s.c s.frame (s.node + 1) ≡ none
      unfolding try_split
      none_here = nodes-then ∙ (rw (q, try_split))

      next-node : s.node + 1 < net.size → At (split s.c s.frame (s.node + 1))
      next-node h = record { windows = r.windows; frames = r.frames; nodes = none_here; c_within = omega arith; frame_within = omega arith; node_within = h }

      none-there : net.size ≤ s.node + 1 → try_frames net fault F s.c (s.frame + 1) ≡ none
      none-there h = let z : s.node + 1 ≡ net.size = omega arith in
          frames-then ∙ subst (λ (m : ℕ). try_nodes net fault F s.c s.frame m ≡ none) z none_here

      next-frame : net.size ≤ s.node + 1 → s.frame < s.c + F → At (split s.c (s.frame + 1) 0)
      unfolding first_some try_nodes
      next-frame h g = record { windows = r.windows; frames = none-there h; nodes = refl; c_within = omega arith; frame_within = omega arith; node_within = omega arith }

      next-window : net.size ≤ s.node + 1 → s.c + F ≤ s.frame → s.c ≤ B → At (split (s.c + 1) 0 0)
      next-window h g l = let z : s.frame + 1 ≡ s.c + F + 1 = omega arith in
          reached-window (s.c + 1) (omega arith) (omega arith) (windows-then ∙ subst (λ (m : ℕ). try_frames net fault F s.c m ≡ none) z (none-there h))

      -- a split that does not close is passed
      pub reached-next : s.c ≤ B → B + F < 255 → At (next_split net.size F s)
      unfolding next_split
      reached-next l short = rw (lt-leb 255 (s.c + F) (omega arith)) (elim (dec_lt (s.node + 1) net.size) [
        | yes h ↦ rw (lt-ltb (s.node + 1) net.size h) (next-node h)
        | no h ↦ elim (dec_lt s.frame (s.c + F)) [
          | yes g ↦ let k : net.size ≤ s.node + 1 = omega arith in
              rw (le-ltb (s.node + 1) net.size k, lt-ltb s.frame (s.c + F) g) (next-frame k g)
          | no g ↦ let k : net.size ≤ s.node + 1 = omega arith in
              let m : s.c + F ≤ s.frame = omega arith in
              rw (le-ltb (s.node + 1) net.size k, le-ltb s.frame (s.c + F) m) (next-window k m l)
        ]
      ])

    -- behind the last window there is no split that closes
    pub reached-end : B < s.c → first_split net fault B F ≡ none
    reached-end h = let z : s.c ≡ suc B = omega arith in subst (λ (m : ℕ). try_windows net fault F m ≡ none) z r.windows

    -- a split that closes is the first
    pub reached-first : s.c ≤ B → split_closes net fault F s ≡ true → first_split net fault B F ≡ some s
    unfolding try_split try_nodes try_frames try_windows
    reached-first h q =
        let n = first_stays (λ n. try_split net fault F (split s.c s.frame n)) s (s.node + 1) net.size (omega arith) (nodes-then ∙ (rw (q, try_split))) in
        let t = first_stays (λ t. try_nodes net fault F s.c t net.size) s (s.frame + 1) (s.c + F + 1) (omega arith) (frames-then ∙ n) in
        first_stays (λ c. try_frames net fault F c (c + F + 1)) s (s.c + 1) (suc B) (omega arith) (windows-then ∙ t)
