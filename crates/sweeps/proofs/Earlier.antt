-- Growing c: a window of c lies in that of c + 1, one frame later. So a set of values that keeps its values open there keeps them open here,
-- and where no split closes for c + 1, none closes for c.
use mathlib.Core.Bool.{Bool, ◌&&◌, ◌||◌, cond, false, not, true, true≢false, false≢true}
use mathlib.Core.List.{List, []}
use mathlib.Core.Path.{◌∙◌, ◌≡◌, ap, refl, subst, sym}
use Prim.Native.Nat.{◌*◌, ◌+◌, ◌<◌, pred, suc, zero, ℕ}
use native.Mathlib.Omega.{arith}
use lib.ListN.{get_or, length, length-replicate, replicate, set}
use lib.Seq.{get_or-set_same}
use Rattle.simulator.proofs.ClockLaws.{Ordered}
use Rattle.circuit.specs.Fault.{StuckLines, lines_of, none_stuck}
use Rattle.netlist.specs.Netlist.{Net}
use Rattle.circuit.specs.declared.fault.Fault.{Fault}
use Rattle.gates.proofs.GateLaws.{Refines}
use Rattle.values.proofs.ListLaws.{set_either}
use Rattle.gates.proofs.ValueLaws.{known-low}
use Rattle.gates.specs.Kind.{is_flip_flop, is_input}
use Rattle.values.specs.Lists.{at, every}
use Rattle.gates.specs.Value.{differ, is_unknown, stuck_or}
use Rattle.knowledge.proofs.HoldLaws.{place-frame, place-node, place-within}
use Rattle.knowledge.proofs.Monotone.{Shut}
use Rattle.checker.proofs.VerdictLaws.{Allowed, one_step_on, no_step}
use Rattle.knowledge.proofs.WindowLaws.{begin-cases, enter-cases}
use Rattle.certificate.specs.declared.step.Step.{Step}
use Rattle.checker.specs.Checker.{closes}
use Rattle.trace.specs.Trace.{effect_dies, latched_touched_list, touched_list, output_untouched}
use Rattle.knowledge.specs.Window.{Branch, begin, conclusion, enter, has_relation, in_force, known, output_conclusion, pin_conclusion, pin_frame, present_below, held}
use Rattle.sweeps.proofs.ReplayedLaws.{implied_allowed}
use Rattle.sweeps.proofs.OpenSets.{open_says, open_set, open_shut, side_open}
use Rattle.sweeps.specs.Splits.{branch_of, split_closes}
use Rattle.splits.specs.Split.{split}
use Rattle.sweeps.specs.Sweeps.{implied}

both : (a b : Bool) → (a && b) ≡ true → (a ≡ true) × (b ≡ true)
both true b e = (refl, e)
both false b e = absurd (false≢true e)

-- a relation that is there one frame earlier has its pins one frame earlier
pub pin-later : (k t : ℕ) → has_relation k t ≡ true → pin_frame k (suc t) ≡ suc (pin_frame k t)
pin-later k t h = go (is_flip_flop k) refl t h
  where
    go : (q : Bool) → is_flip_flop k ≡ q → (t : ℕ) → has_relation k t ≡ true → cond q (pred (suc t)) (suc t) ≡ suc (cond q (pred t) t)
    go false e t h = refl
    go true e (suc t) h = refl
    go true e zero h = absurd (none (is_input k) (is_flip_flop k) e h)
      where
        none : (a b : Bool) → b ≡ true → not (a || b) ≡ true → ⊥
        none true b e h = false≢true h
        none false true e h = false≢true h
        none false false e h = false≢true e

relation-later : (k t : ℕ) → has_relation k t ≡ true → has_relation k (suc t) ≡ true
relation-later k (suc t) h = h
relation-later k zero h = go (is_input k) (is_flip_flop k) h
  where
    go : (a b : Bool) → not (a || b) ≡ true → not a ≡ true
    go true b h = h
    go false b h = refl

module _ (net : Net) (f : StuckLines) (K : ℕ → ℕ → ℕ) where
  -- the trace, one frame earlier
  pub dies-earlier : (F t : ℕ) (D : StuckLines) (l : List ℕ) → effect_dies net (λ n t. K n (suc t)) F t D l ≡ effect_dies net K F (suc t) D l
  unfolding effect_dies
  dies-earlier zero t D l = refl
  dies-earlier (suc F) t D l =
      ap (λ (b : Bool). every (output_untouched net (touched_list net D (λ n. K n (suc t)) (at l))) net.size && b)
      (dies-earlier F (suc t) none_stuck (latched_touched_list net D (λ n. K n (suc t)) (at (touched_list net D (λ n. K n (suc t)) (at l)))))

  -- THE law: a shut set of the window of c + 1 is one of the window of c, one frame earlier
  pub shut_earlier : (c W : ℕ) → Shut net (present_below (suc c) f) (suc W) K → Shut net (present_below c f) W (λ n t. K n (suc t))
  unfolding held in_force conclusion
  shut_earlier c W shut = record {
    has-held = λ n t h. shut.has-held n (suc t) h;
    has_concluded = λ n t a h g r l.
        (let q = both (is_unknown ((present_below c f t).node n)) (has_relation (net.kind n) t) r in go n t a h g q.0 q.1 l);
  }
    where
      go : (n t a : ℕ) → n < net.size → t < W → is_unknown ((present_below c f t).node n) ≡ true → has_relation (net.kind n) t ≡ true → a < suc (length (net.pins n))
          → Refines (conclusion net (present_below c f) (λ n t. K n (suc t)) n t a).value
          (K (conclusion net (present_below c f) (λ n t. K n (suc t)) n t a).node (suc (conclusion net (present_below c f) (λ n t. K n (suc t)) n t a).frame))
      go n t zero h g u r l =
          subst (λ (x : ℕ). Refines (output_conclusion net (present_below (suc c) f x) (λ m. K m x) n) (K n (suc t))) (pin-later (net.kind n) t r)
          (shut.has_concluded n (suc t) 0 h (omega arith) (force n t u r) l)
        where
          force : (n t : ℕ) → is_unknown ((present_below c f t).node n) ≡ true → has_relation (net.kind n) t ≡ true →
              (is_unknown ((present_below c f t).node n) && has_relation (net.kind n) (suc t)) ≡ true
          force n t u r = ap (λ (b : Bool). b && has_relation (net.kind n) (suc t)) u ∙ relation-later (net.kind n) t r
      go n t (suc k) h g u r l =
          subst (λ (x : ℕ). Refines (pin_conclusion net (present_below (suc c) f x) (λ m. K m x) n (K n (suc t)) k) (K (at (net.pins n) k) x)) (pin-later (net.kind n) t r)
          (shut.has_concluded n (suc t) (suc k) h (omega arith) (force n t u r) l)
        where
          force : (n t : ℕ) → is_unknown ((present_below c f t).node n) ≡ true → has_relation (net.kind n) t ≡ true →
              (is_unknown ((present_below c f t).node n) && has_relation (net.kind n) (suc t)) ≡ true
          force n t u r = ap (λ (b : Bool). b && has_relation (net.kind n) (suc t)) u ∙ relation-later (net.kind n) t r

-- ---- a branch knows its split

-- allowed steps do not open a closed branch
open_before : {net : Net} {S : ℕ → StuckLines} {W : ℕ} {ss : List Step} {b e : Branch} → Allowed net S W ss b e → e.closed ≡ false → b.closed ≡ false
open_before no_step h = h
open_before (one_step_on p f r) h = p

module _ (net : Net) (S : ℕ → StuckLines) (W n t x : ℕ) (hn : n < net.size) (ht : t < W) (hx : x < 2) where
  abbrev Has : Branch → Type 0
  Has b = known net S b.values n t ≡ x

  begin-has : (begin net S W n t x).closed ≡ false → Has (begin net S W n t x)
  unfolding known
  begin-has =
      begin-cases net S (λ (b : Branch). b.closed ≡ false → Has b) W n t x (λ q e. absurd (true≢false e))
      (λ q e. go (held net S n t) q (get_or-set_same (replicate (net.size * W) 2) (t * net.size + n) x 2 (simp length-replicate (place-within net.size W n t hn ht))))
    where
      go : (h : ℕ) → differ (stuck_or h 2) x ≡ false → get_or (set (replicate (net.size * W) 2) (t * net.size + n) x) (t * net.size + n) 2 ≡ x
          → stuck_or h (get_or (set (replicate (net.size * W) 2) (t * net.size + n) x) (t * net.size + n) 2) ≡ x
      go zero q e = zero_is x hx q
        where
          zero_is : (x : ℕ) → x < 2 → differ 0 x ≡ false → 0 ≡ x
          zero_is zero h q = refl
          zero_is (suc zero) h q = absurd (true≢false q)
          zero_is (suc (suc x)) h q = absurd (omega arith)
      go (suc zero) q e = one_is x hx q
        where
          one_is : (x : ℕ) → x < 2 → differ 1 x ≡ false → 1 ≡ x
          one_is zero h q = absurd (true≢false q)
          one_is (suc zero) h q = refl
          one_is (suc (suc x)) h q = absurd (omega arith)
      go (suc (suc h)) q e = e

  enter-has : (b : Branch) (s : Step) → s.node < net.size → Has b → Has (enter net S b s)
  unfolding known
  enter-has b s within q = enter-cases net S Has b s fresh (λ u. q)
    where
      fresh : is_unknown (known net S b.values s.node s.frame) ≡ true →
          stuck_or (held net S n t) (get_or (set b.values (s.frame * net.size + s.node) s.value) (t * net.size + n) 2) ≡ x
      fresh u =
          set_either (λ (y : ℕ). stuck_or (held net S n t) y ≡ x) b.values (s.frame * net.size + s.node) (t * net.size + n) s.value 2
          (λ e. absurd (true≢false (sym (same e) ∙ known-low x hx)))
          q
        where
          same : t * net.size + n ≡ s.frame * net.size + s.node → is_unknown x ≡ true
          same e =
              let m : n ≡ s.node = place-node net.size s.node s.frame n t within hn e in
              let w : t ≡ s.frame = place-frame net.size s.node s.frame n t within hn e in
              ap is_unknown (sym q) ∙ (λ i. is_unknown (known net S b.values (m i) (w i))) ∙ u

  steps_have : {ss : List Step} {b e : Branch} → Has b → Allowed net S W ss b e → Has e
  steps_have q no_step = q
  steps_have q (one_step_on {s} {ss} {b} {e} p f r) = steps_have (enter-has b s f.node_within q) r

  -- an open branch knows its split
  pub knows-split : Ordered net → (implied net S W n t x).closed ≡ false → known net S (implied net S W n t x).values n t ≡ x
  knows-split o h = let a = implied_allowed net o S W n t x in steps_have (begin-has (open_before a h)) a

-- ---- splits

module _ (net : Net) (o : Ordered net) (f : Fault) (F c t n : ℕ) (hn : n < net.size) (ht : t < c + F + 1) where
  side-earlier : (y : ℕ) → y < 2 → closes net (lines_of f) (suc c) F (branch_of net f F (split (suc c) (suc t) n) y) ≡ false → split_closes net f F (split c t n) ≡ false
  unfolding branch_of
  side-earlier y hy e =
      side_open net f F (split c t n) y hy
      (open_set net o (lines_of f) c F (c + F + 1) (λ m u. K m (suc u))
      (shut_earlier net (lines_of f) K c (c + F + 1)
      (subst (λ (w : ℕ). Shut net (present_below (suc c) (lines_of f)) w K) wide (open_shut net o (lines_of f) (suc c) F (suc c + F + 1) n (suc t) y hn (omega arith) hy e)))
      (dies-earlier net (lines_of f) K F c (lines_of f) [] ∙ (open_says net o (lines_of f) (suc c) F (suc c + F + 1) b e).1)
      n t y hn
      (knows-split net (present_below (suc c) (lines_of f)) (suc c + F + 1) n (suc t) y hn (omega arith) hy o (open_says net o (lines_of f) (suc c) F (suc c + F + 1) b e).0))
    where
      b : Branch
      b = implied net (present_below (suc c) (lines_of f)) (suc c + F + 1) n (suc t) y

      K : ℕ → ℕ → ℕ
      K = known net (present_below (suc c) (lines_of f)) b.values

      wide : suc c + F + 1 ≡ suc (c + F + 1)
      wide = omega arith

  -- THE law of growing c: a split that does not close for c + 1 does not close for c, one frame earlier
  pub split-earlier : split_closes net f F (split (suc c) (suc t) n) ≡ false → split_closes net f F (split c t n) ≡ false
  unfolding split_closes
  split-earlier e = go (side 0) refl (side 1) refl e
    where
      side : ℕ → Bool
      side y = closes net (lines_of f) (suc c) F (branch_of net f F (split (suc c) (suc t) n) y)

      go : (a : Bool) → side 0 ≡ a → (b : Bool) → side 1 ≡ b → (a && b) ≡ false → split_closes net f F (split c t n) ≡ false
      go false p b q h = side-earlier 0 (omega arith) p
      go true p false q h = side-earlier 1 (omega arith) q
      go true p true q h = absurd (true≢false h)

-- where no split closes for b, none closes for any c up to b
pub none_below : (net : Net) → Ordered net → (f : Fault) (F b : ℕ)
    → ((t n : ℕ) → t < b + F + 1 → n < net.size → split_closes net f F (split b t n) ≡ false)
    → (d c t n : ℕ) → c + d ≡ b → t < c + F + 1 → n < net.size → split_closes net f F (split c t n) ≡ false
none_below net o f F b none zero c t n e h g =
    let z : b ≡ c = omega arith in
    subst (λ (x : ℕ). split_closes net f F (split x t n) ≡ false) z (none t n (omega arith) g)
none_below net o f F b none (suc d) c t n e h g = split-earlier net o f F c t n g h (none_below net o f F b none d (suc c) (suc t) n (omega arith) (omega arith) g)
