-- Laws of clock lists: what a clock step reads, that values stay 0 and 1, and that a run may be cut at any clock.
use mathlib.Core.Bool.{Bool, cond, false, true}
use mathlib.Core.List.{List, [], ◌++◌, ◌∷◌}
use mathlib.Core.Logic.{⊎_elim}
use mathlib.Core.Path.{◌∙◌, ◌≡◌, ap, refl, sym}
use Prim.Native.Nat.{◌<◌, suc, zero, ℕ}
use native.Mathlib.Omega.{arith}
use lib.ListN.{get_or, length}
use borrow.Author.Tests.{eq-eqb}
use Rattle.simulator.proofs.ClockLaws.{given-kind, seen_list_agree, seen_next}
use Rattle.gates.proofs.GateLaws.{Binary, gate-binary, stuck-binary}
use Rattle.values.proofs.ListLaws.{bcons, bnil}
use Rattle.netlist.specs.Answer.{answered, outcome}
use Rattle.simulator.specs.Clock.{SimulatorCall, latched_by, latched_list, pin_values, seen_by, seen_list, clock_step}
use Rattle.simulator.specs.ClockLists.{ClockList, InputBits, LatchedBits, clock_start, first_clock, latched_after, latched_at_end, no_clocks, run, seen_after}
use Rattle.circuit.specs.Fault.{StuckLines, lines_in}
use Rattle.gates.specs.Kind.{gate, is_flip_flop, is_given}
use Rattle.values.specs.Lists.{at, build, indexed}
use Rattle.netlist.specs.Netlist.{Net, net_of}
use Rattle.gates.specs.Value.{stuck_or}

-- two lists of values agree at the places of all nodes of a kind
abbrev pub SameAt : Net → ℕ → (ℕ → ℕ) → (ℕ → ℕ) → Type 0
SameAt c k v w = (n : ℕ) → n < c.size → c.kind n ≡ k → v n ≡ w n

module _ (c : Net) (x l : List ℕ) where
  -- an input is given the clock's value, a flip-flop the latched one
  pub start-input : SameAt c 0 (clock_start c x l) (at x)
  unfolding clock_start
  start-input n h e = rw e

  pub start-latched : SameAt c 2 (clock_start c x l) (at l)
  unfolding clock_start
  start-latched n h e = rw e

  -- and nothing else is given
  given-start : (g : ℕ → ℕ) → SameAt c 0 g (at x) → SameAt c 2 g (at l) → (n : ℕ) → n < c.size → is_given (c.kind n) ≡ true → g n ≡ clock_start c x l n
  given-start g hx hl n h e = ⊎_elim (λ q. hx n h q ∙ sym (start-input n h q)) (λ q. hl n h q ∙ sym (start-latched n h q)) (given-kind (c.kind n) e)

module _ (c : Net) (s : StuckLines) where
  -- a clock step from any values that hold the clock's inputs and the latched values at their places
  pub seen_clock : (g : ℕ → ℕ) (x l : List ℕ) → SameAt c 0 g (at x) → SameAt c 2 g (at l) → seen_list c s g ≡ seen_after c s x l
  unfolding seen_after
  seen_clock g x l hx hl = seen_list_agree c s g (clock_start c x l) (given-start c x l g hx hl)

  -- so a clock step reads the places of inputs and flip-flops alone
  pub seen_after_agree : (x y l m : List ℕ) → SameAt c 0 (at x) (at y) → SameAt c 2 (at l) (at m) → seen_after c s x l ≡ seen_after c s y m
  unfolding seen_after
  seen_after_agree x y l m hx hl =
      seen_clock (clock_start c x l) y m (λ n h e. start-input c x l n h e ∙ hx n h e) (λ n h e. start-latched c x l n h e ∙ hl n h e)

  pub latched_after_agree : (x y l m : List ℕ) → SameAt c 0 (at x) (at y) → SameAt c 2 (at l) (at m) → latched_after c s x l ≡ latched_after c s y m
  unfolding latched_after
  latched_after_agree x y l m hx hl = ap (λ (v : List ℕ). latched_list c s (at v)) (seen_after_agree x y l m hx hl)

  -- and a run depends on its start at the places of flip-flops alone
  pub run_agree : (xs : List (List ℕ)) (l m : List ℕ) → SameAt c 2 (at l) (at m) → run c s xs l ≡ run c s xs m
  run_agree [] l m h = refl
  run_agree (x ∷ xs) l m h = λ i. seen_after_agree x x l m (λ _ _ _. refl) h i ∷ run c s xs (latched_after_agree x x l m (λ _ _ _. refl) h i)

  -- a run has as many clocks as its list
  pub length_run : (xs : List (List ℕ)) (l : List ℕ) → length (run c s xs l) ≡ length xs
  length_run [] l = refl
  length_run (x ∷ xs) l = ap suc (length_run xs (latched_after c s x l))

  -- a run of two lists, one after the other: the second starts from what the first has latched
  pub run-append : (xs ys : List (List ℕ)) (l : List ℕ) → run c s (xs ++ ys) l ≡ run c s xs l ++ run c s ys (latched_at_end c s xs l)
  run-append [] ys l = refl
  run-append (x ∷ xs) ys l = ap (λ (r : List (List ℕ)). seen_after c s x l ∷ r) (run-append xs ys (latched_after c s x l))

  pub latched-append : (xs ys : List (List ℕ)) (l : List ℕ) → latched_at_end c s (xs ++ ys) l ≡ latched_at_end c s ys (latched_at_end c s xs l)
  latched-append [] ys l = refl
  latched-append (x ∷ xs) ys l = latched-append xs ys (latched_after c s x l)

-- what the simulator leaves in its slices is one clock of a run, if the first slice held the clock's inputs and the latched values
pub stepped-clock : (a : SimulatorCall) (x l : List ℕ) → SameAt (net_of a.netlist) 0 (at a.first) (at x) → SameAt (net_of a.netlist) 2 (at a.first) (at l)
    → clock_step a ≡ outcome (answered []) (seen_after (net_of a.netlist) (lines_in a.circuit) x l) (latched_after (net_of a.netlist) (lines_in a.circuit) x l)
unfolding clock_step latched_after
stepped-clock a x l hx hl =
    ap (λ (v : List ℕ). outcome (answered []) v (latched_list (net_of a.netlist) (lines_in a.circuit) (at v)))
    (seen_clock (net_of a.netlist) (lines_in a.circuit) (at a.first) x l hx hl)

-- every value is 0 or 1
abbrev pub Bits : (ℕ → ℕ) → Type 0
Bits v = (n : ℕ) → v n < 2

bits_snoc : (l : List ℕ) (x : ℕ) → Bits (at l) → x < 2 → Bits (at (l ++ (x ∷ [])))
bits_snoc [] x h g zero = g
bits_snoc [] x h g (suc n) = omega arith
bits_snoc (y ∷ l) x h g zero = h 0
bits_snoc (y ∷ l) x h g (suc n) = bits_snoc l x (λ m. h (suc m)) g n

bits_build : (f : List ℕ → ℕ → ℕ) (m : ℕ) → ((l : List ℕ) (n : ℕ) → n < m → Bits (at l) → f l n < 2) → Bits (at (build f m))
unfolding build
bits_build f zero h = λ n. omega arith
bits_build f (suc m) h =
    let r = bits_build f m (λ l n p. h l n (omega arith)) in
    bits_snoc (build f m) (f (build f m) m) r (h (build f m) m (omega arith) r)

binary-indexed : (f : ℕ → ℕ → ℕ) → ((k x : ℕ) → f k x < 2) → (k : ℕ) (xs : List ℕ) → Binary (indexed f k xs)
binary-indexed f h k [] = bnil
binary-indexed f h k (x ∷ xs) = bcons (h k x) (binary-indexed f h (suc k) xs)

binary-at : {vs : List ℕ} → Binary vs → Bits (at vs)
binary-at bnil n = omega arith
binary-at (bcons h t) zero = h
binary-at (bcons h t) (suc n) = binary-at t n

module _ (c : Net) (s : StuckLines) where
  pub pins-binary : (v : ℕ → ℕ) → Bits v → (n : ℕ) → Binary (pin_values c s v n)
  unfolding pin_values
  pins-binary v h n = binary-indexed (λ k m. stuck_or (s.pin n k) (v m)) (λ k m. stuck-binary (s.pin n k) (v m) (h m)) 0 (c.pins n)

  -- inputs and latched values of 0 and 1 give seen values of 0 and 1, and these give latched values of 0 and 1
  pub seen_binary : (g : ℕ → ℕ) → ((n : ℕ) → n < c.size → is_given (c.kind n) ≡ true → g n < 2) → Bits (at (seen_list c s g))
  unfolding seen_list seen_by
  seen_binary g h = bits_build (seen_next c s g) c.size (λ l n p b. stuck-binary (s.node n) _ (go l n p b (is_given (c.kind n)) refl))
    where
      go : (l : List ℕ) (n : ℕ) → n < c.size → Bits (at l) → (b : Bool) → is_given (c.kind n) ≡ b → cond b (g n) (gate (c.kind n) (pin_values c s (at l) n)) < 2
      go l n p b true q = h n p q
      go l n p b false q = gate-binary (c.kind n) (pins-binary (at l) b n)

  pub latched-binary : (v : ℕ → ℕ) → Bits v → Bits (at (latched_list c s v))
  unfolding latched_list latched_by
  latched-binary v h = bits_build (λ _. latched_by c s v) c.size (λ l n p b. go n (is_flip_flop (c.kind n)))
    where
      go : (n : ℕ) (b : Bool) → cond b (at (pin_values c s v n) 0) 0 < 2
      go n true = binary-at (pins-binary v h n) 0
      go n false = omega arith

  pub seen_after-binary : (x l : List ℕ) → InputBits c x → LatchedBits c l → Bits (at (seen_after c s x l))
  unfolding seen_after InputBits LatchedBits
  seen_after-binary x l hx hl =
      seen_binary (clock_start c x l)
      (λ n p e. ⊎_elim (λ q. rw (start-input c x l n p q) (hx n p (eq-eqb (c.kind n) 0 q))) (λ q. rw (start-latched c x l n p q) (hl n p (eq-eqb (c.kind n) 2 q))) (given-kind (c.kind n) e))

  pub latched_after-binary : (x l : List ℕ) → InputBits c x → LatchedBits c l → LatchedBits c (latched_after c s x l)
  unfolding latched_after LatchedBits
  latched_after-binary x l hx hl n p e = latched-binary (at (seen_after c s x l)) (seen_after-binary x l hx hl) n

  -- so it is at every clock of a run, and at its end
  pub run-binary : {xs : List (List ℕ)} → ClockList c xs → (l : List ℕ) → LatchedBits c l → (t : ℕ) → Bits (at (get_or (run c s xs l) t []))
  run-binary no_clocks l h t = λ n. omega arith
  run-binary (first_clock {x} p r) l h zero = seen_after-binary x l p h
  run-binary (first_clock {x} p r) l h (suc t) = run-binary r (latched_after c s x l) (latched_after-binary x l p h) t

  pub end-binary : {xs : List (List ℕ)} → ClockList c xs → (l : List ℕ) → LatchedBits c l → LatchedBits c (latched_at_end c s xs l)
  end-binary no_clocks l h = h
  end-binary (first_clock {x} p r) l h = end-binary r (latched_after c s x l) (latched_after-binary x l p h)
