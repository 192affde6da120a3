-- A pin whose source is known: where the output's line shows nothing new, the pin's line shows nothing new either.
use mathlib.Core.Bool.{Bool, ◌&&◌, ◌||◌, false, true, true≢false}
use mathlib.Core.List.{List}
use mathlib.Core.Logic.{◌⊎◌, inl, inr}
use mathlib.Core.Path.{◌∙◌, ◌≡◌, ap, refl, sym}
use Prim.Native.Nat.{◌*◌, ◌+◌, ◌<◌, ◌≤◌, suc, zero, ℕ}
use native.Mathlib.Decide.{ℕ_discrete}
use native.Mathlib.Omega.{arith}
use lib.Dec.{eqb}
use lib.ListN.{get_or, length, set}
use lib.Seq.{set-get_or}
use borrow.Author.Tests.{eqb-true}
use Rattle.gates.proofs.GateLaws.{controlling-low}
use Rattle.values.proofs.ListLaws.{indexed-at}
use Rattle.gates.proofs.ValueLaws.{differ_same, differ_unknown_first, stuck-free, unknown_is}
use Rattle.simulator.specs.Clock.{pin_values}
use Rattle.circuit.specs.Fault.{StuckLines}
use Rattle.gates.specs.Kind.{controlling, gate, rule_of}
use Rattle.values.specs.Lists.{at}
use Rattle.netlist.specs.Netlist.{Net}
use Rattle.gates.specs.Value.{differ, is_unknown, neg, stuck_or}
use Rattle.knowledge.specs.Window.{conclusion, output_conclusion, pin_conclusion, pin_frame}
use Rattle.sweeps.proofs.StillLaws.{bytes_count, line_is, line_moves, line_unmoved, tried}
use Rattle.sweeps.proofs.WorkLaws.{pins-tally, line-closed, line-old, line-silent, made}
use Rattle.sweeps.specs.Sweeps.{says_nothing, try_line}
use Rattle.sweeps.specs.Inner.Work.{Work, in_bytes, take_in}

other : (x w : ℕ) → x < 2 → w < 2 → (x ≡ w → ⊥) → x ≡ neg w
other zero zero h k d = absurd (d refl)
other zero (suc zero) h k d = refl
other zero (suc (suc w)) h k d = absurd (omega arith)
other (suc zero) zero h k d = refl
other (suc zero) (suc zero) h k d = absurd (d refl)
other (suc zero) (suc (suc w)) h k d = absurd (omega arith)
other (suc (suc x)) w h k d = absurd (omega arith)

module _ (net : Net) (s : StuckLines) (v : ℕ → ℕ) (n o k : ℕ) (hk : k < length (net.pins n)) (hx : v (at (net.pins n) k) < 2)
    (agrees : differ (gate (net.kind n) (pin_values net s v n)) o ≡ false) where
  abbrev x : ℕ
  x = v (at (net.pins n) k)

  abbrev vs : List ℕ
  vs = pin_values net s v n

  abbrev w : ℕ
  w = controlling (rule_of (net.kind n)).gate

  abbrev free : Bool
  free = is_unknown (s.pin n k)

  abbrev first : Bool
  first = differ (gate (net.kind n) (set vs k w)) o

  abbrev second : Bool
  second = differ (gate (net.kind n) (set vs k (neg w))) o

  reads_source : free ≡ true → get_or vs k 0 ≡ x
  unfolding pin_values
  reads_source e =
      let z : 0 + k ≡ k = omega arith in
      indexed-at (λ j m. stuck_or (s.pin n j) (v m)) 0 (net.pins n) k 0 hk ∙ ap (λ (j : ℕ). stuck_or (s.pin n j) x) z ∙ stuck-free (s.pin n k) x (unknown_is (s.pin n k) e)

  -- the pin at its own value leaves the gate as it is
  own_agrees : free ≡ true → (y : ℕ) → x ≡ y → differ (gate (net.kind n) (set vs k y)) o ≡ false
  own_agrees e y q = ap (λ (l : List ℕ). differ (gate (net.kind n) l) o) (ap (set vs k) (sym (reads_source e ∙ q)) ∙ set-get_or vs k 0) ∙ agrees

  abbrev concluded : Bool → Bool → Bool → ℕ
  concluded a b c = elim (a && b) [ true ↦ neg w | false ↦ elim (a && c) [ true ↦ w | false ↦ 2 ] ]

  -- nothing is concluded of the source, or the value that it has
  pub known_source : (2 ≤ pin_conclusion net s v n o k) ⊎ (pin_conclusion net s v n o k ≡ x)
  unfolding pin_conclusion
  known_source = by-free free refl
    where
      same-value : (b c : Bool) → b ≡ false → x ≡ w → (2 ≤ concluded true b c) ⊎ (concluded true b c ≡ x)
      same-value true c e q = absurd (true≢false e)
      same-value false true e q = inr (sym q)
      same-value false false e q = inl (omega arith)

      other-value : (b c : Bool) → c ≡ false → x ≡ neg w → (2 ≤ concluded true b c) ⊎ (concluded true b c ≡ x)
      other-value true c e q = inr (sym q)
      other-value false true e q = absurd (true≢false e)
      other-value false false e q = inl (omega arith)

      by_value : free ≡ true → Dec (x ≡ w) → (2 ≤ concluded true first second) ⊎ (concluded true first second ≡ x)
      by_value e (yes q) = same-value first second (own_agrees e w q) q
      by_value e (no d) = let q = other x w hx (controlling-low (rule_of (net.kind n)).gate) d in other-value first second (own_agrees e (neg w) q) q

      by-free : (a : Bool) → free ≡ a → (2 ≤ concluded a first second) ⊎ (concluded a first second ≡ x)
      by-free true e = by_value e (ℕ_discrete x w)
      by-free false e = inl (omega arith)

module _ (net : Net) (S : ℕ → StuckLines) where
  -- a line that is no step changes nothing
  line-still : (n t i : ℕ) (w : Work) → (try_line (in_bytes net.size) net S n t i w).steps ≡ w.steps → try_line (in_bytes net.size) net S n t i w ≡ w
  line-still = line_unmoved (in_bytes net.size) net S (bytes_count net.size)

  pub line_grows : (n t i : ℕ) (w : Work) → w.steps ≤ (try_line (in_bytes net.size) net S n t i w).steps
  line_grows n t i w = go (line_moves (in_bytes net.size) net S (bytes_count net.size) n t i w)
    where
      go : (try_line (in_bytes net.size) net S n t i w ≡ w) ⊎ (w.steps < (try_line (in_bytes net.size) net S n t i w).steps) → w.steps ≤ (try_line (in_bytes net.size) net S n t i w).steps
      go (inl q) = let z : (try_line (in_bytes net.size) net S n t i w).steps ≡ w.steps = ap (λ (y : Work). y.steps) q in omega arith
      go (inr q) = omega arith

  -- where the output's line is no step, the gate agrees with what is known of the output
  output_agrees : (n t : ℕ) (w : Work) → w.closed ≡ false → (try_line (in_bytes net.size) net S n t 0 w).steps ≡ w.steps
      → differ (made net S n t 0 w).value (at w.known (t * net.size + n)) ≡ false
  unfolding take_in conclusion says_nothing
  output_agrees n t w c e = unknown_or (is_unknown g) refl
    where
      g : ℕ
      g = (made net S n t 0 w).value

      o : ℕ
      o = at w.known (t * net.size + n)

      test : (b : Bool) → (is_unknown g || eqb o g) ≡ b → try_line (in_bytes net.size) net S n t 0 w ≡ tried (in_bytes net.size) net S n t 0 w b
      test b q = line_is (in_bytes net.size) net S n t 0 w b (ap (λ (z : Bool). z || (is_unknown g || eqb o g)) c ∙ q)

      same_or : is_unknown g ≡ false → (b : Bool) → eqb o g ≡ b → differ g o ≡ false
      same_or u true q = ap (differ g) (eqb-true o g q) ∙ differ_same g
      same_or u false q = absurd (let z : w.steps + 1 ≡ w.steps = sym (ap (λ (y : Work). y.steps) (test false (λ j. u j || q j))) ∙ e in omega arith)

      unknown_or : (b : Bool) → is_unknown g ≡ b → differ g o ≡ false
      unknown_or true u = differ_unknown_first g o (unknown_is g u)
      unknown_or false u = same_or u (eqb o g) refl

  -- THE law: a pin whose source is known needs no work, where the output's line is no step
  pub known-pin : (n t k : ℕ) (w : Work) → k < length (net.pins n) → (try_line (in_bytes net.size) net S n t 0 w).steps ≡ w.steps
      → at w.known (pin_frame (net.kind n) t * net.size + at (net.pins n) k) < 2
      → try_line (in_bytes net.size) net S n t (suc k) w ≡ w
  unfolding conclusion output_conclusion
  known-pin n t k w hk e hx = closed_or w.closed refl
    where
      kn : ℕ → ℕ
      kn m = at w.known (pin_frame (net.kind n) t * net.size + m)

      o : ℕ
      o = at w.known (t * net.size + n)

      by_value : w.closed ≡ false
          → (2 ≤ pin_conclusion net (S (pin_frame (net.kind n) t)) kn n o k) ⊎ (pin_conclusion net (S (pin_frame (net.kind n) t)) kn n o k ≡ kn (at (net.pins n) k))
          → try_line (in_bytes net.size) net S n t (suc k) w ≡ w
      by_value c (inl h) = line-silent net S n t (suc k) w (made net S n t (suc k) w) refl c h
      by_value c (inr q) = line-old net S n t (suc k) w (made net S n t (suc k) w) refl c (omega (arith, q, hx)) (pin_frame (net.kind n) t * net.size + at (net.pins n) k) refl (sym q)

      closed_or : (b : Bool) → w.closed ≡ b → try_line (in_bytes net.size) net S n t (suc k) w ≡ w
      closed_or true c = line-closed net S n t (suc k) w c
      closed_or false c = by_value c (known_source net (S (pin_frame (net.kind n) t)) kn n o k hk hx (output_agrees n t w c e))

  -- after an output's line that was no step, it is none again
  pub settled-after : (n t : ℕ) (w x : Work) → x ≡ try_line (in_bytes net.size) net S n t 0 w → x.steps ≡ w.steps → (try_line (in_bytes net.size) net S n t 0 x).steps ≡ x.steps
  settled-after n t w x is e =
      let q : x ≡ w = is ∙ line-still n t 0 w (sym (ap (λ (z : Work). z.steps) is) ∙ e) in
      ap (λ (z : Work). (try_line (in_bytes net.size) net S n t 0 z).steps) q ∙ sym (ap (λ (z : Work). z.steps) is)

  -- what the walk over the pins keeps: as long as no step was made, all is as it was after the output's line
  module _ (n t : ℕ) (x y : Work) (most : x.steps ≤ y.steps) (still : y.steps ≡ x.steps → y ≡ x) where
    pub settled_stays : (start : ℕ) → start ≤ x.steps → (x.steps ≡ start → (try_line (in_bytes net.size) net S n t 0 x).steps ≡ x.steps) → y.steps ≡ start
        → (try_line (in_bytes net.size) net S n t 0 y).steps ≡ y.steps
    settled_stays start h k e =
        let q : y ≡ x = still (omega arith) in
        ap (λ (z : Work). (try_line (in_bytes net.size) net S n t 0 z).steps) q ∙ k (omega arith) ∙ ap (λ (z : Work). z.steps) (sym q)

    pub pin_grows : (k : ℕ) → x.steps ≤ (try_line (in_bytes net.size) net S n t k y).steps
    pin_grows k = let g = line_grows n t k y in omega arith

    pub pin-still : (k : ℕ) → (try_line (in_bytes net.size) net S n t k y).steps ≡ x.steps → try_line (in_bytes net.size) net S n t k y ≡ x
    pin-still k e = let g = line_grows n t k y in line-still n t k y (omega arith) ∙ still (omega arith)

-- the output's line, and the walk over the pins behind it
pub ruleset output_line = (line_grows, settled-after)

pub ruleset pin_walk = (pin_grows, pin-still, pins-tally, settled_stays)
