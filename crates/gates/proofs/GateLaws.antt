-- Laws of the kinds' pin counts and functions, for every pin count together.
use mathlib.Core.Bool.{Bool, cond, false, true}
use mathlib.Core.List.{List, [], ◌∷◌}
use mathlib.Core.Logic.{◌⊎◌, inl, inr, ⊎_elim}
use mathlib.Core.Path.{◌∙◌, ◌≡◌, ap, refl, sym}
use Prim.Native.Nat.{◌<◌, ◌≤◌, suc, zero, ℕ}
use native.Mathlib.Decide.{ℕ_discrete}
use native.Mathlib.Nat.{le_of_suc-le-suc, not-suc-le-zero}
use native.Mathlib.Omega.{arith}
use lib.Dec.{eqb}
use lib.ListN.{length, length-set, set}
use lib.Seq.{get_or-set_other, get_or-set_same, lt-length-set}
use Rattle.std.specs.Prelude.{unwrap_or}
use Rattle.values.proofs.ListLaws.{Below, bcons, bnil}
use Rattle.gates.proofs.ValueLaws.{and_zero, or_one}
use Rattle.gates.specs.Kind.{last_kind, most_pins, controlling, controlling_of, function_of, gate, inverted_if, join_of, rule_of, unit_of}
use Rattle.values.specs.Lists.{at, indexed}
use Rattle.gates.specs.Value.{and₂, neg, or₂, stuck_or, xor₂}
use Rattle.gates.specs.declared.kind.Gate.{Gate}
use Rattle.gates.specs.declared.kind.Gate.TheVariants.{And, Or, Wire, Xor}

-- Pin counts, by kind: from l to m pins.
abbrev pub Pins : ℕ → ℕ → ℕ → Type 0
Pins k l m = ((rule_of k).least ≡ l) × ((rule_of k).most ≡ m)

pub input-pins : Pins 0 0 0
unfolding rule_of
input-pins = (refl, refl)

-- outputs, flip-flops, buffers and NOTs
pub one_pin : (k : ℕ) → 1 ≤ k → k ≤ 4 → Pins k 1 1
unfolding rule_of
one_pin zero h g = absurd (omega arith)
one_pin (suc zero) h g = (refl, refl)
one_pin (suc (suc zero)) h g = (refl, refl)
one_pin (suc (suc (suc zero))) h g = (refl, refl)
one_pin (suc (suc (suc (suc zero)))) h g = (refl, refl)
one_pin (suc (suc (suc (suc (suc k))))) h g = absurd (omega arith)

pub xor_pins : Pins 9 2 2
unfolding rule_of
xor_pins = (refl, refl)

pub xnor_pins : Pins 10 2 2
unfolding rule_of
xnor_pins = (refl, refl)

-- An output, a flip-flop and a buffer hand on what their pin reads; a NOT negates it.
pub output_value : (v : ℕ) → gate 1 (v ∷ []) ≡ v
unfolding gate rule_of
output_value v = refl

pub flip_flop_value : (vs : List ℕ) → gate 2 vs ≡ at vs 0
unfolding gate rule_of
flip_flop_value [] = refl
flip_flop_value (v ∷ vs) = refl

pub buffer_value : (v : ℕ) → gate 3 (v ∷ []) ≡ v
unfolding gate rule_of
buffer_value v = refl

pub not_value : (v : ℕ) → gate 4 (v ∷ []) ≡ neg v
unfolding gate rule_of
not_value v = refl

-- NAND, NOR and XNOR negate AND, OR and XOR.
pub nand_value : (vs : List ℕ) → gate 6 vs ≡ neg (gate 5 vs)
unfolding gate rule_of
nand_value vs = refl

pub nor_value : (vs : List ℕ) → gate 8 vs ≡ neg (gate 7 vs)
unfolding gate rule_of
nor_value vs = refl

pub xnor_value : (vs : List ℕ) → gate 10 vs ≡ neg (gate 9 vs)
unfolding gate rule_of
xnor_value vs = refl

-- XOR of two known pins is 1 exactly where they differ.
pub xor_value : (v w : ℕ) → v < 2 → w < 2 → gate 9 (v ∷ w ∷ []) ≡ cond (eqb v w) 0 1
unfolding gate rule_of
xor_value zero zero h g = refl
xor_value zero (suc zero) h g = refl
xor_value (suc zero) zero h g = refl
xor_value (suc zero) (suc zero) h g = refl
xor_value zero (suc (suc w)) h g = absurd (omega arith)
xor_value (suc zero) (suc (suc w)) h g = absurd (omega arith)
xor_value (suc (suc v)) w h g = absurd (omega arith)

-- the value of a pin that settles the function, whatever the other pins are: its controlling value
data Controlling : Gate → ℕ → Type 0 where
  zero_at_and : Controlling And 0
  one_at_or : Controlling Or 1

join_first : {g : Gate} {c : ℕ} → Controlling g c → (w : ℕ) → join_of g c w ≡ c
join_first zero_at_and w = refl
join_first one_at_or w = refl

join-rest : {g : Gate} {c : ℕ} → Controlling g c → (v : ℕ) → join_of g v c ≡ c
join-rest zero_at_and v = and_zero v
join-rest one_at_or v = or_one v

join-other : {g : Gate} {c : ℕ} → Controlling g c → (w : ℕ) → join_of g (neg c) w ≡ w
join-other zero_at_and w = refl
join-other one_at_or w = refl

join-none : {g : Gate} {c : ℕ} → Controlling g c → (v w : ℕ) → join_of g v w ≡ neg c → (v ≡ neg c) × (w ≡ neg c)
join-none zero_at_and zero w e = absurd (omega arith)
join-none zero_at_and (suc zero) w e = (refl, e)
join-none zero_at_and (suc (suc v)) zero e = absurd (omega arith)
join-none zero_at_and (suc (suc v)) (suc w) e = absurd (omega arith)
join-none one_at_or zero w e = (refl, e)
join-none one_at_or (suc zero) w e = absurd (omega arith)
join-none one_at_or (suc (suc v)) zero e = absurd (omega arith)
join-none one_at_or (suc (suc v)) (suc zero) e = absurd (omega arith)
join-none one_at_or (suc (suc v)) (suc (suc w)) e = absurd (omega arith)

join_some : {g : Gate} {c : ℕ} → Controlling g c → (v w : ℕ) → join_of g v w ≡ c → (v ≡ c) ⊎ (w ≡ c)
join_some zero_at_and zero w e = inl refl
join_some zero_at_and (suc zero) w e = inr e
join_some zero_at_and (suc (suc v)) zero e = inr refl
join_some zero_at_and (suc (suc v)) (suc w) e = absurd (omega arith)
join_some one_at_or zero w e = inr e
join_some one_at_or (suc zero) w e = inl refl
join_some one_at_or (suc (suc v)) zero e = absurd (omega arith)
join_some one_at_or (suc (suc v)) (suc zero) e = inr refl
join_some one_at_or (suc (suc v)) (suc (suc w)) e = absurd (omega arith)

-- some pin of a list has the value c; every pin has it
abbrev pub SomePin : ℕ → List ℕ → Type 0
SomePin c vs = (k : ℕ) × (k < length vs) × (at vs k ≡ c)

abbrev pub EveryPin : ℕ → List ℕ → Type 0
EveryPin c vs = (k : ℕ) → k < length vs → at vs k ≡ c

module _ {g : Gate} {c : ℕ} (h : Controlling g c) where
  function_some : (vs : List ℕ) (k : ℕ) → k < length vs → at vs k ≡ c → function_of g vs ≡ c
  function_some [] k l e = absurd (not-suc-le-zero l)
  function_some (v ∷ vs) zero l e = ap (λ (x : ℕ). join_of g x (function_of g vs)) e ∙ join_first h (function_of g vs)
  function_some (v ∷ vs) (suc k) l e = ap (join_of g v) (function_some vs k (le_of_suc-le-suc l) e) ∙ join-rest h v

  function_every : (vs : List ℕ) → EveryPin (neg c) vs → function_of g vs ≡ neg c
  function_every [] e = go h
    where
      go : {g : Gate} {c : ℕ} → Controlling g c → unit_of g ≡ neg c
      go zero_at_and = refl
      go one_at_or = refl
  function_every (v ∷ vs) e =
      ap (λ (x : ℕ). join_of g x (function_of g vs)) (e 0 (omega arith))
      ∙ join-other h (function_of g vs)
      ∙ function_every vs (λ k l. e (suc k) (omega arith))

  some_function : (vs : List ℕ) → function_of g vs ≡ c → SomePin c vs
  some_function [] e = go h e
    where
      go : {g : Gate} {c : ℕ} → Controlling g c → unit_of g ≡ c → SomePin c []
      go zero_at_and e = absurd (omega arith)
      go one_at_or e = absurd (omega arith)
  some_function (v ∷ vs) e =
      ⊎_elim (λ q. (0, omega arith, q)) (λ q. let r = some_function vs q in (suc r.0, omega arith, r.2)) (join_some h v (function_of g vs) e)

  every_function : (vs : List ℕ) → function_of g vs ≡ neg c → EveryPin (neg c) vs
  every_function [] e k l = absurd (not-suc-le-zero l)
  every_function (v ∷ vs) e zero l = (join-none h v (function_of g vs) e).0
  every_function (v ∷ vs) e (suc k) l = every_function vs (join-none h v (function_of g vs) e).1 k (le_of_suc-le-suc l)

-- AND, NAND, OR and NOR: a pin at the controlling value c gives the output o
pub data Controls : ℕ → ℕ → ℕ → Type 0 where
  and_controls : Controls 5 0 0
  nand_controls : Controls 6 0 1
  or_controls : Controls 7 1 1
  nor_controls : Controls 8 1 0

pub many_pins : {k c o : ℕ} → Controls k c o → Pins k 2 most_pins
unfolding rule_of
many_pins and_controls = (refl, refl)
many_pins nand_controls = (refl, refl)
many_pins or_controls = (refl, refl)
many_pins nor_controls = (refl, refl)

neg_same : (v c : ℕ) → c < 2 → neg v ≡ neg c → v ≡ c
neg_same zero zero h e = refl
neg_same zero (suc zero) h e = absurd (omega arith)
neg_same (suc zero) zero h e = absurd (omega arith)
neg_same (suc zero) (suc zero) h e = refl
neg_same (suc (suc v)) zero h e = absurd (omega arith)
neg_same (suc (suc v)) (suc zero) h e = absurd (omega arith)
neg_same v (suc (suc c)) h e = absurd (omega arith)

-- the output is o where some pin is c
pub controlled : {k c o : ℕ} → Controls k c o → (vs : List ℕ) → SomePin c vs → gate k vs ≡ o
unfolding gate rule_of
controlled and_controls vs p = function_some zero_at_and vs p.0 p.1 p.2
controlled nand_controls vs p = ap neg (function_some zero_at_and vs p.0 p.1 p.2)
controlled or_controls vs p = function_some one_at_or vs p.0 p.1 p.2
controlled nor_controls vs p = ap neg (function_some one_at_or vs p.0 p.1 p.2)

-- and only there, also where other pins are unknown
pub controlled-by : {k c o : ℕ} → Controls k c o → (vs : List ℕ) → gate k vs ≡ o → SomePin c vs
unfolding gate rule_of
controlled-by and_controls vs e = some_function zero_at_and vs e
controlled-by nand_controls vs e = some_function zero_at_and vs (neg_same (function_of And vs) 0 (omega arith) e)
controlled-by or_controls vs e = some_function one_at_or vs e
controlled-by nor_controls vs e = some_function one_at_or vs (neg_same (function_of Or vs) 1 (omega arith) e)

-- the output is the other value where every pin is the other value
pub uncontrolled : {k c o : ℕ} → Controls k c o → (vs : List ℕ) → EveryPin (neg c) vs → gate k vs ≡ neg o
unfolding gate rule_of
uncontrolled and_controls vs p = function_every zero_at_and vs p
uncontrolled nand_controls vs p = ap neg (function_every zero_at_and vs p)
uncontrolled or_controls vs p = function_every one_at_or vs p
uncontrolled nor_controls vs p = ap neg (function_every one_at_or vs p)

-- and only there
pub uncontrolled-by : {k c o : ℕ} → Controls k c o → (vs : List ℕ) → gate k vs ≡ neg o → EveryPin (neg c) vs
unfolding gate rule_of
uncontrolled-by and_controls vs e = every_function zero_at_and vs e
uncontrolled-by nand_controls vs e = every_function zero_at_and vs (neg_same (function_of And vs) 1 (omega arith) e)
uncontrolled-by or_controls vs e = every_function one_at_or vs e
uncontrolled-by nor_controls vs e = every_function one_at_or vs (neg_same (function_of Or vs) 0 (omega arith) e)

-- the output is o and every pin but j is the other value: then pin j is c
pub last_controls : {k c o : ℕ} → Controls k c o → (vs : List ℕ) → gate k vs ≡ o → (j : ℕ) → ((i : ℕ) → i < length vs → (i ≡ j → ⊥) → at vs i ≡ neg c) → at vs j ≡ c
last_controls {c = c} h vs e j others = go (controlled-by h vs e)
  where
    differ : {k c o : ℕ} → Controls k c o → c ≡ neg c → ⊥
    differ and_controls q = omega arith
    differ nand_controls q = omega arith
    differ or_controls q = omega arith
    differ nor_controls q = omega arith

    go : SomePin c vs → at vs j ≡ c
    go p = elim (ℕ_discrete p.0 j) [
      | yes q ↦ ap (at vs) (sym q) ∙ p.2
      | no q ↦ absurd (differ h (sym p.2 ∙ others p.0 p.1 q))
    ]

-- Values that are 0 or 1 give 0 or 1.
abbrev pub Binary : List ℕ → Type 0
Binary vs = Below 2 vs

pub neg-binary : (v : ℕ) → v < 2 → neg v < 2
neg-binary zero h = omega arith
neg-binary (suc zero) h = omega arith
neg-binary (suc (suc v)) h = absurd (omega arith)

pub stuck-binary : (s v : ℕ) → v < 2 → stuck_or s v < 2
stuck-binary zero v h = omega arith
stuck-binary (suc zero) v h = omega arith
stuck-binary (suc (suc s)) v h = h

unit_binary : (g : Gate) → unit_of g < 2
unit_binary Wire = omega arith
unit_binary And = omega arith
unit_binary Or = omega arith
unit_binary Xor = omega arith

join-binary : (g : Gate) (v w : ℕ) → v < 2 → w < 2 → join_of g v w < 2
join-binary Wire v w h l = h
join-binary And zero w h l = omega arith
join-binary And (suc zero) w h l = l
join-binary And (suc (suc v)) w h l = absurd (omega arith)
join-binary Or zero w h l = l
join-binary Or (suc zero) w h l = omega arith
join-binary Or (suc (suc v)) w h l = absurd (omega arith)
join-binary Xor zero w h l = l
join-binary Xor (suc zero) w h l = neg-binary w l
join-binary Xor (suc (suc v)) w h l = absurd (omega arith)

function_binary : (g : Gate) {vs : List ℕ} → Binary vs → function_of g vs < 2
function_binary g bnil = unit_binary g
function_binary g (bcons {x} {xs} h t) = join-binary g x (function_of g xs) h (function_binary g t)

inverted_binary : (i : Bool) (v : ℕ) → v < 2 → inverted_if i v < 2
inverted_binary true v h = neg-binary v h
inverted_binary false v h = h

pub gate-binary : (k : ℕ) {vs : List ℕ} → Binary vs → gate k vs < 2
unfolding gate
gate-binary k {vs} h = inverted_binary (rule_of k).inverted (function_of (rule_of k).gate vs) (function_binary (rule_of k).gate h)

-- w is what v is, wherever v is known
abbrev pub Refines : ℕ → ℕ → Type 0
Refines v w = v < 2 → v ≡ w

pub data RefinesAll : List ℕ → List ℕ → Type 0 where
  rnil : RefinesAll [] []
  rcons : {v w : ℕ} {vs ws : List ℕ} → Refines v w → RefinesAll vs ws → RefinesAll (v ∷ vs) (w ∷ ws)

-- What is known of the pins is enough: a known value stays when unknown pins become known.
pub neg_mono : (v w : ℕ) → Refines v w → Refines (neg v) (neg w)
neg_mono zero w h = λ _. ap neg (h (omega arith))
neg_mono (suc zero) w h = λ _. ap neg (h (omega arith))
neg_mono (suc (suc v)) w h = λ l. absurd (omega arith)

pub stuck_mono : (s v w : ℕ) → Refines v w → Refines (stuck_or s v) (stuck_or s w)
stuck_mono zero v w h = λ _. refl
stuck_mono (suc zero) v w h = λ _. refl
stuck_mono (suc (suc s)) v w h = h

-- a stuck line has its stuck value
pub stuck_refines : (s v : ℕ) → Refines s (stuck_or s v)
stuck_refines zero v = λ _. refl
stuck_refines (suc zero) v = λ _. refl
stuck_refines (suc (suc s)) v = λ l. absurd (omega arith)

-- what a line is, stuck or not, is v wherever it is known, if its stuck value is and its own value
pub stuck_or_refines : (s x v : ℕ) → Refines s v → Refines x v → Refines (stuck_or s x) v
stuck_or_refines zero x v h g = h
stuck_or_refines (suc zero) x v h g = h
stuck_or_refines (suc (suc s)) x v h g = g

-- lists made from the same sources
pub indexed_refines : {b : ℕ} {xs : List ℕ} → Below b xs → (f g : ℕ → ℕ → ℕ) (k : ℕ) → ((k x : ℕ) → x < b → Refines (f k x) (g k x)) → RefinesAll (indexed f k xs) (indexed g k xs)
indexed_refines bnil f g k h = rnil
indexed_refines (bcons {x} p r) f g k h = rcons (h k x p) (indexed_refines r f g (suc k) h)

join_mono : (g : Gate) (v w a b : ℕ) → Refines v w → Refines a b → Refines (join_of g v a) (join_of g w b)
join_mono Wire v w a b h l = h
join_mono And zero w a b h l = λ _. ap (λ (x : ℕ). and₂ x b) (h (omega arith))
join_mono And (suc zero) w a b h l = λ q. l q ∙ ap (λ (x : ℕ). and₂ x b) (h (omega arith))
join_mono And (suc (suc v)) w zero b h l = λ _. sym (and_zero w) ∙ ap (and₂ w) (l (omega arith))
join_mono And (suc (suc v)) w (suc a) b h l = λ q. absurd (omega arith)
join_mono Or zero w a b h l = λ q. l q ∙ ap (λ (x : ℕ). or₂ x b) (h (omega arith))
join_mono Or (suc zero) w a b h l = λ _. ap (λ (x : ℕ). or₂ x b) (h (omega arith))
join_mono Or (suc (suc v)) w zero b h l = λ q. absurd (omega arith)
join_mono Or (suc (suc v)) w (suc zero) b h l = λ _. sym (or_one w) ∙ ap (or₂ w) (l (omega arith))
join_mono Or (suc (suc v)) w (suc (suc a)) b h l = λ q. absurd (omega arith)
join_mono Xor zero w a b h l = λ q. l q ∙ ap (λ (x : ℕ). xor₂ x b) (h (omega arith))
join_mono Xor (suc zero) w a b h l = λ q. neg_mono a b l q ∙ ap (λ (x : ℕ). xor₂ x b) (h (omega arith))
join_mono Xor (suc (suc v)) w a b h l = λ q. absurd (omega arith)

function_mono : (g : Gate) {vs ws : List ℕ} → RefinesAll vs ws → Refines (function_of g vs) (function_of g ws)
function_mono g rnil = λ _. refl
function_mono g (rcons {v} {w} {vs} {ws} h t) = join_mono g v w (function_of g vs) (function_of g ws) h (function_mono g t)

inverted_mono : (i : Bool) (v w : ℕ) → Refines v w → Refines (inverted_if i v) (inverted_if i w)
inverted_mono true v w h = neg_mono v w h
inverted_mono false v w h = h

pub gate_mono : (k : ℕ) {vs ws : List ℕ} → RefinesAll vs ws → Refines (gate k vs) (gate k ws)
unfolding gate
gate_mono k {vs} {ws} h =
    inverted_mono (rule_of k).inverted (function_of (rule_of k).gate vs) (function_of (rule_of k).gate ws) (function_mono (rule_of k).gate h)

-- Where no pin is c and not every pin is the other value, the output is unknown.
function_three : {g : Gate} {c : ℕ} → Controlling g c → (vs : List ℕ) → function_of g vs < 3
function_three zero_at_and [] = omega arith
function_three zero_at_and (v ∷ vs) = join v (function_of And vs) (function_three zero_at_and vs)
  where
    join : (v w : ℕ) → w < 3 → and₂ v w < 3
    join zero w h = omega arith
    join (suc zero) w h = h
    join (suc (suc v)) zero h = omega arith
    join (suc (suc v)) (suc w) h = omega arith
function_three one_at_or [] = omega arith
function_three one_at_or (v ∷ vs) = join v (function_of Or vs) (function_three one_at_or vs)
  where
    join : (v w : ℕ) → w < 3 → or₂ v w < 3
    join zero w h = h
    join (suc zero) w h = omega arith
    join (suc (suc v)) zero h = omega arith
    join (suc (suc v)) (suc zero) h = omega arith
    join (suc (suc v)) (suc (suc w)) h = omega arith

neg_three : (v : ℕ) → neg v < 3
neg_three zero = omega arith
neg_three (suc zero) = omega arith
neg_three (suc (suc v)) = omega arith

no_other : (v : ℕ) → v < 3 → (v ≡ 0 → ⊥) → (v ≡ 1 → ⊥) → v ≡ 2
no_other zero h p q = absurd (p refl)
no_other (suc zero) h p q = absurd (q refl)
no_other (suc (suc v)) h p q = omega arith

pub unsettled : {k c o : ℕ} → Controls k c o → (vs : List ℕ) → (SomePin c vs → ⊥) → (EveryPin (neg c) vs → ⊥) → gate k vs ≡ 2
unfolding gate rule_of
unsettled and_controls vs p q =
    no_other (gate 5 vs) (function_three zero_at_and vs) (λ e. p (controlled-by and_controls vs e)) (λ e. q (uncontrolled-by and_controls vs e))
unsettled nand_controls vs p q =
    no_other (gate 6 vs) (neg_three (function_of And vs)) (λ e. q (uncontrolled-by nand_controls vs e)) (λ e. p (controlled-by nand_controls vs e))
unsettled or_controls vs p q =
    no_other (gate 7 vs) (function_three one_at_or vs) (λ e. q (uncontrolled-by or_controls vs e)) (λ e. p (controlled-by or_controls vs e))
unsettled nor_controls vs p q =
    no_other (gate 8 vs) (neg_three (function_of Or vs)) (λ e. p (controlled-by nor_controls vs e)) (λ e. q (uncontrolled-by nor_controls vs e))

pub controls_binary : {k c o : ℕ} → Controls k c o → (c < 2) × (o < 2)
controls_binary and_controls = (omega arith, omega arith)
controls_binary nand_controls = (omega arith, omega arith)
controls_binary or_controls = (omega arith, omega arith)
controls_binary nor_controls = (omega arith, omega arith)

pub controls_controlling : {k c o : ℕ} → Controls k c o → controlling (rule_of k).gate ≡ c
unfolding rule_of
controls_controlling and_controls = refl
controls_controlling nand_controls = refl
controls_controlling or_controls = refl
controls_controlling nor_controls = refl

pub controlling-low : (g : Gate) → controlling g < 2
controlling-low Wire = omega arith
controlling-low And = omega arith
controlling-low Or = omega arith
controlling-low Xor = omega arith

-- where a gate has a controlling value, it is that one; 0 is taken for the others
pub controlling_said : (g : Gate) → unwrap_or (controlling_of g) 0 ≡ controlling g
controlling_said Wire = refl
controlling_said And = refl
controlling_said Or = refl
controlling_said Xor = refl

-- every pin but pin j has the value c
abbrev pub OtherPins : ℕ → List ℕ → ℕ → Type 0
OtherPins c vs j = (i : ℕ) → i < length vs → (i ≡ j → ⊥) → at vs i ≡ c

-- the same gate with pin j set to a value
module _ {k c o : ℕ} (h : Controls k c o) (vs : List ℕ) (j : ℕ) (l : j < length vs) where
  pub set-controlled : gate k (set vs j c) ≡ o
  set-controlled = controlled h (set vs j c) (j, lt-length-set vs j c l, get_or-set_same vs j c 0 l)

  pub set-uncontrolled : OtherPins (neg c) vs j → gate k (set vs j (neg c)) ≡ neg o
  set-uncontrolled q = uncontrolled h (set vs j (neg c)) go
    where
      go : EveryPin (neg c) (set vs j (neg c))
      go i m = elim (ℕ_discrete i j) [
        | yes e ↦ ap (at (set vs j (neg c))) e ∙ get_or-set_same vs j (neg c) 0 l
        | no d ↦ get_or-set_other vs j i (neg c) 0 d ∙ q i (omega (arith, length-set vs j (neg c))) d
      ]

  pub set-uncontrolled-by : gate k (set vs j (neg c)) ≡ neg o → OtherPins (neg c) vs j
  set-uncontrolled-by e i m d = sym (get_or-set_other vs j i (neg c) 0 d) ∙ uncontrolled-by h (set vs j (neg c)) e i (lt-length-set vs j (neg c) m)

-- outputs, flip-flops, buffers and NOTs: the pin's value, negated by a NOT alone
pub data Wired : ℕ → Bool → Type 0 where
  output_wired : Wired 1 false
  flip_flop_wired : Wired 2 false
  buffer_wired : Wired 3 false
  not_wired : Wired 4 true

pub wired-value : {k : ℕ} {i : Bool} → Wired k i → (v : ℕ) → gate k (v ∷ []) ≡ inverted_if i v
unfolding gate rule_of
wired-value output_wired v = refl
wired-value flip_flop_wired v = refl
wired-value buffer_wired v = refl
wired-value not_wired v = refl

-- XOR and XNOR: two equal pins give e, two different ones the other value
pub data Parity : ℕ → ℕ → Type 0 where
  xor_parity : Parity 9 0
  xnor_parity : Parity 10 1

pub parity_value : {k e : ℕ} → Parity k e → (v w : ℕ) → v < 2 → w < 2 → gate k (v ∷ w ∷ []) ≡ cond (eqb v w) e (neg e)
unfolding gate rule_of
parity_value xor_parity v w h l = xor_value v w h l
parity_value xnor_parity v w h l = ap neg (xor_value v w h l) ∙ go (eqb v w)
  where
    go : (b : Bool) → neg (cond b 0 1) ≡ cond b 1 0
    go true = refl
    go false = refl

-- an unknown pin makes the output unknown
xor_open : (v w : ℕ) → (2 ≤ v) ⊎ (2 ≤ w) → gate 9 (v ∷ w ∷ []) ≡ 2
unfolding gate rule_of
xor_open (suc (suc v)) w h = refl
xor_open zero (suc (suc w)) h = refl
xor_open (suc zero) (suc (suc w)) h = refl
xor_open zero zero h = absurd (⊎_elim (λ l. omega arith) (λ l. omega arith) h)
xor_open zero (suc zero) h = absurd (⊎_elim (λ l. omega arith) (λ l. omega arith) h)
xor_open (suc zero) zero h = absurd (⊎_elim (λ l. omega arith) (λ l. omega arith) h)
xor_open (suc zero) (suc zero) h = absurd (⊎_elim (λ l. omega arith) (λ l. omega arith) h)

pub parity_open : {k e : ℕ} → Parity k e → (v w : ℕ) → (2 ≤ v) ⊎ (2 ≤ w) → gate k (v ∷ w ∷ []) ≡ 2
unfolding gate rule_of
parity_open xor_parity v w h = xor_open v w h
parity_open xnor_parity v w h = ap neg (xor_open v w h)

-- Each kind is an input or one of these.
pub data Family : ℕ → Type 0 where
  input_family : Family 0
  wired_family : {k : ℕ} {i : Bool} → Wired k i → Family k
  controls_family : {k c o : ℕ} → Controls k c o → Family k
  parity_family : {k e : ℕ} → Parity k e → Family k

pub family : (k : ℕ) → k ≤ last_kind → Family k
family zero h = input_family
family (suc zero) h = wired_family output_wired
family (suc (suc zero)) h = wired_family flip_flop_wired
family (suc (suc (suc zero))) h = wired_family buffer_wired
family (suc (suc (suc (suc zero)))) h = wired_family not_wired
family (suc (suc (suc (suc (suc zero))))) h = controls_family and_controls
family (suc (suc (suc (suc (suc (suc zero)))))) h = controls_family nand_controls
family (suc (suc (suc (suc (suc (suc (suc zero))))))) h = controls_family or_controls
family (suc (suc (suc (suc (suc (suc (suc (suc zero)))))))) h = controls_family nor_controls
family (suc (suc (suc (suc (suc (suc (suc (suc (suc zero))))))))) h = parity_family xor_parity
family (suc (suc (suc (suc (suc (suc (suc (suc (suc (suc zero)))))))))) h = parity_family xnor_parity
family (suc (suc (suc (suc (suc (suc (suc (suc (suc (suc (suc k))))))))))) h = absurd (omega arith)
