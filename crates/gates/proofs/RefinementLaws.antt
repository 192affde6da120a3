-- Laws of values of which more is known: what differs still differs, and a pin that is known neither way.
use mathlib.Core.Bool.{Bool, false, false≢true, true}
use mathlib.Core.List.{List, [], ◌∷◌}
use mathlib.Core.Path.{◌∙◌, ◌≡◌, ap, refl, sym}
use Prim.Native.Nat.{◌<◌, suc, zero, ℕ}
use native.Mathlib.Omega.{arith}
use lib.ListN.{set}
use Rattle.gates.proofs.GateLaws.{Refines, RefinesAll, neg-binary, rcons, rnil}
use Rattle.gates.proofs.ValueLaws.{and_zero, differ-opposite, differing, neg-neg, opposite-differ, or_one}
use Rattle.gates.specs.Kind.{function_of, gate, inverted_if, join_of, rule_of}
use Rattle.gates.specs.Value.{differ, neg}
use Rattle.gates.specs.declared.kind.Gate.{Gate}
use Rattle.gates.specs.declared.kind.Gate.TheVariants.{And, Or, Wire, Xor}

pub refines_trans : (u v w : ℕ) → Refines u v → Refines v w → Refines u w
refines_trans u v w f g = λ h. f h ∙ g (omega (arith, f h))

-- one element set to the same value in both lists
pub set_mono : {vs ws : List ℕ} → RefinesAll vs ws → (k w : ℕ) → RefinesAll (set vs k w) (set ws k w)
set_mono rnil k w = rnil
set_mono (rcons h t) zero w = rcons (λ _. refl) t
set_mono (rcons h t) (suc k) w = rcons h (set_mono t k w)

-- what refines another value does not differ from it
pub refines_agree : (v w : ℕ) → Refines v w → differ v w ≡ false
refines_agree v w h = go (differ v w) refl
  where
    go : (b : Bool) → differ v w ≡ b → b ≡ false
    go true e = let d = differing v w e in absurd (d.apart (h d.left_known))
    go false e = refl

-- two values that differ still do where more is known
pub differ_mono : (v w x y : ℕ) → Refines v x → Refines w y → differ v w ≡ true → differ x y ≡ true
differ_mono v w x y f g e =
    let d = differing v w e in
    let p : v ≡ x = f d.left_known in
    let q : w ≡ y = g d.right_known in
    (λ i. differ (sym p i) (sym q i)) ∙ e

-- both values of a pin give the function one value z: then the function has it whatever the pin is
join_either : (g : Gate) (v w z : ℕ) → join_of g 0 w ≡ z → join_of g 1 w ≡ z → z < 2 → join_of g v w ≡ z
join_either Wire v w z e f h = absurd (omega arith)
join_either And v w z e f h = ap (join_of And v) (f ∙ sym e) ∙ and_zero v ∙ e
join_either Or v w z e f h = ap (join_of Or v) (e ∙ sym f) ∙ or_one v ∙ f
join_either Xor v zero z e f h = absurd (omega arith)
join_either Xor v (suc zero) z e f h = absurd (omega arith)
join_either Xor v (suc (suc w)) z e f h = absurd (omega arith)

-- the same of a later pin: a and b are the function of the later pins with the pin at 0 and at 1, w that without
join-later : (g : Gate) (v a b w z : ℕ) → join_of g v a ≡ z → join_of g v b ≡ z → z < 2 → ((y : ℕ) → a ≡ y → b ≡ y → y < 2 → w ≡ y) → join_of g v w ≡ z
join-later Wire v a b w z e f h k = e
join-later And zero a b w z e f h k = e
join-later And (suc zero) a b w z e f h k = k z e f h
join-later And (suc (suc v)) zero zero w z e f h k = ap (join_of And (suc (suc v))) (k 0 refl refl (omega arith)) ∙ e
join-later And (suc (suc v)) zero (suc b) w z e f h k = absurd (omega arith)
join-later And (suc (suc v)) (suc a) b w z e f h k = absurd (omega arith)
join-later Or zero a b w z e f h k = k z e f h
join-later Or (suc zero) a b w z e f h k = e
join-later Or (suc (suc v)) (suc zero) (suc zero) w z e f h k = ap (join_of Or (suc (suc v))) (k 1 refl refl (omega arith)) ∙ e
join-later Or (suc (suc v)) (suc zero) zero w z e f h k = absurd (omega arith)
join-later Or (suc (suc v)) (suc zero) (suc (suc b)) w z e f h k = absurd (omega arith)
join-later Or (suc (suc v)) zero b w z e f h k = absurd (omega arith)
join-later Or (suc (suc v)) (suc (suc a)) b w z e f h k = absurd (omega arith)
join-later Xor zero a b w z e f h k = k z e f h
join-later Xor (suc zero) a b w z e f h k = ap neg (k (neg z) (back a e) (back b f) (neg-binary z h)) ∙ neg-neg z h
  where
    back : (x : ℕ) → neg x ≡ z → x ≡ neg z
    back zero q = ap neg q
    back (suc zero) q = ap neg q
    back (suc (suc x)) q = absurd (omega arith)
join-later Xor (suc (suc v)) a b w z e f h k = absurd (omega arith)

function_either : (g : Gate) (vs : List ℕ) (k z : ℕ) → function_of g (set vs k 0) ≡ z → function_of g (set vs k 1) ≡ z → z < 2 → function_of g vs ≡ z
function_either g [] k z e f h = e
function_either g (v ∷ vs) zero z e f h = join_either g v (function_of g vs) z e f h
function_either g (v ∷ vs) (suc k) z e f h =
    join-later g v (function_of g (set vs k 0)) (function_of g (set vs k 1)) (function_of g vs) z e f h (function_either g vs k)

inverted_either : (i : Bool) (a b w z : ℕ) → inverted_if i a ≡ z → inverted_if i b ≡ z → z < 2 → ((y : ℕ) → a ≡ y → b ≡ y → y < 2 → w ≡ y) → inverted_if i w ≡ z
inverted_either true a b w z e f h k = join-later Xor 1 a b w z e f h k
inverted_either false a b w z e f h k = k z e f h

-- both values of a pin give one output: then the gate has it already
pub gate_either : (kind : ℕ) (vs : List ℕ) (k z : ℕ) → gate kind (set vs k 0) ≡ z → gate kind (set vs k 1) ≡ z → z < 2 → gate kind vs ≡ z
unfolding gate
gate_either kind vs k z e f h =
    let g = (rule_of kind).gate in
    inverted_either (rule_of kind).inverted (function_of g (set vs k 0)) (function_of g (set vs k 1)) (function_of g vs) z e f h (function_either g vs k)

-- so where the gate does not differ from o, it does not do so with both values of a pin
not_both : (kind : ℕ) (vs : List ℕ) (k o : ℕ) → differ (gate kind vs) o ≡ false → differ (gate kind (set vs k 0)) o ≡ true → differ (gate kind (set vs k 1)) o ≡ true → ⊥
not_both kind vs k o n a b =
    let h = (differing (gate kind (set vs k 0)) o a).right_known in
    let e = gate_either kind vs k (neg o) (opposite-differ (gate kind (set vs k 0)) o a) (opposite-differ (gate kind (set vs k 1)) o b) (neg-binary o h) in
    false≢true (sym n ∙ ap (λ (x : ℕ). differ x o) e ∙ differ-opposite o h)

pub not_against_both : (kind : ℕ) (vs : List ℕ) (k o w : ℕ) → w < 2 → differ (gate kind vs) o ≡ false
    → differ (gate kind (set vs k w)) o ≡ true → differ (gate kind (set vs k (neg w))) o ≡ true → ⊥
not_against_both kind vs k o zero h n a b = not_both kind vs k o n a b
not_against_both kind vs k o (suc zero) h n a b = not_both kind vs k o n b a
not_against_both kind vs k o (suc (suc w)) h n a b = omega arith
