-- A run of stores, where it does not fit, and where it stands in a part of a list.
use mathlib.Core.List.{List, [], ◌++◌, ◌∷◌, append-nil}
use mathlib.Core.Path.{◌∙◌, ◌≡◌, ap, refl, sym}
use Prim.Native.Nat.{◌+◌, ◌-◌, ◌<◌, ◌≤◌, min, suc, zero, ℕ}
use native.Mathlib.Decide.{dec_le}
use native.Mathlib.Nat.{min-le_left, min-le_right}
use native.Mathlib.Numerals.{add-one}
use native.Mathlib.Omega.{arith}
use lib.ListN.{drop, drop_of_length-le, length, length-drop, length-set, set, take, take-append-drop}
use borrow.Rule.Slice.PartMut.{mid_of, put_mid}
use lib.Seq.{length-take-le, set_out, sets, sets-eq, take_all, take-nil, take-suc}
use Rattle.values.specs.Lists.{at}

-- stores past the end do nothing
pub sets_past : (vs l : List ℕ) (i : ℕ) → length l ≤ i → l ≡ sets l i vs
sets_past [] l i h = refl
sets_past (v ∷ vs) l i h = sets_past vs l (suc i) (omega arith) ∙ ap (λ (r : List ℕ). sets r (suc i) vs) (sym (set_out l i v h))

-- stores behind what stands in front
set_behind : (p l : List ℕ) (i v : ℕ) → set (p ++ l) (length p + i) v ≡ p ++ set l i v
set_behind [] l i v = let e : 0 + i ≡ i = omega arith in ap (λ (k : ℕ). set l k v) e
set_behind (x ∷ p) l i v = let e : suc (length p) + i ≡ suc (length p + i) = omega arith in ap (λ (k : ℕ). set (x ∷ p ++ l) k v) e ∙ ap (λ (r : List ℕ). x ∷ r) (set_behind p l i v)

pub sets_behind : (vs p l : List ℕ) (i : ℕ) → sets (p ++ l) (length p + i) vs ≡ p ++ sets l i vs
sets_behind [] p l i = refl
sets_behind (v ∷ vs) p l i =
    let e : suc (length p + i) ≡ length p + suc i = omega arith in
    ap (λ (r : List ℕ). sets r (suc (length p + i)) vs) (set_behind p l i v)
    ∙ ap (λ (k : ℕ). sets (p ++ set l i v) k vs) e
    ∙ sets_behind vs p (set l i v) (suc i)

-- what is written from the start of the part that begins at a is written at a in the whole
pub sets_in_part : (vs l : List ℕ) (a : ℕ) → a ≤ length l → put_mid a (length l - a) l (sets (mid_of a (length l - a) l) 0 vs) ≡ sets l a vs
sets_in_part vs l a h =
    let m : length (drop a l) ≤ length l - a = omega (arith, length-drop a l) in
    let e : length (take a l) + 0 ≡ a = omega (arith, length-take-le a l h) in
    rw (take_all (length l - a) (drop a l) m, drop_of_length-le (drop a l) m, append-nil)
    (sym (sets_behind vs (take a l) (drop a l) 0) ∙ (λ i. sets (take-append-drop a l i) (e i) vs))

-- a run straight after a run is one run
pub sets-after : (us vs l : List ℕ) (a : ℕ) → sets (sets l a us) (a + length us) vs ≡ sets l a (us ++ vs)
sets-after [] vs l a = let e : a + 0 ≡ a = omega arith in ap (λ (k : ℕ). sets l k vs) e
sets-after (u ∷ us) vs l a = let e : a + suc (length us) ≡ suc a + length us = omega arith in ap (λ (k : ℕ). sets (sets (set l a u) (suc a) us) k vs) e ∙ sets-after us vs (set l a u) (suc a)

-- what has no room need not be stored
pub sets_room : (vs l : List ℕ) (i n : ℕ) → length l ≤ i + n → sets l i (take n vs) ≡ sets l i vs
sets_room [] l i n h = rw (take-nil {A = ℕ} n)
sets_room (v ∷ vs) l i zero h = sets_past (v ∷ vs) l i (omega arith)
sets_room (v ∷ vs) l i (suc n) h = sets_room vs (set l i v) (suc i) n (simp length-set (omega arith))

-- a list that is as long is stored whole
pub sets-whole : (vs l : List ℕ) → length l ≡ length vs → sets l 0 vs ≡ vs
sets-whole vs l e =
    let h : 0 + length vs ≤ length l = omega arith in
    let g : length l ≤ 0 + length vs = omega arith in
    sets-eq vs l 0 h ∙ rw (drop_of_length-le l g) (append-nil vs)

-- one turn of a loop that copies
pub copied_more : (vs l : List ℕ) (i : ℕ) → i < length vs → set (sets l 0 (take i vs)) i (at vs i) ≡ sets l 0 (take (i + 1) vs)
copied_more vs l i h =
    let k : i ≤ length vs = omega arith in
    let e : i ≡ 0 + length (take i vs) = omega (arith, length-take-le i vs k) in
    ap (λ (j : ℕ). set (sets l 0 (take i vs)) j (at vs i)) e
    ∙ sets-after (take i vs) (at vs i ∷ []) l 0
    ∙ ap (λ (r : List ℕ). sets l 0 r) (sym (take-suc vs i 0 h))
    ∙ rw add-one

-- a copy of all that there is room for
pub copied : (vs l : List ℕ) (i : ℕ) → min (length vs) (length l) ≤ i → sets l 0 (take i vs) ≡ sets l 0 vs
copied vs l i h = elim (dec_le (length vs) i) [
  | yes p ↦ rw (take_all i vs p)
  | no q ↦ sets_room vs l 0 i (omega (arith, q, h, min-le_left (length vs) (length l)))
]

-- as much as there is room for, put in front of the rest
pub front_copied : (vs l : List ℕ) (n : ℕ) → min (length vs) (length l) ≡ n → take n vs ++ drop n l ≡ sets l 0 vs
front_copied vs l n e =
    let k : n ≤ length vs = omega (arith, e, min-le_left (length vs) (length l)) in
    let m : n ≤ length l = omega (arith, e, min-le_right (length vs) (length l)) in
    let t : length (take n vs) ≡ n = length-take-le n vs k in
    let z : 0 + length (take n vs) ≡ n = omega (arith, t) in
    (λ i. take n vs ++ drop (sym z i) l) ∙ sym (sets-eq (take n vs) l 0 (omega (arith, t, m))) ∙ copied vs l n (omega (arith, e))
