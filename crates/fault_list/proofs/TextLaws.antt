-- What holds of text: numbers in decimal, and runs of bytes that are written one after the other.
use mathlib.Core.List.{List, [], ◌++◌, ◌∷◌}
use mathlib.Core.Path.{◌∙◌, ◌≡◌, ap, sym}
use Prim.Native.Nat.{◌%◌, ◌*◌, ◌+◌, ◌/◌, ◌<◌, ◌≤◌, suc, zero, ℕ}
use native.Mathlib.Decide.{dec_lt}
use native.Mathlib.Numerals.{add-one}
use native.Mathlib.Omega.{arith}
use borrow.Author.Tests.{le-ltb, lt-ltb}
use lib.ListN.{drop, get_or, length, length-append, length-take, set, take}
use lib.Seq.{sets, sets-eq, take_all, take-append-le, take-suc}
use Rattle.fault_list.specs.Inner.Put.{Put, field_length, number_length, put, put_at}
use Rattle.fault_list.specs.Text.{decimal, digit, digits, field}
use Rattle.values.proofs.SetsLaws.{sets-after}

-- one byte more
pub byte-after : (us l : List ℕ) (a b : ℕ) → set (sets l a us) (a + length us) b ≡ sets l a (us ++ (b ∷ []))
byte-after us l a b = sets-after us (b ∷ []) l a

-- a text, and a byte straight after it
pub put_more : (us l : List ℕ) (a b : ℕ) {m k : List ℕ} {r : ℕ} → put r m ≡ put_at l a us → k ≡ set m (a + r) b → put (r + 1) k ≡ put_at l a (us ++ (b ∷ []))
put_more us l a b {m} {k} {r} p e =
    let q : r ≡ length us = ap (λ (t : Put). t.length) p in
    let h : m ≡ sets l a us = ap (λ (t : Put). t.bytes) p in
    let n : r + 1 ≡ length (us ++ (b ∷ [])) = simp length-append (omega arith) in
    let w : k ≡ sets l a (us ++ (b ∷ [])) = e ∙ rw (h, q) (byte-after us l a b) in
    λ i. put (n i) (w i)

-- a run us stands from a on, up to b, in m, which is otherwise l
pub record Run (l : List ℕ) (a : ℕ) (us m : List ℕ) (b : ℕ) : Type 0 where
  pub holds : m ≡ sets l a us
  pub ends : b ≡ a + length us

-- a text that was put is a run
pub run-put : (l : List ℕ) (a : ℕ) (us : List ℕ) {m : List ℕ} {r b : ℕ} → put r m ≡ put_at l a us → b ≡ a + r → Run l a us m b
run-put l a us p e = record { holds = ap (λ (t : Put). t.bytes) p; ends = e ∙ ap (λ (t : Put). a + t.length) p }

pub runs : {l m k : List ℕ} {a b d : ℕ} {us vs : List ℕ} → Run l a us m b → Run m b vs k d → Run l a (us ++ vs) k d
runs {l} {m} {k} {a} {b} {d} {us} {vs} p q =
    record {
      holds = q.holds ∙ rw (p.holds, p.ends) (sets-after us vs l a);
      ends = simp length-append (omega (arith, p.ends, q.ends));
    }

-- one byte more of a text
pub text_more : (t l : List ℕ) (a i : ℕ) → i < length t → set (sets l a (take i t)) (a + i) (get_or t i 0) ≡ sets l a (take (i + 1) t)
text_more t l a i h =
    let e : length (take i t) ≡ i = simp length-take (omega arith) in
    ap (λ (j : ℕ). set (sets l a (take i t)) (a + j) (get_or t i 0)) (sym e)
    ∙ byte-after (take i t) l a (get_or t i 0)
    ∙ ap (λ (r : List ℕ). sets l a r) (sym (ap (λ (j : ℕ). take j t) (add-one i) ∙ take-suc t i 0 h))

-- a number of one digit, and of more
digits_one : (k n : ℕ) → n < 10 → digits (suc k) n ≡ digit n ∷ []
unfolding digits
digits_one k n h = rw (lt-ltb n 10 h, digits)

digits_more : (k n : ℕ) → 10 ≤ n → digits (suc k) n ≡ digits k (n / 10) ++ (digit (n % 10) ∷ [])
unfolding digits
digits_more k n h = rw (le-ltb n 10 h, digits)

-- more room than digits makes no difference
digits_enough : (k m n : ℕ) → n < k → n < m → digits k n ≡ digits m n
digits_enough zero m n h g = absurd (omega arith)
digits_enough (suc k) zero n h g = absurd (omega arith)
digits_enough (suc k) (suc m) n h g = go (dec_lt n 10) (λ a b. digits_enough k m (n / 10) a b)
  where
    go : Dec (n < 10) → (n / 10 < k → n / 10 < m → digits k (n / 10) ≡ digits m (n / 10)) → digits (suc k) n ≡ digits (suc m) n
    go (yes p) r = digits_one k n p ∙ sym (digits_one m n p)
    go (no p) r =
        let q : 10 ≤ n = omega arith in
        digits_more k n q ∙ ap (λ (ds : List ℕ). ds ++ (digit (n % 10) ∷ [])) (r (omega arith) (omega arith)) ∙ sym (digits_more m n q)

pub decimal_one : (n : ℕ) → n < 10 → decimal n ≡ digit n ∷ []
unfolding decimal
decimal_one n h = digits_one n n h

pub decimal_more : (n : ℕ) → 10 ≤ n → decimal n ≡ decimal (n / 10) ++ (digit (n % 10) ∷ [])
unfolding decimal
decimal_more n h =
    digits_more n n h ∙ ap (λ (ds : List ℕ). ds ++ (digit (n % 10) ∷ [])) (digits_enough n (suc (n / 10)) (n / 10) (omega arith) (omega arith))

-- the smallest number of j + 2 digits
abbrev tens : ℕ → ℕ
tens zero = 10
tens (suc j) = 10 * tens j

short : (j n : ℕ) → n < tens j → length (decimal n) ≤ suc j
short zero n h = rw (decimal_one n h) (omega arith)
short (suc j) n h = go (dec_lt n 10) (λ a. short j (n / 10) a)
  where
    go : Dec (n < 10) → (n / 10 < tens j → length (decimal (n / 10)) ≤ suc j) → length (decimal n) ≤ suc (suc j)
    go (yes p) r = rw (decimal_one n p) (omega arith)
    go (no p) r =
        let q : 10 ≤ n = omega arith in
        let a : n / 10 < tens j = omega arith in
        let b : length (decimal (n / 10)) ≤ suc j = r a in
        rw (decimal_more n q, length-append) (omega arith)

-- a number of 32 bits has at most 10 digits
pub decimal-short : (n : ℕ) → n < 4294967296 → length (decimal n) ≤ number_length
decimal-short n h = short 9 n (omega arith)

-- what was written at a slice's start can be read there
pub line_read : (us l : List ℕ) → length us ≤ length l → take (length us) (sets l 0 us) ≡ us
line_read us l h =
    let g : 0 + length us ≤ length l = omega arith in
    let k : length us ≤ length us = omega arith in
    ap (λ (r : List ℕ). take (length us) r) (sets-eq us l 0 g) ∙ take-append-le (length us) us (drop (0 + length us) l) k ∙ take_all (length us) us k

pub field-short : (n b : ℕ) → n < 4294967296 → length (field n b) ≤ field_length
unfolding field
field-short n b h = let d : length (decimal n) ≤ number_length = decimal-short n h in simp length-append (omega arith)
