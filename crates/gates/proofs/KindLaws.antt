-- Laws of the kinds: which number names which.
use Rattle.std.proofs.Common.{◌∙◌, ◌≡◌, ◌<◌, ◌≤◌, Err, Ok, Result, ap, arith, false, is_ok, map, refl, suc, sym, true, zero, ℕ}
use borrow.Author.Tests.{leb-false, lt-leb, ne_eqb}
use lib.Dec.{eqb}
use lib.ListN.{get_or-eq_default}
use mathlib.Core.Logic.{⊎_elim}
use mathlib.Core.Path.{subst}
use native.Mathlib.Nat.{eq-or-lt_of_le}
use Rattle.gates.specs.Kind.{is_given, is_kind, kind_named, kinds, last_kind, most_pins, number_of, rule, rule_of, rules}
use Rattle.gates.specs.declared.kind.Gate.TheVariants.{And, Or, Wire, Xor}
use Rattle.gates.specs.declared.kind.Kind.{Kind}
use Rattle.gates.specs.declared.kind.Kind.TheVariants as kind
use Rattle.gates.specs.declared.kind.UnknownKind.{UnknownKind}

-- past the last kind's number stands none
pub named_none : (k : ℕ) → last_kind < k → kind_named k ≡ Err (record { 0 = k })
unfolding kind_named
named_none k h = get_or-eq_default (map Ok kinds) (Err (record { 0 = k })) h

-- each kind is named by its number
pub named_number : (kind : Kind) → kind_named (number_of kind) ≡ Ok kind
unfolding kind_named
named_number kind.Input = refl
named_number kind.Output = refl
named_number kind.FlipFlop = refl
named_number kind.Buffer = refl
named_number kind.Not = refl
named_number kind.And = refl
named_number kind.Nand = refl
named_number kind.Or = refl
named_number kind.Nor = refl
named_number kind.Xor = refl
named_number kind.Xnor = refl

-- the number of a kind is at most the last one
kind_is : (kind : Kind) → is_kind (number_of kind) ≡ true
kind_is kind.Input = refl
kind_is kind.Output = refl
kind_is kind.FlipFlop = refl
kind_is kind.Buffer = refl
kind_is kind.Not = refl
kind_is kind.And = refl
kind_is kind.Nand = refl
kind_is kind.Or = refl
kind_is kind.Nor = refl
kind_is kind.Xor = refl
kind_is kind.Xnor = refl

-- the number that was read, kind or not
abbrev pub code_of : Result Kind UnknownKind → ℕ
code_of (Ok kind) = number_of kind
code_of (Err unknown) = unknown.0

-- what is shown of each number up to 10, and of those above
by_number : (P : ℕ → Type 0) → ((kind : Kind) → P (number_of kind)) → ((k : ℕ) → last_kind < k → P k) → (k : ℕ) → P k
by_number P f g zero = f kind.Input
by_number P f g (suc zero) = f kind.Output
by_number P f g (suc (suc zero)) = f kind.FlipFlop
by_number P f g (suc (suc (suc zero))) = f kind.Buffer
by_number P f g (suc (suc (suc (suc zero)))) = f kind.Not
by_number P f g (suc (suc (suc (suc (suc zero))))) = f kind.And
by_number P f g (suc (suc (suc (suc (suc (suc zero)))))) = f kind.Nand
by_number P f g (suc (suc (suc (suc (suc (suc (suc zero))))))) = f kind.Or
by_number P f g (suc (suc (suc (suc (suc (suc (suc (suc zero)))))))) = f kind.Nor
by_number P f g (suc (suc (suc (suc (suc (suc (suc (suc (suc zero))))))))) = f kind.Xor
by_number P f g (suc (suc (suc (suc (suc (suc (suc (suc (suc (suc zero)))))))))) = f kind.Xnor
by_number P f g (suc (suc (suc (suc (suc (suc (suc (suc (suc (suc (suc k))))))))))) = g _ (omega arith)

pub code_named : (k : ℕ) → code_of (kind_named k) ≡ k
code_named = by_number (λ (k : ℕ). code_of (kind_named k) ≡ k) (λ kind. ap code_of (named_number kind)) (λ k h. ap code_of (named_none k h))

-- what is named has its number
pub named_kind : (k : ℕ) (kind : Kind) → kind_named k ≡ Ok kind → number_of kind ≡ k
named_kind k kind e = sym (ap code_of e) ∙ code_named k

-- and only kinds are named
pub named_known : (k : ℕ) → is_ok (kind_named k) ≡ is_kind k
named_known = by_number (λ (k : ℕ). is_ok (kind_named k) ≡ is_kind k) (λ kind. ap is_ok (named_number kind) ∙ sym (kind_is kind)) (λ k h. ap is_ok (named_none k h) ∙ sym (lt-leb k last_kind h))

-- a number that names no kind is given nothing
above_kinds : (k : ℕ) (unknown : UnknownKind) → kind_named k ≡ Err unknown → last_kind < k
above_kinds k unknown e = leb-false k last_kind (sym (named_known k) ∙ ap is_ok e)

pub given_none : (k : ℕ) (unknown : UnknownKind) → kind_named k ≡ Err unknown → is_given k ≡ false
given_none k unknown e =
    let h = above_kinds k unknown e in
    rw (ne_eqb k 0 (λ q. omega arith), ne_eqb k 2 (λ q. omega arith))

-- The rows of the table, by ranges of kind numbers.

-- a fact of a and of a + 1 is one of each number between them
pub either_of : (P : ℕ → Type 0) (a k : ℕ) → a ≤ k → k ≤ suc a → P a → P (suc a) → P k
either_of P a k h g p q = ⊎_elim (λ e. subst P e p) (λ l. let e : suc a ≡ k = omega arith in subst P e q) (eq-or-lt_of_le h)

-- output, flip-flop, buffer, NOT
pub rule_one_pin : (k : ℕ) → 1 ≤ k → k ≤ 4 → rule_of k ≡ rule 1 1 Wire (eqb k 4)
unfolding rule_of
rule_one_pin zero h g = absurd (omega arith)
rule_one_pin (suc zero) h g = refl
rule_one_pin (suc (suc zero)) h g = refl
rule_one_pin (suc (suc (suc zero))) h g = refl
rule_one_pin (suc (suc (suc (suc zero)))) h g = refl
rule_one_pin (suc (suc (suc (suc (suc k))))) h g = absurd (omega arith)

-- AND, NAND
pub rule_and : (k : ℕ) → 5 ≤ k → k ≤ 6 → rule_of k ≡ rule 2 most_pins And (eqb k 6)
unfolding rule_of
rule_and k h g = either_of (λ (k : ℕ). rule_of k ≡ rule 2 most_pins And (eqb k 6)) 5 k h g refl refl

-- OR, NOR
pub rule_or : (k : ℕ) → 7 ≤ k → k ≤ 8 → rule_of k ≡ rule 2 most_pins Or (eqb k 8)
unfolding rule_of
rule_or k h g = either_of (λ (k : ℕ). rule_of k ≡ rule 2 most_pins Or (eqb k 8)) 7 k h g refl refl

-- XOR, XNOR
pub rule_xor : (k : ℕ) → 9 ≤ k → k ≤ 10 → rule_of k ≡ rule 2 2 Xor (eqb k 10)
unfolding rule_of
rule_xor k h g = either_of (λ (k : ℕ). rule_of k ≡ rule 2 2 Xor (eqb k 10)) 9 k h g refl refl

-- no kind
pub rule-none : (k : ℕ) → last_kind < k → rule_of k ≡ rule 1 0 Wire false
unfolding rule_of
rule-none k h = get_or-eq_default rules (rule 1 0 Wire false) h
