-- The walk that `fault_after` makes for any bytes is the walk through the fault list, where the netlist is sound.
use mathlib.Core.Bool.{cond, true}
use mathlib.Core.List.{List, [], ◌∷◌}
use mathlib.Core.Path.{◌∙◌, ◌≡◌, ap, refl}
use Prim.Native.Nat.{min, ◌+◌, ◌<◌, ◌≤◌, suc, zero, ℕ}
use native.Mathlib.Omega.{arith}
use borrow.Author.Tests.{leb-true, lt-ltb}
use lib.Dec.{leb, ltb}
use lib.ListN.{length, length-take, take}
use lib.Seq.{take_all}
use Rattle.values.proofs.ListLaws.{every-at}
use Rattle.gates.specs.Kind.{rule_of}
use Rattle.values.specs.Lists.{every}
use Rattle.netlist.proofs.NetlistLaws.{pins-length}
use Rattle.netlist.proofs.SoundLaws.{facts, sound-size}
use Rattle.std.specs.Prelude.{None, Some}
use Rattle.circuit.specs.Fault.{fault, fault_exists}
use Rattle.netlist.specs.Netlist.{Net, kind_of, net_of, node_count, pin_count, reading, sound}
use Rattle.circuit.specs.declared.fault.Fault.{Fault}
use Rattle.circuit.specs.declared.fault.Site.{Site}
use Rattle.circuit.specs.declared.fault.Site.TheVariants.{Pin, Whole}
use Rattle.fault_list.proofs.FaultListLaws.{exists-node}
use Rattle.fault_list.specs.Faults.{behind_site, fault_after, first_of, first_site, follows_at}
use Rattle.fault_list.specs.Inner.Walk.{listed, named, next_fault, pin_numbers}

module _ (net : Net) where
  -- of the pins of a node as many are named as there are numbers for, or all
  pub named-same : (n : ℕ) → length (net.pins n) ≤ pin_numbers → length ((named net).pins n) ≡ length (net.pins n)
  unfolding named
  named-same n h = ap length (take_all pin_numbers (net.pins n) h)

  pub named_count : (n count : ℕ) → count ≡ length (net.pins n) → min count pin_numbers ≡ length ((named net).pins n)
  unfolding named
  named_count n count e = simp length-take (omega arith)

  pub named-few : (n : ℕ) → length ((named net).pins n) ≤ pin_numbers
  unfolding named
  named-few n = simp length-take (omega arith)

  -- the first fault of a node is the same in any case
  pub first-named : (n : ℕ) → first_of (named net) n ≡ first_of net n
  unfolding first_of named
  first-named n = go (net.pins n)
    where
      go : (l : List ℕ) → fault n (first_site (length (take pin_numbers l))) 0 ≡ fault n (first_site (length l)) 0
      go [] = refl
      go (x ∷ l) =
          let h : 0 < length (take pin_numbers (x ∷ l)) = omega arith in
          let g : 0 < length (x ∷ l) = omega arith in
          rw (lt-ltb 0 (length (take pin_numbers (x ∷ l))) h, lt-ltb 0 (length (x ∷ l)) g)

  -- behind stuck value 1 comes the next site, or the next node
  pub next_behind : (f : Fault) → f.node < net.size → (f.stuck ≡ 0 → ⊥) → next_fault net f ≡ behind_site (named net) f.node f.site
  unfolding next_fault follows_at
  next_behind f h g = rw (lt-ltb f.node net.size h) (go f.stuck g)
    where
      go : (u : ℕ) → (u ≡ 0 → ⊥) → follows_at (named net) f.node f.site u ≡ behind_site (named net) f.node f.site
      go zero g = absurd (g refl)
      go (suc u) g = refl

  -- the first fault of a node, where the circuit has it
  listed_first : (n : ℕ) → listed net (first_of net n) ≡ cond (ltb n net.size) (Some (first_of net n)) None
  unfolding first_of
  listed_first n = refl

  -- behind a node comes the first fault of the next one, where there is one
  pub node_behind : (f : Fault) → f.node < net.size → (f.stuck ≡ 0 → ⊥) → f.site ≡ Whole
      → listed net (next_fault net f) ≡ cond (ltb (f.node + 1) net.size) (Some (first_of net (f.node + 1))) None
  unfolding behind_site
  node_behind f h g e =
      ap (listed net) (next_behind f h g ∙ ap (behind_site (named net) f.node) e ∙ first-named (f.node + 1)) ∙ listed_first (f.node + 1)

  -- the fault that follows is that of the list, where all pins of its node can be named
  pub next-after : (f : Fault) → f.node < net.size → length (net.pins f.node) ≤ pin_numbers → next_fault net f ≡ fault_after net f
  unfolding next_fault follows_at behind_site
  next-after f h g = rw (lt-ltb f.node net.size h) (go f.node f.site f.stuck g)
    where
      go : (n : ℕ) (s : Site) (u : ℕ) → length (net.pins n) ≤ pin_numbers → follows_at (named net) n s u ≡ follows_at net n s u
      go n s zero g = refl
      go n (Pin k) (suc u) g = rw (named-same n g)
      go n Whole (suc u) g = first-named (n + 1)

-- all pins of a kind can be named
rule-few : (k : ℕ) → k ≤ 10 → (rule_of k).most ≤ pin_numbers
unfolding rule_of every
rule-few k h = leb-true (rule_of k).most pin_numbers (every-at (λ k. leb (rule_of k).most pin_numbers) 11 refl k (omega arith))

pub next-sound : (nb : List ℕ) (f : Fault) → reading nb ≡ sound (node_count nb) (pin_count nb) → fault_exists (net_of nb) f ≡ true
    → next_fault (net_of nb) f ≡ fault_after (net_of nb) f
next-sound nb f e h =
    let i = exists-node (net_of nb) f h in
    let F = facts nb (node_count nb) (pin_count nb) e in
    let here : f.node < node_count nb = omega (arith, sound-size nb (node_count nb) (pin_count nb) e) in
    next-after (net_of nb) f i
    (omega (arith, pins-length nb f.node, F.count_most f.node here, rule-few (kind_of nb f.node) (F.kind_known_lem f.node here)))
