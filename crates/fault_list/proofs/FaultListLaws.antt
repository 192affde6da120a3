-- The walk through the fault list: each fault is followed by the next of the list, and by none behind the last.
use mathlib.Core.Bool.{Bool, ◌&&◌, cond, true}
use mathlib.Core.List.{List, [], ◌++◌, ◌∷◌}
use mathlib.Core.Path.{◌∙◌, ◌≡◌, ap, refl, sym}
use Prim.Native.Nat.{◌*◌, ◌+◌, ◌-◌, ◌<◌, ◌≤◌, suc, zero, ℕ}
use native.Mathlib.Decide.{dec_lt}
use native.Mathlib.Nat.{sub-zero}
use native.Mathlib.Omega.{arith}
use borrow.Author.Tests.{le-leb, le-ltb, leb-true, lt-ltb, ltb-true}
use lib.Dec.{leb, ltb}
use lib.ListN.{length, length-append}
use Rattle.values.proofs.BoolLaws.{and_left, and_right}
use Rattle.netlist.proofs.NetlistLaws.{pins-length}
use Rattle.netlist.proofs.SoundLaws.{Facts}
use Rattle.circuit.specs.Fault.{fault, fault_exists, site_exists}
use Rattle.netlist.specs.Netlist.{Net, length_of, net_of, node_count, offset_of, pin_count}
use Rattle.circuit.specs.declared.fault.Fault.{Fault}
use Rattle.circuit.specs.declared.fault.Site.{Site}
use Rattle.circuit.specs.declared.fault.Site.TheVariants.{Pin, Whole}
use Rattle.fault_list.specs.Faults.{behind_site, fault_after, faults, faults_of, first_of, follows_at, node_faults, pin_faults, rest_after, rest_of_node, site_faults}

-- what it says of a fault that it exists
module _ (net : Net) (f : Fault) (e : fault_exists net f ≡ true) where
  abbrev node-test : Bool
  node-test = ltb f.node net.size

  abbrev site_test : Bool
  site_test = site_exists f.site (length (net.pins f.node))

  abbrev stuck-test : Bool
  stuck-test = leb f.stuck 1

  opened : (node-test && (site_test && stuck-test)) ≡ true
  unfolding fault_exists
  opened = e

  pub exists-node : f.node < net.size
  exists-node = ltb-true f.node net.size (and_left node-test (site_test && stuck-test) opened)

  pub exists_site : site_exists f.site (length (net.pins f.node)) ≡ true
  exists_site = and_left site_test stuck-test (and_right node-test (site_test && stuck-test) opened)

  pub exists-stuck : f.stuck ≤ 1
  exists-stuck = leb-true f.stuck 1 (and_right site_test stuck-test (and_right node-test (site_test && stuck-test) opened))

pub exists-by : (net : Net) (n : ℕ) (s : Site) (u : ℕ) → n < net.size → site_exists s (length (net.pins n)) ≡ true → u ≤ 1 → fault_exists net (fault n s u) ≡ true
unfolding fault_exists
exists-by net n s u h e g = rw (lt-ltb n net.size h, e, le-leb u 1 g)

-- the first site of a node with m pins that comes at k or later
abbrev site_from : ℕ → ℕ → Site
site_from m k = cond (ltb k m) (Pin k) Whole

-- the pins from k on
pins_more : (n k m : ℕ) → k < m → pin_faults n k (m - k) ≡ site_faults n (Pin k) ++ pin_faults n (k + 1) (m - (k + 1))
unfolding pin_faults
pins_more n k m h = let e : m - k ≡ suc (m - (k + 1)) = omega arith in rw e

pins-none : (n k m : ℕ) → m ≤ k → pin_faults n k (m - k) ≡ []
unfolding pin_faults
pins-none n k m h = let e : m - k ≡ 0 = omega arith in rw e

-- m pins have twice as many faults
pin-count : (n k m : ℕ) → length (pin_faults n k m) ≡ 2 * m
unfolding pin_faults
pin-count n k zero = refl
pin-count n k (suc m) = let e : length (pin_faults n (k + 1) m) ≡ 2 * m = pin-count n (k + 1) m in omega arith

module _ (net : Net) where
  -- the nodes from n on
  nodes_more : (n : ℕ) → n < net.size → faults_of net n (net.size - n) ≡ node_faults net n ++ faults_of net (n + 1) (net.size - (n + 1))
  unfolding faults_of
  nodes_more n h = let e : net.size - n ≡ suc (net.size - (n + 1)) = omega arith in rw e

  nodes-none : (n : ℕ) → net.size ≤ n → faults_of net n (net.size - n) ≡ []
  unfolding faults_of
  nodes-none n h = let e : net.size - n ≡ 0 = omega arith in rw e

  -- the sites from k on: the first of them, and the rest
  from_site : (n k : ℕ)
      → pin_faults n k (length (net.pins n) - k) ++ site_faults n Whole ≡ site_faults n (site_from (length (net.pins n)) k) ++ rest_of_node net n (site_from (length (net.pins n)) k)
  from_site n k = go (dec_lt k (length (net.pins n)))
    where
      m : ℕ
      m = length (net.pins n)

      go : Dec (k < m) → pin_faults n k (m - k) ++ site_faults n Whole ≡ site_faults n (site_from m k) ++ rest_of_node net n (site_from m k)
      go (yes p) = rw (lt-ltb k m p, pins_more n k m p)
      go (no p) = let q : m ≤ k = omega arith in rw (le-ltb k m q, pins-none n k m q)

  from_exists : (n k : ℕ) → n < net.size → fault_exists net (fault n (site_from (length (net.pins n)) k) 0) ≡ true
  from_exists n k h = go (dec_lt k (length (net.pins n)))
    where
      m : ℕ
      m = length (net.pins n)

      go : Dec (k < m) → fault_exists net (fault n (site_from m k) 0) ≡ true
      go (yes p) = rw (lt-ltb k m p) (exists-by net n (Pin k) 0 h (lt-ltb k m p) (omega arith))
      go (no p) = let q : m ≤ k = omega arith in rw (le-ltb k m q) (exists-by net n Whole 0 h refl (omega arith))

  -- a fault and those behind it, where the circuit has its node
  abbrev pub list_from : Fault → List Fault
  list_from f = cond (ltb f.node net.size) (f ∷ rest_after net f) []

  -- the list from node n on starts with the first fault of node n
  pub first_rest : (n : ℕ) → n < net.size → faults_of net n (net.size - n) ≡ first_of net n ∷ rest_after net (first_of net n)
  unfolding first_of rest_after node_faults
  first_rest n h =
      nodes_more n h
      ∙ ap (λ (m : ℕ). (pin_faults n 0 m ++ site_faults n Whole) ++ faults_of net (n + 1) (net.size - (n + 1))) (sym (sub-zero (length (net.pins n))))
      ∙ ap (λ (l : List Fault). l ++ faults_of net (n + 1) (net.size - (n + 1))) (from_site n 0)

  -- behind a fault come the next one and what is behind that
  pub rest-step : (n : ℕ) (s : Site) (u : ℕ) → n < net.size → u ≤ 1 → rest_after net (fault n s u) ≡ list_from (follows_at net n s u)
  unfolding rest_after follows_at behind_site first_of
  rest-step n s zero h g = rw (lt-ltb n net.size h)
  rest-step n (Pin k) (suc zero) h g =
      ap (λ (l : List Fault). l ++ faults_of net (n + 1) (net.size - (n + 1))) (from_site n (k + 1)) ∙ rw (lt-ltb n net.size h)
  rest-step n Whole (suc zero) h g = go (dec_lt (n + 1) net.size)
    where
      go : Dec (n + 1 < net.size) → faults_of net (n + 1) (net.size - (n + 1)) ≡ list_from (first_of net (n + 1))
      go (yes p) = rw (lt-ltb (n + 1) net.size p) (first_rest (n + 1) p)
      go (no p) = let q : net.size ≤ n + 1 = omega arith in rw (le-ltb (n + 1) net.size q) (nodes-none (n + 1) q)
  rest-step n s (suc (suc u)) h g = absurd (omega arith)

  first-node : (n : ℕ) → (first_of net n).node < net.size → n < net.size
  unfolding first_of
  first-node n h = h

  -- the first fault of a node exists
  pub first-exists : (n : ℕ) → n < net.size → fault_exists net (first_of net n) ≡ true
  unfolding first_of
  first-exists n h = from_exists n 0 h

  -- the fault that follows exists, unless it is behind the last
  pub next-exists : (f : Fault) → fault_exists net f ≡ true → (fault_after net f).node < net.size → fault_exists net (fault_after net f) ≡ true
  unfolding follows_at behind_site
  next-exists f e = go f.node f.site f.stuck (exists-node net f e) (exists_site net f e) (exists-stuck net f e)
    where
      go : (n : ℕ) (s : Site) (u : ℕ) → n < net.size → site_exists s (length (net.pins n)) ≡ true → u ≤ 1
          → (follows_at net n s u).node < net.size → fault_exists net (follows_at net n s u) ≡ true
      go n s zero h q g l = exists-by net n s 1 h q (omega arith)
      go n (Pin k) (suc zero) h q g l = from_exists n (k + 1) h
      go n Whole (suc zero) h q g l = first-exists (n + 1) (first-node (n + 1) l)
      go n s (suc (suc u)) h q g l = absurd (omega arith)

-- a node has two faults, and two more for each pin
node-count : (nb : List ℕ) (n : ℕ) → length (node_faults (net_of nb) n) ≡ 2 * length_of nb n + 2
unfolding node_faults
node-count nb n =
    let p = pin-count n 0 (length ((net_of nb).pins n)) in
    simp length-append (omega (arith, pins-length nb n))

one_more_lem : (net : Net) (n m : ℕ) → length (faults_of net n (suc m)) ≡ length (node_faults net n) + length (faults_of net (n + 1) m)
unfolding faults_of
one_more_lem net n m = length-append (node_faults net n) (faults_of net (n + 1) m)

no_more : (net : Net) (n : ℕ) → length (faults_of net n 0) ≡ 0
unfolding faults_of
no_more net n = refl

-- So a sound netlist has 2 × (N + P) faults.
module _ (nb : List ℕ) (f : Facts nb (node_count nb) (pin_count nb)) where
  -- the faults of the last m + 1 nodes, of which n is the first
  count_from : (m n : ℕ) → n + suc m ≡ node_count nb → length (faults_of (net_of nb) n (suc m)) + 2 * offset_of nb n ≡ 2 * suc m + 2 * pin_count nb
  count_from zero n h = omega (arith, one_more_lem (net_of nb) n 0, no_more (net_of nb) (n + 1), node-count nb n, f.last_ends n (omega arith))
  count_from (suc m) n h =
      omega (arith, one_more_lem (net_of nb) n (suc m), node-count nb n, f.joined n (omega arith), count_from m (n + 1) (omega arith))

  pub fault-count : length (faults (net_of nb)) ≡ 2 * (node_count nb + pin_count nb)
  unfolding net_of
  fault-count =
      let e : node_count nb ≡ suc (node_count nb - 1) = omega (arith, f.some_node) in
      let l = count_from (node_count nb - 1) 0 (omega arith) in
      ap (λ (m : ℕ). length (faults_of (net_of nb) 0 m)) e ∙ omega (arith, l, f.first_offset)
