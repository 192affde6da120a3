-- What a netlist that the reader finds sound guarantees; and that nothing else is asked of it.
use mathlib.Core.Bool.{Bool, ◌&&◌, cond, false, not, true}
use mathlib.Core.List.{List}
use mathlib.Core.Option.{Option, none, some}
use mathlib.Core.Path.{◌∙◌, ◌≡◌, refl, sym}
use Prim.Native.Nat.{◌*◌, ◌+◌, ◌-◌, ◌<◌, ◌≤◌, suc, zero, ℕ}
use native.Mathlib.Numerals.{add-one}
use native.Mathlib.Omega.{arith}
use lib.Dec.{eqb, leb, ltb}
use lib.ListN.{length}
use borrow.Author.Tests.{eqb-false, eqb-true, eq-eqb, le-leb, leb-true, lt-ltb, ltb-true, ne_eqb, not-true}
use Rattle.values.proofs.BoolLaws.{and_left, and_right}
use Rattle.values.proofs.ListLaws.{every-at, every-by}
use Rattle.netlist.proofs.NetlistLaws.{read_sound}
use Rattle.netlist.proofs.RefusalLaws.{FirstFails, NoneSmaller, Passed, refusal_none, refusal_above, refusal_smallest, refusal_some}
use Rattle.netlist.specs.Answer.{answered, refusal, refused}
use Rattle.gates.specs.Kind.{is_flip_flop, is_output, last_kind, rule_of}
use Rattle.values.specs.Lists.{every}
use Rattle.netlist.specs.Netlist.{kind_of, length_of, most_nodes, most_pins_in_all, net_of, node_count, offset_of, pair_start, pin_count, source_of}
use Rattle.netlist.specs.Netlist.{count_fits, kind_known, pair_joined, reader_tests, reading, sizes_allowed, sound, source_allowed, sources_allowed}

-- A sound netlist, in 01's words: N and P are within their limits, and the bytes are as many as they say. Kinds are known,
-- pairs are joined, pin counts fit the kinds, and each pin's source is a node, no output, and smaller unless the pin is a flip-flop's.
pub record Facts (bs : List ℕ) (n p : ℕ) : Type 0 where
  pub nodes : n ≡ node_count bs
  pub pins : p ≡ pin_count bs
  pub some_node : 0 < n
  pub few_nodes : n ≤ most_nodes
  pub few_pins : p ≤ most_pins_in_all
  pub size : length bs ≡ 4 + 5 * n + 2 * p
  pub kind_known_lem : (i : ℕ) → i < n → kind_of bs i ≤ last_kind
  pub first_offset : offset_of bs 0 ≡ 0
  pub joined : (i : ℕ) → i + 1 < n → offset_of bs (i + 1) ≡ offset_of bs i + length_of bs i
  pub last_ends : (i : ℕ) → i + 1 ≡ n → offset_of bs i + length_of bs i ≡ p
  pub count_least : (i : ℕ) → i < n → (rule_of (kind_of bs i)).least ≤ length_of bs i
  pub count_most : (i : ℕ) → i < n → length_of bs i ≤ (rule_of (kind_of bs i)).most
  pub source_node : (i k : ℕ) → i < n → k < length_of bs i → source_of bs i k < n
  pub source_smaller : (i k : ℕ) → i < n → k < length_of bs i → (kind_of bs i ≡ 2 → ⊥) → source_of bs i k < i
  pub source_no_output : (i k : ℕ) → i < n → k < length_of bs i → kind_of bs (source_of bs i k) ≡ 1 → ⊥

cond_below : (b : Bool) (x i n : ℕ) → i < n → x < cond b n i → x < n
cond_below true x i n h g = g
cond_below false x i n h g = omega arith

-- the facts, test by test
module _ (bs : List ℕ) (t : Passed reader_tests bs) where
  sizes_some : 0 < node_count bs
  unfolding sizes_allowed
  sizes_some = ltb-true 0 (node_count bs) (and_left (ltb 0 (node_count bs)) (leb (node_count bs) most_nodes && leb (pin_count bs) most_pins_in_all) t.1.0)

  sizes_few : (leb (node_count bs) most_nodes && leb (pin_count bs) most_pins_in_all) ≡ true
  unfolding sizes_allowed
  sizes_few = and_right (ltb 0 (node_count bs)) (leb (node_count bs) most_nodes && leb (pin_count bs) most_pins_in_all) t.1.0

  pair_starts : (i : ℕ) → i < node_count bs → offset_of bs i ≡ pair_start bs i
  unfolding pair_joined
  pair_starts i h =
      eqb-true (offset_of bs i) (pair_start bs i)
      (every-at (pair_joined bs) (node_count bs) (and_left (every (pair_joined bs) (node_count bs)) (eqb (pair_start bs (node_count bs)) (pin_count bs)) t.1.1.1.1.0) i h)

  pairs_end : pair_start bs (node_count bs) ≡ pin_count bs
  pairs_end =
      eqb-true (pair_start bs (node_count bs)) (pin_count bs)
      (and_right (every (pair_joined bs) (node_count bs)) (eqb (pair_start bs (node_count bs)) (pin_count bs)) t.1.1.1.1.0)

  pair_joins : (i : ℕ) → i + 1 < node_count bs → offset_of bs (i + 1) ≡ offset_of bs i + length_of bs i
  unfolding pair_start
  pair_joins i h = pair_starts (i + 1) h ∙ rw (add-one i)

  pair_ends : (i : ℕ) → i + 1 ≡ node_count bs → offset_of bs i + length_of bs i ≡ pin_count bs
  unfolding pair_start
  pair_ends i h = ends (node_count bs) (sym (add-one i) ∙ h) ∙ pairs_end
    where
      ends : (n : ℕ) → suc i ≡ n → offset_of bs i + length_of bs i ≡ pair_start bs n
      ends n e = rw (← e)

  fits : (i : ℕ) → i < node_count bs → count_fits bs i ≡ true
  fits i h = every-at (count_fits bs) (node_count bs) t.1.1.1.1.1.0 i h

  least : (i : ℕ) → i < node_count bs → (rule_of (kind_of bs i)).least ≤ length_of bs i
  unfolding count_fits
  least i h = leb-true _ _ (and_left (leb (rule_of (kind_of bs i)).least (length_of bs i)) (leb (length_of bs i) (rule_of (kind_of bs i)).most) (fits i h))

  most : (i : ℕ) → i < node_count bs → length_of bs i ≤ (rule_of (kind_of bs i)).most
  unfolding count_fits
  most i h = leb-true _ _ (and_right (leb (rule_of (kind_of bs i)).least (length_of bs i)) (leb (length_of bs i) (rule_of (kind_of bs i)).most) (fits i h))

  allowed : (i k : ℕ) → i < node_count bs → k < length_of bs i → source_allowed bs i k ≡ true
  unfolding sources_allowed
  allowed i k h l = every-at (source_allowed bs i) (length_of bs i) (every-at (sources_allowed bs) (node_count bs) t.1.1.1.1.1.1.0 i h) k l

  low : (i k : ℕ) → i < node_count bs → k < length_of bs i → source_of bs i k < cond (is_flip_flop (kind_of bs i)) (node_count bs) i
  unfolding source_allowed
  low i k h l =
      ltb-true (source_of bs i k) (cond (is_flip_flop (kind_of bs i)) (node_count bs) i)
      (and_left (ltb (source_of bs i k) (cond (is_flip_flop (kind_of bs i)) (node_count bs) i)) (not (is_output (kind_of bs (source_of bs i k)))) (allowed i k h l))

  no_output : (i k : ℕ) → i < node_count bs → k < length_of bs i → kind_of bs (source_of bs i k) ≡ 1 → ⊥
  unfolding source_allowed
  no_output i k h l =
      eqb-false (kind_of bs (source_of bs i k)) 1
      (not-true (is_output (kind_of bs (source_of bs i k)))
      (and_right (ltb (source_of bs i k) (cond (is_flip_flop (kind_of bs i)) (node_count bs) i)) (not (is_output (kind_of bs (source_of bs i k)))) (allowed i k h l)))

  smaller : (i k : ℕ) → i < node_count bs → k < length_of bs i → (kind_of bs i ≡ 2 → ⊥) → source_of bs i k < i
  smaller i k h l q = rw (ne_eqb (kind_of bs i) 2 q) at (low i k h l)

  known : (i : ℕ) → i < node_count bs → kind_of bs i ≤ last_kind
  unfolding kind_known
  known i h = leb-true (kind_of bs i) last_kind (every-at (kind_known bs) (node_count bs) t.1.1.1.0 i h)

  passed-facts : Facts bs (node_count bs) (pin_count bs)
  unfolding pair_start
  passed-facts =
      record {
        nodes = refl;
        pins = refl;
        some_node = sizes_some;
        few_nodes = leb-true (node_count bs) most_nodes (and_left (leb (node_count bs) most_nodes) (leb (pin_count bs) most_pins_in_all) sizes_few);
        few_pins = leb-true (pin_count bs) most_pins_in_all (and_right (leb (node_count bs) most_nodes) (leb (pin_count bs) most_pins_in_all) sizes_few);
        size = eqb-true (length bs) (4 + 5 * node_count bs + 2 * pin_count bs) t.1.1.0;
        kind_known_lem = known;
        first_offset = pair_starts 0 sizes_some;
        joined = pair_joins;
        last_ends = pair_ends;
        count_least = least;
        count_most = most;
        source_node = λ i k h l. cond_below (is_flip_flop (kind_of bs i)) (source_of bs i k) i (node_count bs) h (low i k h l);
        source_smaller = smaller;
        source_no_output = no_output;
      }

-- the reader finds a netlist sound where all of its tests pass, with its node count and pin count
pub sound-passed : (bs : List ℕ) (n p : ℕ) → reading bs ≡ sound n p → Passed reader_tests bs × (n ≡ node_count bs) × (p ≡ pin_count bs)
unfolding reading
sound-passed bs n p e = go (refusal reader_tests bs) refl e
  where
    go : (r : Option ℕ) → refusal reader_tests bs ≡ r → elim r [ none ↦ sound (node_count bs) (pin_count bs) | some k ↦ refused k ] ≡ sound n p
        → Passed reader_tests bs × (n ≡ node_count bs) × (p ≡ pin_count bs)
    go none q e = (refusal_none reader_tests bs q, cc, cc)
    go (some k) q e = absurd (let z : ◌≡◌ {A = ℕ} 0 1 = cc in omega arith)

-- the reader answers nothing but sound or a refusal
pub answered-sound : (bs vs : List ℕ) → reading bs ≡ answered vs → reading bs ≡ sound (node_count bs) (pin_count bs)
unfolding reading
answered-sound bs vs e = go (refusal reader_tests bs) e
  where
    go : (r : Option ℕ) → elim r [ none ↦ sound (node_count bs) (pin_count bs) | some k ↦ refused k ] ≡ answered vs
        → elim r [ none ↦ sound (node_count bs) (pin_count bs) | some k ↦ refused k ] ≡ sound (node_count bs) (pin_count bs)
    go none e = refl
    go (some k) e = absurd (let z : ◌≡◌ {A = ℕ} 0 1 = cc in omega arith)

-- THE law of a sound netlist
pub facts : (bs : List ℕ) (n p : ℕ) → reading bs ≡ sound n p → Facts bs n p
facts bs n p e =
    let t = sound-passed bs n p e in
    rw (t.1, t.2) (passed-facts bs t.0)

-- the circuit has N nodes
pub sound-size : (bs : List ℕ) (n p : ℕ) → reading bs ≡ sound n p → n ≡ (net_of bs).size
unfolding net_of
sound-size bs n p e = (facts bs n p e).nodes

-- every pin of a node stands within the P pins
pub pins-within : {bs : List ℕ} {n p : ℕ} → Facts bs n p → (i : ℕ) → i < n → offset_of bs i + length_of bs i ≤ p
pins-within {bs} {n} {p} f i h = within (n - (i + 1)) i (omega arith)
  where
    within : (d i : ℕ) → i + d + 1 ≡ n → offset_of bs i + length_of bs i ≤ p
    within zero i e = omega (arith, f.last_ends i (omega arith))
    within (suc d) i e = omega (arith, f.joined i (omega arith), within d (i + 1) (omega arith))

-- the tests, fact by fact
module _ (bs : List ℕ) (f : Facts bs (node_count bs) (pin_count bs)) where
  sizes_pass : sizes_allowed (node_count bs) (pin_count bs) ≡ true
  unfolding sizes_allowed
  sizes_pass = rw (lt-ltb 0 (node_count bs) f.some_node, le-leb (node_count bs) most_nodes f.few_nodes, le-leb (pin_count bs) most_pins_in_all f.few_pins)

  kind-passes : (i : ℕ) → i < node_count bs → kind_known bs i ≡ true
  unfolding kind_known
  kind-passes i h = le-leb (kind_of bs i) last_kind (f.kind_known_lem i h)

  pair_passes : (i : ℕ) → i < node_count bs → pair_joined bs i ≡ true
  unfolding pair_joined pair_start
  pair_passes zero h = eq-eqb (offset_of bs 0) 0 f.first_offset
  pair_passes (suc i) h = eq-eqb (offset_of bs (suc i)) (offset_of bs i + length_of bs i) (rw (add-one i) at (f.joined i (omega arith)))

  end-passes : (n : ℕ) → 0 < n → n ≡ node_count bs → pair_start bs n ≡ pin_count bs
  unfolding pair_start
  end-passes zero h e = absurd (omega arith)
  end-passes (suc n) h e = f.last_ends n (add-one n ∙ e)

  count-passes : (i : ℕ) → i < node_count bs → count_fits bs i ≡ true
  unfolding count_fits
  count-passes i h = rw (le-leb (rule_of (kind_of bs i)).least (length_of bs i) (f.count_least i h), le-leb (length_of bs i) (rule_of (kind_of bs i)).most (f.count_most i h))

  source_passes : (i k : ℕ) → i < node_count bs → k < length_of bs i → source_allowed bs i k ≡ true
  unfolding source_allowed
  source_passes i k h l =
      rw (
        ne_eqb (kind_of bs (source_of bs i k)) 1 (f.source_no_output i k h l),
        lt-ltb (source_of bs i k) (cond (is_flip_flop (kind_of bs i)) (node_count bs) i) (go (is_flip_flop (kind_of bs i)) refl),
      )
    where
      go : (b : Bool) → is_flip_flop (kind_of bs i) ≡ b → source_of bs i k < cond b (node_count bs) i
      go true e = f.source_node i k h l
      go false e = f.source_smaller i k h l (eqb-false (kind_of bs i) 2 e)

  sources_pass : (i : ℕ) → i < node_count bs → sources_allowed bs i ≡ true
  unfolding sources_allowed
  sources_pass i h = every-by (source_allowed bs i) (length_of bs i) (λ k l. source_passes i k h l)

  facts-passed : Passed reader_tests bs
  facts-passed =
      let h : 4 ≤ length bs = omega (arith, f.size) in (
        le-leb 4 (length bs) h,
        (
          sizes_pass,
          (
            eq-eqb (length bs) (4 + 5 * node_count bs + 2 * pin_count bs) f.size,
            (
              every-by (kind_known bs) (node_count bs) kind-passes,
              (
                rw (every-by (pair_joined bs) (node_count bs) pair_passes) (eq-eqb (pair_start bs (node_count bs)) (pin_count bs) (end-passes (node_count bs) f.some_node refl)),
                (
                  every-by (count_fits bs) (node_count bs) count-passes,
                  (
                    every-by (sources_allowed bs) (node_count bs) sources_pass,
                    tt,
                  ),
                ),
              ),
            ),
          ),
        ),
      )

-- and nothing else is asked of a netlist
pub facts-sound : {bs : List ℕ} {n p : ℕ} → Facts bs n p → reading bs ≡ sound n p
facts-sound {bs} {n} {p} f =
    let g : Facts bs (node_count bs) (pin_count bs) = rw (f.nodes, f.pins) at f in
    rw (f.nodes, f.pins) (sym (read_sound bs (facts-passed bs g)))

-- the reader refuses with k where the first test that fails has the number k
pub refused-first : (bs : List ℕ) (k : ℕ) → reading bs ≡ refused k → FirstFails bs k reader_tests
unfolding reading
refused-first bs k e = go (refusal reader_tests bs) refl e
  where
    go : (r : Option ℕ) → refusal reader_tests bs ≡ r → elim r [ none ↦ sound (node_count bs) (pin_count bs) | some j ↦ refused j ] ≡ refused k → FirstFails bs k reader_tests
    go none q e = absurd (let z : ◌≡◌ {A = ℕ} 0 1 = cc in omega arith)
    go (some j) q e = refusal_some reader_tests bs k (cc)

-- the reader's tests stand in the order of their numbers, so the smallest number that applies is given
pub refused_smallest : (bs : List ℕ) (k : ℕ) → reading bs ≡ refused k → NoneSmaller k reader_tests bs
refused_smallest bs k e =
    refusal_smallest 0 reader_tests bs k
    (omega arith, (omega arith, (omega arith, (omega arith, (omega arith, (omega arith, (omega arith, tt)))))))
    (refused-first bs k e)

-- no refusal has the number 0
pub refused_positive : (bs : List ℕ) (k : ℕ) → reading bs ≡ refused k → 1 ≤ k
refused_positive bs k e =
    refusal_above 1 reader_tests bs k
    (omega arith, (omega arith, (omega arith, (omega arith, (omega arith, (omega arith, (omega arith, tt)))))))
    (refused-first bs k e)
