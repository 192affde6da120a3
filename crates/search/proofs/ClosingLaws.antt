-- A split whose two branches close: the checker accepts its certificate, so its fault is redundant.
use mathlib.Core.Bool.{Bool, ◌&&◌, true}
use mathlib.Core.List.{List}
use mathlib.Core.Path.{◌∙◌, ◌≡◌, ap, refl, subst, sym}
use Prim.Native.Nat.{◌*◌, ◌+◌, ◌/◌, ◌<◌, ◌≤◌, ℕ, suc}
use native.Mathlib.Omega.{arith}
use lib.Dec.{leb, ltb}
use lib.ListN.{length, length-replicate, replicate}
use borrow.Author.Tests.{le-leb, leb-true, lt-ltb, ltb-true}
use Rattle.values.proofs.BoolLaws.{and_left, and_right}
use Rattle.values.proofs.ListLaws.{every-at}
use Rattle.gates.specs.Kind.{rule_of, most_pins, last_kind}
use Rattle.values.specs.Lists.{every}
use Rattle.simulator.proofs.ClockLaws.{sound-ordered}
use Rattle.netlist.proofs.NetlistLaws.{pins-length}
use Rattle.netlist.proofs.RefusalLaws.{Passed}
use Rattle.netlist.proofs.SoundLaws.{facts}
use Rattle.circuit.specs.Fault.{fault_exists, lines_of, site_exists}
use Rattle.netlist.specs.Netlist.{Net, kind_of, net_of, node_count, pin_count, reading, sound}
use Rattle.circuit.specs.declared.fault.Fault.{Fault}
use Rattle.circuit.specs.declared.fault.Site.{Site}
use Rattle.circuit.specs.declared.fault.Site.TheVariants.{Pin}
use Rattle.checker.proofs.Theorem.{accepted-redundant}
use Rattle.checker.proofs.VerdictLaws.{Closes, replayed-allowed, says_accepted}
use Rattle.certificate.specs.Certificate.{c_of, f_of, fault_of, head_length, pairs_right, run_length, split_frame, split_node, steps_of}
use Rattle.checker.specs.Checker.{accepted, checker_call, checker_tests, checking, closes, replay, replayed}
use Rattle.simulator.specs.Statement.{Redundant}
use Rattle.knowledge.specs.Window.{Branch, begin, present_below, most_frames}
use Rattle.sweeps.proofs.CountingLaws.{implied_few}
use Rattle.sweeps.proofs.ReplayedLaws.{implied_replays}
use Rattle.certificate.proofs.WrittenLaws.{c_read, f-read, fault-read, frame-read, node-read, pairs-read, sevenths, steps_one_read, steps_zero_read}
use Rattle.certificate.proofs.WrittenLaws.{length-certificate, length_one_read, length_zero_read}
use Rattle.search.specs.FirstSplit.{Within}
use Rattle.sweeps.specs.Splits.{branch_of, certificate_for, head_for, split_closes, step_count}
use Rattle.splits.specs.declared.split.Split.{Split}

-- no kind has more pins than the most that a gate may have
rule-few : (k : ℕ) → k ≤ last_kind → (rule_of k).most ≤ most_pins
unfolding rule_of every
rule-few k h = leb-true (rule_of k).most most_pins (every-at (λ k. leb (rule_of k).most most_pins) (suc last_kind) refl k (omega arith))

pub pins-few : (nb : List ℕ) (n : ℕ) → reading nb ≡ sound (node_count nb) (pin_count nb) → n < node_count nb → length ((net_of nb).pins n) ≤ most_pins
pins-few nb n e h =
    let f = facts nb (node_count nb) (pin_count nb) e in
    omega (arith, pins-length nb n, f.count_most n h, rule-few (kind_of nb n) (f.kind_known_lem n h))

-- so the pin of a fault that exists has a number below that, and is not written as the node itself is
pub site_few : (nb : List ℕ) (f : Fault) → reading nb ≡ sound (node_count nb) (pin_count nb) → fault_exists (net_of nb) f ≡ true → (k : ℕ) → f.site ≡ Pin k → k < most_pins
unfolding fault_exists net_of
site_few nb f e h k q = omega (arith, pins-few nb f.node e here, low)
  where
    m : ℕ
    m = length ((net_of nb).pins f.node)

    rest : Bool
    rest = site_exists f.site m && leb f.stuck 1

    here : f.node < node_count nb
    here = ltb-true f.node (node_count nb) (and_left (ltb f.node (node_count nb)) rest h)

    exists : site_exists f.site m ≡ true
    exists = and_left (site_exists f.site m) (leb f.stuck 1) (and_right (ltb f.node (node_count nb)) rest h)

    low : k < m
    low = ltb-true k m (ap (λ (s : Site). site_exists s m) (sym q) ∙ exists)

-- a sound netlist, a fault that exists, a window that is not too wide, and a split of it whose branches close
module _ (nb : List ℕ) (f : Fault) (B F : ℕ) (sound-nb : reading nb ≡ sound (node_count nb) (pin_count nb))
    (there : fault_exists (net_of nb) f ≡ true) (narrow : B + F + 1 ≤ most_frames) (s : Split) (within : Within (net_of nb) B F s) (closing : split_closes (net_of nb) f F s ≡ true) where
  abbrev net : Net
  net = net_of nb

  abbrev W : ℕ
  W = s.c + F + 1

  abbrev end : ℕ → Branch
  end v = branch_of net f F s v

  abbrev bs : List ℕ
  bs = certificate_for net f F s

  pub names-fault : fault_of bs ≡ f
  unfolding certificate_for
  names-fault = fault-read (head_for f F s) (end 0).steps (end 1).steps (λ k q e. let l = site_few nb f sound-nb there k q in omega (arith, l))

  pub names-c : c_of bs ≡ s.c
  unfolding certificate_for
  names-c = c_read (head_for f F s) (end 0).steps (end 1).steps

  pub names-f : f_of bs ≡ F
  unfolding certificate_for
  names-f = f-read (head_for f F s) (end 0).steps (end 1).steps

  pub names-node : split_node bs ≡ s.node
  unfolding certificate_for
  names-node = node-read (head_for f F s) (end 0).steps (end 1).steps

  pub names-frame : split_frame bs ≡ s.frame
  unfolding certificate_for
  names-frame = frame-read (head_for f F s) (end 0).steps (end 1).steps

  -- a branch whose steps are those of the sweeps is replayed to what the sweeps left, and closes
  run-closes : (v : ℕ) → steps_of bs v ≡ (end v).steps → closes net (lines_of f) s.c F (end v) ≡ true → Closes net bs v
  unfolding replayed branch_of
  run-closes v e q =
      record {
        end = end v;
        allowed = replayed-allowed net bs v (end v)
            ((λ i.
            replay net (present_below (names-c i) (lines_of (names-fault i))) (names-c i + names-f i + 1) (e i)
            (begin net (present_below (names-c i) (lines_of (names-fault i))) (names-c i + names-f i + 1) (names-node i) (names-frame i) v))
            ∙ implied_replays net (sound-ordered nb (node_count nb) (pin_count nb) sound-nb) (present_below s.c (lines_of f)) W s.node s.frame v);
        closing = (λ i. closes net (lines_of (names-fault i)) (names-c i) (names-f i) (end v)) ∙ q;
      }

  zero_closes : Closes net bs 0
  unfolding certificate_for split_closes
  zero_closes =
      run-closes 0 (steps_zero_read (head_for f F s) (end 0).steps (end 1).steps)
      (and_left (closes net (lines_of f) s.c F (end 0)) (closes net (lines_of f) s.c F (end 1)) closing)

  one_closes : Closes net bs 1
  unfolding certificate_for split_closes
  one_closes =
      run-closes 1 (steps_one_read (head_for f F s) (end 0).steps (end 1).steps)
      (and_right (closes net (lines_of f) s.c F (end 0)) (closes net (lines_of f) s.c F (end 1)) closing)

  -- the checker's tests pass
  module _ (v w : List ℕ) (room-v : net.size * W ≤ length v) (room-w : net.size * W ≤ length w) where
    laid_out : (leb head_length (length bs) && pairs_right bs) ≡ true
    unfolding certificate_for
    laid_out =
        let l : head_length ≤ length bs = omega (arith, length-certificate (head_for f F s) (end 0).steps (end 1).steps) in
        rw (le-leb head_length (length bs) l) (pairs-read (head_for f F s) (end 0).steps (end 1).steps)

    tests_pass : Passed checker_tests (checker_call nb bs v w)
    tests_pass =
        let few : s.c + F + 1 ≤ most_frames = omega (arith, within.0) in (
          laid_out,
          (
            ap (fault_exists net) names-fault ∙ there,
            (
              (λ i. leb (names-c i + names-f i + 1) most_frames) ∙ le-leb W most_frames few,
              (
                (λ i. leb (net.size * (names-c i + names-f i + 1)) (length v) && leb (net.size * (names-c i + names-f i + 1)) (length w))
                    ∙ rw (le-leb (net.size * W) (length v) room-v, le-leb (net.size * W) (length w) room-w),
                (
                  (λ i. ltb (names-node i) net.size && ltb (names-frame i) (names-c i + names-f i + 1))
                      ∙ rw (lt-ltb s.node net.size within.2, lt-ltb s.frame W within.1),
                  tt,
                ),
              ),
            ),
          ),
        )

    -- so it accepts
    pub mark_accepted : (checking (checker_call nb bs v w)).answer ≡ accepted s.c
    mark_accepted =
        says_accepted (checker_call nb bs v w) s.c
        (record {
          ready = record { sound_netlist = sound-nb; passed = tests_pass };
          zero_closes = zero_closes;
          one_closes = one_closes;
          same_c = names-c;
        })

  -- the two runs have 7 bytes for each step
  pub count_is : step_count net f F s ≡ (run_length bs 0 + run_length bs 1) / 7
  unfolding step_count certificate_for
  count_is =
      let a : ℕ = length (end 0).steps in
      let b : ℕ = length (end 1).steps in
      let e : 7 * (a + b) ≡ 7 * a + 7 * b = omega arith in
      sym (sevenths (a + b))
      ∙ ap (λ (x : ℕ). x / 7) e
      ∙ sym (λ i. (length_zero_read (head_for f F s) (end 0).steps (end 1).steps i + length_one_read (head_for f F s) (end 0).steps (end 1).steps i) / 7)

  run_few : (v : ℕ) → v < 2 → length (end v).steps ≤ net.size * W
  unfolding branch_of
  run_few v h =
      implied_few net (sound-ordered nb (node_count nb) (pin_count nb) sound-nb) (present_below s.c (lines_of f)) W s.node s.frame v within.2 within.1 h

  pub count_few : step_count net f F s ≤ 2 * (net.size * W)
  unfolding step_count
  count_few = omega (arith, run_few 0 (omega arith), run_few 1 (omega arith))

  -- and the fault is redundant: THE law of a split that closes
  pub mark_redundant : Redundant nb f s.c
  mark_redundant =
      let z : List ℕ = replicate (net.size * W) 0 in
      let l : net.size * W ≤ length z = omega (arith, length-replicate {A = ℕ} (net.size * W) 0) in
      subst (λ (g : Fault). Redundant nb g s.c) names-fault (accepted-redundant nb bs z z s.c (mark_accepted z z l l))
