-- Laws of the simulator's answer: when it is done, and that it has then made one clock step of a run.
use Rattle.netlist.proofs.NumberLaws.{tool_numbers}
use mathlib.Core.Bool.{Bool, ◌&&◌, ◌||◌, false, not, true}
use mathlib.Core.List.{List, [], ◌∷◌, Mem}
use mathlib.Core.Logic.{⊎_elim}
use mathlib.Core.Option.{Option, none, some}
use mathlib.Core.Path.{◌∙◌, ◌≡◌, ap, refl, subst, sym}
use Prim.Native.Nat.{◌<◌, ℕ}
use native.Mathlib.Omega.{arith}
use lib.Dec.{eqb, leb}
use lib.ListN.{length}
use borrow.Author.Tests.{eq-eqb, eqb-true, le-leb, leb-true, ne_eqb}
use Rattle.values.proofs.BoolLaws.{and_left, and_right, implied}
use Rattle.values.proofs.ListLaws.{every-at, every-by}
use Rattle.simulator.proofs.ClockLaws.{given-kind, latched_into_lem, settled_seen, sound-ordered}
use Rattle.netlist.proofs.RefusalLaws.{FirstFails, NoneSmaller, Passed, refusal_at, refusal_by, refusal_none, refusal_smallest}
use Rattle.simulator.proofs.RunLaws.{SameAt, latched_after-binary, stepped-clock}
use Rattle.netlist.proofs.SoundLaws.{answered-sound, sound-size}
use Rattle.netlist.specs.Answer.{Answer, Outcome, answered, outcome, refusal, refused}
use Rattle.simulator.specs.Clock.{SimulatorCall, done, place_fits, seen_list, simulation, simulator_call, simulator_tests, slices_fit, clock_step, clock_refused}
use Rattle.simulator.specs.Inner.Places.{latched_into, settled}
use Rattle.simulator.specs.ClockLists.{ClockList, InputBits, LatchedBits, first_clock, latched_after, no_clocks, run, seen_after}
use Rattle.circuit.specs.Fault.{circuit_exists, lines_in}
use Rattle.gates.specs.Kind.{is_given}
use Rattle.values.specs.Lists.{at, every}
use Rattle.netlist.specs.Netlist.{Net, net_of, node_count, pin_count, reading, sound}
use Rattle.circuit.specs.declared.fault.Circuit.{Circuit}

module _ (a : SimulatorCall) where
  abbrev tested : Option ℕ → Outcome
  tested r = elim r [ some k ↦ clock_refused k a | none ↦ clock_step a ]

  abbrev read-then : Answer → Outcome
  read-then r = elim r [ refused k ↦ clock_refused k a | answered _ ↦ tested (refusal simulator_tests a) ]

  -- an unsound netlist is turned back with the reader's number
  pub simulation-unsound : (k : ℕ) → reading a.netlist ≡ refused k → simulation a ≡ clock_refused k a
  unfolding simulation
  simulation-unsound k e = ap read-then e

  -- a sound one with the number of the first test that fails
  pub simulation-refused : {vs : List ℕ} (k : ℕ) → reading a.netlist ≡ answered vs → FirstFails a k simulator_tests → simulation a ≡ clock_refused k a
  unfolding simulation
  simulation-refused k e f = ap read-then e ∙ ap tested (refusal_at simulator_tests a k f)

  -- and the clock step is done where all tests pass
  pub simulation-done : {vs : List ℕ} → reading a.netlist ≡ answered vs → Passed simulator_tests a → simulation a ≡ clock_step a
  unfolding simulation
  simulation-done e t = ap read-then e ∙ ap tested (refusal_by simulator_tests a t)

-- its tests stand in the order of their numbers, so the smallest number that applies is given
pub simulation_smallest : (a : SimulatorCall) (k : ℕ) → FirstFails a k simulator_tests → NoneSmaller k simulator_tests a
simulation_smallest a k f = refusal_smallest 0 simulator_tests a k (omega arith, (omega arith, tt)) f

-- Demand 1: a refusal of THE SIMULATOR has one of these numbers and no other.
pub simulation_numbers : (a : SimulatorCall) (k : ℕ) → (simulation a).answer ≡ refused k → Mem k (1 ∷ 2 ∷ 3 ∷ 4 ∷ 5 ∷ 6 ∷ 7 ∷ 9 ∷ 16 ∷ [])
unfolding simulation clock_step
simulation_numbers a = tool_numbers (λ (o : Outcome). o.answer) simulator_tests a a.netlist (λ j. clock_refused j a) (clock_step a) [] (λ j. refl) no_refusal
  where
    no_refusal : (k : ℕ) → done ≡ refused k → Mem k []
    no_refusal k e = absurd (let z : ◌≡◌ {A = ℕ} 0 1 = cc in omega arith)

-- the test of the slices, as it goes on from one part to the next
module _ (c : Net) (v w : List ℕ) (n : ℕ) (e : n ≡ c.size) where
  pub slices-first : (length v ≡ n → ⊥) → eqb (length v) n ≡ slices_fit c v w
  unfolding slices_fit
  slices-first h = rw (← e, ne_eqb (length v) n h)

  pub slices-second : length v ≡ n → (length w ≡ n → ⊥) → eqb (length w) n ≡ slices_fit c v w
  unfolding slices_fit
  slices-second g h = rw (← e, eq-eqb (length v) n g, ne_eqb (length w) n h)

  pub slices_places : length v ≡ n → length w ≡ n → every (place_fits c v) n ≡ slices_fit c v w
  unfolding slices_fit
  slices_places g h = rw e (rw (eq-eqb (length v) c.size (g ∙ e), eq-eqb (length w) c.size (h ∙ e)))

pub ruleset slices_parts = (slices-first, slices-second, slices_places)

-- both slices have N bytes, and the inputs and latched values that are read are 0 or 1
pub record Fitting (c : Net) (first second : List ℕ) : Type 0 where
  pub first_size : length first ≡ c.size
  pub second_size : length second ≡ c.size
  pub inputs : InputBits c first
  pub latched : LatchedBits c first

pub slices_fitting : (c : Net) (first second : List ℕ) → slices_fit c first second ≡ true → Fitting c first second
unfolding slices_fit place_fits InputBits LatchedBits
slices_fitting c first second e =
    record {
      first_size = eqb-true (length first) c.size (and_left (eqb (length first) c.size) (eqb (length second) c.size && every (place_fits c first) c.size) e);
      second_size = eqb-true (length second) c.size (and_left (eqb (length second) c.size) (every (place_fits c first) c.size) rest);
      inputs = λ n h q. low n h (rw (eqb-true (c.kind n) 0 q));
      latched = λ n h q. low n h (rw (eqb-true (c.kind n) 2 q));
    }
  where
    rest : (eqb (length second) c.size && every (place_fits c first) c.size) ≡ true
    rest = and_right (eqb (length first) c.size) (eqb (length second) c.size && every (place_fits c first) c.size) e

    places : every (place_fits c first) c.size ≡ true
    places = and_right (eqb (length second) c.size) (every (place_fits c first) c.size) rest

    low : (n : ℕ) → n < c.size → is_given (c.kind n) ≡ true → at first n < 2
    low n h q =
        let l = leb-true (at first n) 1 (implied (is_given (c.kind n)) (leb (at first n) 1) (every-at (place_fits c first) c.size places n h) q) in
        omega arith

-- and slices like these pass the test
pub fitting_slices : (c : Net) (first second : List ℕ) → Fitting c first second → slices_fit c first second ≡ true
unfolding slices_fit place_fits InputBits LatchedBits
fitting_slices c first second f =
    rw (eq-eqb (length first) c.size f.first_size, eq-eqb (length second) c.size f.second_size)
    (every-by (place_fits c first) c.size (λ n h. go n h (is_given (c.kind n)) refl))
  where
    low : (n : ℕ) → n < c.size → is_given (c.kind n) ≡ true → at first n < 2
    low n h q = ⊎_elim (λ z. f.inputs n h (eq-eqb (c.kind n) 0 z)) (λ z. f.latched n h (eq-eqb (c.kind n) 2 z)) (given-kind (c.kind n) q)

    go : (n : ℕ) → n < c.size → (b : Bool) → is_given (c.kind n) ≡ b → (not b || leb (at first n) 1) ≡ true
    go n h true q = let l = low n h q in le-leb (at first n) 1 (omega arith)
    go n h false q = refl

-- the two halves of a clock step, one after the other on slices that fit, make the step
pub step_halves : (a : SimulatorCall) (n p : ℕ) → reading a.netlist ≡ sound n p → Fitting (net_of a.netlist) a.first a.second
    → (let net = net_of a.netlist in
    let s = lines_in a.circuit in
    let seen = settled net s n a.first in
    outcome (answered []) seen (latched_into net s (at seen) n a.second) ≡ clock_step a)
unfolding clock_step
step_halves a n p e h =
    let net = net_of a.netlist in
    let s = lines_in a.circuit in
    let z : n ≡ net.size = sound-size a.netlist n p e in
    let q : settled net s n a.first ≡ seen_list net s (at a.first) =
    (λ i. settled net s (z i) a.first) ∙ settled_seen net s a.first (sound-ordered a.netlist n p e) h.first_size in
    (λ i. outcome (answered []) (q i) (latched_into net s (at (q i)) (z i) a.second))
    ∙ ap (outcome (answered []) (seen_list net s (at a.first))) (latched_into_lem net s (at (seen_list net s (at a.first))) a.second h.second_size)

-- what the answer done says: the netlist is sound, and the tests pass
pub record Done (a : SimulatorCall) : Type 0 where
  pub sound_netlist : reading a.netlist ≡ sound (node_count a.netlist) (pin_count a.netlist)
  pub passed : Passed simulator_tests a
  pub slices : Fitting (net_of a.netlist) a.first a.second

pub done_says : (a : SimulatorCall) → (simulation a).answer ≡ answered [] → Done a
unfolding simulation
done_says a e = go (reading a.netlist) refl e
  where
    tests : (r : Option ℕ) → refusal simulator_tests a ≡ r → (tested a r).answer ≡ answered [] → Passed simulator_tests a
    tests none q e = refusal_none simulator_tests a q
    tests (some k) q e = absurd (let z : ◌≡◌ {A = ℕ} 0 1 = cc in omega arith)

    go : (r : Answer) → reading a.netlist ≡ r → (read-then a r).answer ≡ answered [] → Done a
    go (refused k) q e = absurd (let z : ◌≡◌ {A = ℕ} 0 1 = cc in omega arith)
    go (answered vs) q e =
        let t = tests (refusal simulator_tests a) refl e in
        record { sound_netlist = answered-sound a.netlist vs q; passed = t; slices = slices_fitting (net_of a.netlist) a.first a.second t.1.0 }

-- No clock is refused: with a sound netlist, the good circuit or a fault that exists, and slices that fit, the answer is done
pub call-done : (a : SimulatorCall) (n p : ℕ) → reading a.netlist ≡ sound n p → circuit_exists (net_of a.netlist) a.circuit ≡ true
    → Fitting (net_of a.netlist) a.first a.second → (simulation a).answer ≡ answered []
unfolding clock_step
call-done a n p e x f = ap (λ (o : Outcome). o.answer) (simulation-done a e (x, (fitting_slices (net_of a.netlist) a.first a.second f, tt)))

-- done: one clock of a run, from the inputs and the latched values that the first slice held
pub done-clock : (a : SimulatorCall) → (simulation a).answer ≡ answered []
    → simulation a ≡ outcome (answered []) (seen_after (net_of a.netlist) (lines_in a.circuit) a.first a.first) (latched_after (net_of a.netlist) (lines_in a.circuit) a.first a.first)
done-clock a e =
    let d = done_says a e in
    simulation-done a d.sound_netlist d.passed ∙ stepped-clock a a.first a.first (λ _ _ _. refl) (λ _ _ _. refl)

module _ (bs : List ℕ) (circuit : Circuit) where
  -- A call for a clock with the inputs x and the values l latched: both slices have N bytes, and the first holds inputs and latched values
  -- at their places.
  pub record ClockCall (x l first second : List ℕ) : Type 0 where
    pub first_size : length first ≡ (net_of bs).size
    pub second_size : length second ≡ (net_of bs).size
    pub inputs : SameAt (net_of bs) 0 (at first) (at x)
    pub latched : SameAt (net_of bs) 2 (at first) (at l)

  -- Calls for the clocks of a list, begun with l latched, each later one from what the one before latched. vs has what they leave in the
  -- first slice.
  pub data Calls : List (List ℕ) → List ℕ → List (List ℕ) → Type 0 where
    no_call : {l : List ℕ} → Calls [] l []
    next_call : {x l : List ℕ} {xs vs : List (List ℕ)} (first second : List ℕ) → ClockCall x l first second
        → Calls xs (simulation (simulator_call bs circuit first second)).second vs
        → Calls (x ∷ xs) l ((simulation (simulator_call bs circuit first second)).first ∷ vs)

  module _ (n p : ℕ) (e : reading bs ≡ sound n p) (exists : circuit_exists (net_of bs) circuit ≡ true) where
    -- No clock is refused: such a call is done, and makes the clock step.
    pub clock_done : (x l first second : List ℕ) → ClockCall x l first second → InputBits (net_of bs) x → LatchedBits (net_of bs) l
        → simulation (simulator_call bs circuit first second) ≡ outcome (answered []) (seen_after (net_of bs) (lines_in circuit) x l) (latched_after (net_of bs) (lines_in circuit) x l)
    unfolding InputBits LatchedBits
    clock_done x l first second k hx hl =
        let a = simulator_call bs circuit first second in
        let f : Fitting (net_of bs) first second =
        record {
          first_size = k.first_size;
          second_size = k.second_size;
          inputs = λ m h q. rw (k.inputs m h (eqb-true ((net_of bs).kind m) 0 q)) (hx m h q);
          latched = λ m h q. rw (k.latched m h (eqb-true ((net_of bs).kind m) 2 q)) (hl m h q);
        } in
        simulation-done a e (exists, (fitting_slices (net_of bs) first second f, tt)) ∙ stepped-clock a x l k.inputs k.latched

    -- so calls for the clocks of a list show its run
    pub calls_run : {xs vs : List (List ℕ)} {l : List ℕ} → Calls xs l vs → ClockList (net_of bs) xs → LatchedBits (net_of bs) l → vs ≡ run (net_of bs) (lines_in circuit) xs l
    calls_run no_call no_clocks h = refl
    calls_run (next_call {x} {l} {xs} {vs} first second k r) (first_clock hx q) h =
        let net = net_of bs in
        let s = lines_in circuit in
        let o = clock_done x l first second k hx h in
        let z : (simulation (simulator_call bs circuit first second)).second ≡ latched_after net s x l = ap (λ (t : Outcome). t.second) o in
        let w = calls_run r q (subst (LatchedBits net) (sym z) (latched_after-binary net s x l hx h)) in
        λ i. (o i).first ∷ (w ∙ ap (run net s xs) z) i
