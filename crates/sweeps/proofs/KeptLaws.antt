-- What a trial shows: a set that is said to be open, and what is known in a branch that stays open, keep each of their values open as a
-- split. And how many steps a certificate has at most.
use Rattle.std.specs.Prelude.{Option, Some}
use mathlib.Core.Bool.{Bool, ◌&&◌, cond, false, false≢true, not, true}
use mathlib.Core.List.{List, []}
use mathlib.Core.Path.{◌∙◌, ◌≡◌, ap, refl, sym}
use Prim.Native.Nat.{◌*◌, ◌+◌, ◌<◌, ◌≤◌, ℕ}
use native.Mathlib.Nat.{mul-le-mul_left}
use native.Mathlib.Omega.{arith}
use lib.Dec.{eqb}
use lib.ListN.{length, replicate}
use borrow.Author.Tests.{eq-eqb, eqb-true, le-leb, lt-ltb, not-true}
use Rattle.simulator.proofs.ClockLaws.{Ordered, sound-ordered}
use Rattle.netlist.specs.Answer.{Answer, number_of}
use Rattle.circuit.specs.Fault.{StuckLines, fault_exists, lines_of}
use Rattle.netlist.specs.Netlist.{Net, net_of, reading, sound}
use Rattle.circuit.specs.declared.fault.Fault.{Fault}
use Rattle.trace.proofs.TouchedLaws.{tracing_long}
use Rattle.certificate.specs.Certificate.{head_length}
use Rattle.checker.specs.Checker.{closes}
use Rattle.trace.specs.Inner.Tracing.{Traced, tracing}
use Rattle.knowledge.specs.Inner.Slice.{known_in}
use Rattle.knowledge.specs.Window.{present_below, most_frames}
use Rattle.sweeps.proofs.CountingLaws.{implied_few}
use Rattle.sweeps.proofs.GuessLaws.{guess_open}
use Rattle.sweeps.proofs.OpenSets.{open_knows_in}
use Rattle.sweeps.proofs.TrialLaws.{bytes_hold, certifying-stands, has-held, slices_fit_says, trying-stands}
use Rattle.sweeps.specs.Inner.Trials.{Certified, Tried, certified, certifying, following, has_held, last_branch, opening, work_fits, swept_once, tried, trying, window_bytes, window_stands}
use Rattle.sweeps.specs.Inner.Work.{KeptOpen, Work}
use Rattle.sweeps.specs.Splits.{branch_of, certificate_for, split_closes, step_count}
use Rattle.certificate.specs.Written.{written}
use Rattle.splits.specs.declared.split.Split.{Split}

-- THE law of sets that are said to be open
module _ (bs : List ℕ) (o : Ordered (net_of bs)) (f : Fault) (c F : ℕ) (values touched : List ℕ) where
  abbrev N : ℕ
  N = (net_of bs).size

  swept : Work
  swept = swept_once (net_of bs) f c F values

  trace : Traced
  trace = tracing (net_of bs) (lines_of f) c F (known_in swept.known N) touched

  stepped : Bool → Tried
  stepped q = cond q (tried (not trace.dies) swept.known trace.touched) (tried false swept.known touched)

  chosen : Bool → Tried
  chosen q = cond q (stepped (eqb swept.steps 0)) (tried false values touched)

  Kept : Tried → Type 0
  Kept t = t.answer ≡ true → KeptOpen (net_of bs) f F c t.known

  pub open_set_kept : (opening bs f c F values touched).answer ≡ true → KeptOpen (net_of bs) f F c (opening bs f c F values touched).known
  unfolding opening following swept trace stepped chosen Kept
  open_set_kept = go (work_fits N c F values touched) (has_held N f c values) refl refl
    where
      still : work_fits N c F values touched ≡ true → has_held N f c values ≡ true → (q : Bool) → eqb swept.steps 0 ≡ q → Kept (stepped q)
      still s h false q a = absurd (false≢true a)
      still s h true q a =
          let room : N * (F + 1) ≤ N * (c + F + 1) = mul-le-mul_left N (omega arith) in
          let long = tracing_long (net_of bs) (lines_of f) c F (known_in swept.known N) touched (omega (arith, room, (slices_fit_says N c F values touched s).2)) in
          guess_open (net_of bs) o f F c values [] swept refl (eqb-true _ _ q) (has-held N f c values h)
          (ap (λ (t : Traced). t.dies) long ∙ not-true trace.dies a)

      go : (s h : Bool) → work_fits N c F values touched ≡ s → has_held N f c values ≡ h → Kept (chosen (s && h))
      go true true s h = still s h (eqb swept.steps 0) refl
      go true false s h = λ a. absurd (false≢true a)
      go false h₀ s h = λ a. absurd (false≢true a)

-- a window that stands
pub window-stands : (bs : List ℕ) (n p : ℕ) → reading bs ≡ sound n p → (f : Fault) (F : ℕ) (s : Split) (places : ℕ) → fault_exists (net_of bs) f ≡ true
    → s.c + F + 1 ≤ most_frames → s.frame < s.c + F + 1 → s.node < (net_of bs).size → places ≡ (net_of bs).size * (s.c + F + 1)
    → window_stands bs f F s places ≡ true
unfolding window_stands
window-stands bs n p e f F s places exists short frame node size =
    rw (le-leb _ _ short, lt-ltb _ _ frame, lt-ltb _ _ node, eq-eqb _ _ size, exists, ap (λ (a : Answer). eqb (number_of a) 0) e)

module _ (net : Net) (o : Ordered net) (f : Fault) (F : ℕ) (s : Split) (hn : s.node < net.size) (ht : s.frame < s.c + F + 1) where
  abbrev S : ℕ → StuckLines
  S = present_below s.c (lines_of f)

  abbrev W : ℕ
  W = s.c + F + 1

  side : ℕ → Bool
  side v = closes net (lines_of f) s.c F (branch_of net f F s v)

  -- where a split does not close, what is known in the branch that was worked out last keeps its values open
  pub last-kept : split_closes net f F s ≡ false → KeptOpen net f F s.c (window_bytes net S W (last_branch net f F s).values)
  unfolding split_closes last_branch side
  last-kept = go (side 0) refl
    where
      kept : (v : ℕ) → v < 2 → side v ≡ false → KeptOpen net f F s.c (window_bytes net S W (branch_of net f F s v).values)
      kept v h e = open_knows_in net o f F s v hn ht h e (window_bytes net S W (branch_of net f F s v).values) (bytes_hold net S W (branch_of net f F s v).values)

      go : (q : Bool) → side 0 ≡ q → (q && side 1) ≡ false → KeptOpen net f F s.c (window_bytes net S W (branch_of net f F s (cond q 1 0)).values)
      go true e z = kept 1 (omega arith) z
      go false e z = kept 0 (omega arith) e

  -- how many steps a certificate has at most
  pub steps-few : step_count net f F s ≤ 2 * (net.size * W)
  unfolding step_count branch_of
  steps-few = omega (arith, few 0 (omega arith), few 1 (omega arith))
    where
      few : (v : ℕ) → v < 2 → length (branch_of net f F s v).steps ≤ net.size * W
      few v h = implied_few net o S W s.node s.frame v hn ht h

-- What a caller learns in a window that stands: of a trial, and of a certificate that is written.
module _ (bs : List ℕ) (n p : ℕ) (sounds : reading bs ≡ sound n p) (f : Fault) (F : ℕ) (s : Split) (values : List ℕ) (exists : fault_exists (net_of bs) f ≡ true)
    (short : s.c + F + 1 ≤ most_frames) (ht : s.frame < s.c + F + 1) (hn : s.node < (net_of bs).size) (size : length values ≡ (net_of bs).size * (s.c + F + 1)) where
  holds : window_stands bs f F s (length values) ≡ true
  holds = window-stands bs n p sounds f F s (length values) exists short ht hn size

  pub trial_says : (touched : List ℕ) → length touched ≡ length values → (r : Bool) (k m : List ℕ) → tried r k m ≡ trying bs f F s values touched
      → (r ≡ split_closes (net_of bs) f F s)
      × (k ≡ window_bytes (net_of bs) (present_below s.c (lines_of f)) (s.c + F + 1) (last_branch (net_of bs) f F s).values)
  trial_says touched g r k m e =
      let done = e ∙ sym (trying-stands bs f F s values touched holds g) in
      (ap (λ (t : Tried). t.answer) done, ap (λ (t : Tried). t.known) done)

  pub certificate_says : (certificate : List ℕ) → head_length + 14 * length values ≤ length certificate → (r : Option ℕ) (k x : List ℕ)
      → certified r k x ≡ certifying bs f F s values certificate
      → (r ≡ Some (step_count (net_of bs) f F s)) × (step_count (net_of bs) f F s ≤ 2 * ((net_of bs).size * (s.c + F + 1))) × (x ≡ written (certificate_for (net_of bs) f F s) certificate)
      × (k ≡ replicate (length values) 0)
  certificate_says certificate g r k x e =
      let done = e ∙ sym (certifying-stands bs f F s values certificate holds g) in (
        ap (λ (t : Certified). t.count) done,
        steps-few (net_of bs) (sound-ordered bs n p sounds) f F s hn ht,
        ap (λ (t : Certified). t.certificate) done,
        ap (λ (t : Certified). t.known) done,
      )
