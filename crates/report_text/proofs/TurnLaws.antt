-- What holds of one turn: it makes what the finder's answer says, and fewer turns are left after it.
use Rattle.std.proofs.Common.{◌≡◌, ℕ, ◌+◌, ◌<◌, true, false, List, length, sym, ap, ◌∙◌, true≢false, arith}
use Rattle.netlist.specs.Answer.{answered}
use Rattle.circuit.specs.Fault.{fault_exists}
use Rattle.netlist.specs.Netlist.{net_of, node_count, pin_count, reading, sound}
use Rattle.circuit.specs.declared.fault.Fault.{Fault}
use Rattle.finder.proofs.FoundLaws.{Searched, answered-searched}
use Rattle.finder.specs.Finder.{FinderOutcome, finder_outcome, finding, finding_says}
use Rattle.search.specs.FinderCall.{finder_call}
use Rattle.finder.specs.declared.Mark.{Mark}
use Rattle.netlist.specs.declared.refusal.Refusal.{Refusal}
use Rattle.std.specs.Prelude.{Option, Result}
use Rattle.fault_list.specs.Faults.{fault_after, rest_after}
use Rattle.report_text.proofs.StageLaws.{list_left, rest-left}
use Rattle.report_text.specs.Report.{given_b, given_f, netlist_in}
use Rattle.report_text.specs.Turns.{fault_turn, is_over, made_for, stage_at, line_written, turn, turns_left}
use Rattle.report_text.specs.declared.progress.Progress.{Progress}
use Rattle.report_text.specs.declared.progress.Stage.{Stage}
use Rattle.report_text.specs.declared.progress.Stage.TheVariants.{Counted, Looking, Over}

-- the finder answers s of a fault, on slices that hold v, w and x, and leaves v', w' and x' in them
pub record Said (input : List ℕ) (f : Fault) (v w x v' w' x' : List ℕ) (s : Result (Option Mark) Refusal) : Type 0 where
  pub outcome : finder_outcome (finding_says s) v' w' x' ≡ finding (finder_call (netlist_in input) f (given_b input) (given_f input) v w x)

-- by the finder's contract
pub said : (input : List ℕ) (f : Fault) (v w x : List ℕ) {v' w' x' nb : List ℕ} {b F : ℕ} {r : Result (Option Mark) Refusal} (s : Result (Option Mark) Refusal)
    → nb ≡ netlist_in input → b ≡ given_b input → F ≡ given_f input
    → r ≡ s → finder_outcome (finding_says r) v' w' x' ≡ finding (finder_call nb f b F v w x) → Said input f v w x v' w' x' s
said input f v w x {v'} {w'} {x'} s nb-is b-is F-is q e =
    record {
      outcome = ap (λ (r : Result (Option Mark) Refusal). finder_outcome (finding_says r) v' w' x') (sym q) ∙ e ∙ (λ i. finding (finder_call (nb-is i) f (b-is i) (F-is i) v w x));
    }

module _ {input : List ℕ} {f : Fault} {v w x v' w' x' : List ℕ} {s : Result (Option Mark) Refusal} (e : Said input f v w x v' w' x' s) where
  -- it says what the turn makes
  pub fault-turn : (p : Progress) (l : List ℕ)
      → line_written (made_for (net_of (netlist_in input)) f p.marks p.faults x' (finding_says s)) v' w' x' l ≡ fault_turn f (turn input p v w x l)
  unfolding fault_turn
  fault-turn p l =
      ap
      (λ (o : FinderOutcome). line_written (made_for (net_of (netlist_in input)) f p.marks p.faults o.certificate o.answer) o.first o.second o.certificate l)
      e.outcome

  -- an answer that is no refusal: the netlist is sound, and the fault exists
  searched-by : {vs : List ℕ} → finding_says s ≡ answered vs
      → Searched (finder_call (netlist_in input) f (given_b input) (given_f input) v w x) (finder_outcome (finding_says s) v' w' x')
  searched-by {vs} h =
      answered-searched (finder_call (netlist_in input) f (given_b input) (given_f input) v w x) (finder_outcome (finding_says s) v' w' x') vs e.outcome h

  pub answered-sound : {vs : List ℕ} → finding_says s ≡ answered vs → reading (netlist_in input) ≡ sound (node_count (netlist_in input)) (pin_count (netlist_in input))
  answered-sound h = (searched-by h).sound_netlist

  pub answered-exists : {vs : List ℕ} → finding_says s ≡ answered vs → fault_exists (net_of (netlist_in input)) f ≡ true
  answered-exists h = (searched-by h).passed.0

-- fewer turns are left than faults and two more
left-few : (input : List ℕ) (s : Stage) → turns_left input s < length (list_left (net_of (netlist_in input)) s) + 2
left-few input (Looking f) = omega arith
left-few input Counted = omega arith
left-few input Over = omega arith

pub turns_fall : (input : List ℕ) (f : Fault) → fault_exists (net_of (netlist_in input)) f ≡ true
    → turns_left input (stage_at (net_of (netlist_in input)) (fault_after (net_of (netlist_in input)) f)) < length (rest_after (net_of (netlist_in input)) f) + 2
turns_fall input f e =
    let net = net_of (netlist_in input) in rw (rest-left net f e) (left-few input (stage_at net (fault_after net f)))

-- where the report is not over, a turn is left
pub turn-left : (input : List ℕ) (s : Stage) → is_over s ≡ false → 0 < turns_left input s
turn-left input (Looking f) e = omega arith
turn-left input Counted e = omega arith
turn-left input Over e = absurd (true≢false e)
