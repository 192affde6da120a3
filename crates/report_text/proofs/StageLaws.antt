-- The stages of a report: what of the fault list is left at each.
use Rattle.std.proofs.Common.{◌≡◌, Bool, true, false, cond, ltb, List, [], ◌∷◌, refl, ◌∙◌, ltb-true}
use Rattle.std.specs.Prelude.{MatchOption, None, Some}
use Rattle.circuit.specs.Fault.{fault_exists}
use Rattle.netlist.specs.Netlist.{Net}
use Rattle.circuit.specs.declared.fault.Fault.{Fault}
use Rattle.fault_list.proofs.FaultListLaws.{exists-node, exists-stuck, list_from, next-exists, rest-step}
use Rattle.fault_list.specs.Faults.{fault_after, rest_after}
use Rattle.fault_list.specs.Inner.Walk.{listed}
use Rattle.report_text.specs.Turns.{stage_at}
use Rattle.report_text.specs.declared.progress.Stage.{Stage}
use Rattle.report_text.specs.declared.progress.Stage.TheVariants.{Counted, Looking, Over}

module _ (net : Net) where
  -- the fault that is looked at next, with what is behind it
  abbrev pub list_left : Stage → List Fault
  list_left (Looking f) = f ∷ rest_after net f
  list_left Counted = []
  list_left Over = []

  stage-left : (f : Fault) → list_from net f ≡ list_left (stage_at net f)
  unfolding stage_at
  stage-left f = go (ltb f.node net.size)
    where
      go : (b : Bool) → cond b (f ∷ rest_after net f) [] ≡ list_left (cond b (Looking f) Counted)
      go true = refl
      go false = refl

  -- the fault that follows is looked at next, and where none follows, all are counted
  pub next_stage : {s : Stage} (f : Fault) → MatchOption (listed net f) (s ≡ Counted) (λ x. s ≡ Looking x) → s ≡ stage_at net f
  unfolding stage_at
  next_stage {s} f = go (ltb f.node net.size)
    where
      go : (b : Bool) → MatchOption (cond b (Some f) None) (s ≡ Counted) (λ x. s ≡ Looking x) → s ≡ cond b (Looking f) Counted
      go true e = e
      go false e = e

  -- behind a fault comes what is left at the next stage
  pub rest-left : (f : Fault) → fault_exists net f ≡ true → rest_after net f ≡ list_left (stage_at net (fault_after net f))
  rest-left f e = rest-step net f.node f.site f.stuck (exists-node net f e) (exists-stuck net f e) ∙ stage-left (fault_after net f)

  -- a fault that is looked at next exists
  abbrev pub StageExists : Stage → Type 0
  StageExists (Looking f) = fault_exists net f ≡ true
  StageExists Counted = Unit {0}
  StageExists Over = Unit {0}

  pub stage-exists : (f : Fault) → fault_exists net f ≡ true → StageExists (stage_at net (fault_after net f))
  unfolding stage_at
  stage-exists f e = go (ltb (fault_after net f).node net.size) refl
    where
      go : (b : Bool) → ltb (fault_after net f).node net.size ≡ b → StageExists (cond b (Looking (fault_after net f)) Counted)
      go true q = next-exists net f e (ltb-true (fault_after net f).node net.size q)
      go false q = tt
