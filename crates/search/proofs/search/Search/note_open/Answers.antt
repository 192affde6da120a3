use mathlib.Core.Path.{ap, subst, sym}
use Rattle.netlist.specs.Netlist.{net_of, pin_count}
use Rattle.simulator.proofs.ClockLaws.{sound-ordered}
use Rattle.search.proofs.NotesLaws.{notes_open}
use Rattle.search.specs.Inner.Notes.{NotedStayOpen}
use Rattle.sweeps.specs.Inner.Trials.{Noting}
use Rattle.search.proofs.search.Search.note_open.Goals as goal

pub invariant_of-self-clause-stay_open : goal.invariant_of-self-clause-stay_open
invariant_of-self-clause-stay_open c =
    let a = c.args in
    let q = a.self.now.question in
    let bs = q.netlist.now in
    let o = sound-ordered bs q.n (pin_count bs) q.sound_netlist in
    let noted = notes_open bs o q.fault q.f a.c _ _ a.self.now.noted.now a.self.now.stay_open in
    subst (NotedStayOpen (net_of bs) q.fault q.f) (sym (ap (λ (x : Noting). x.noted) c.note_open.ensures)) noted
