-- What the finder has answered is said in each of the three arms, from which answer was told there. `fault-turn` says what the turn makes of
-- it, so each return rewrites the progress and the line that was written to that. Where the finder refuses nothing, the netlist is
-- sound and the fault exists, which `fault_counted` asks for, and by `turns_fall` fewer turns are left.
use Rattle.std.proofs.Common.{◌∙◌, Err, None, Ok, Some, ap, refl}
use Rattle.report_text.proofs.TurnLaws.{Said, answered-exists, answered-sound, fault-turn, said, turns_fall}
use Rattle.report_text.specs.Turns.{made_for}
use Rattle.report_text.proofs.progress.Progress.look_at.Goals as goal
use Rattle.report_text.proofs.progress.Progress.look_at.Goals.{In-Err, In-Ok-None, In-Ok-Some}

found : (c : In-Ok-Some)
    → Said c.args.input.now c.args.fault c.args.first.now c.args.second.now c.args.certificate.now
    c.find-finding.new.first c.find-finding.new.second c.find-finding.new.certificate (Ok (Some c.in-Ok-Some.mark))
found c =
    let a = c.args in
    said a.input.now a.fault a.first.now a.second.now a.certificate.now _ c.tail-netlist.ensures c.byte_at-b.ensures c.byte_at-f.ensures
    (c.in-Ok-Some.is ∙ ap Ok (rw c.in-Ok-Some.is at c.in-Ok-Some.field-0-is)) c.find-finding.ensures.outcome

nothing : (c : In-Ok-None)
    → Said c.args.input.now c.args.fault c.args.first.now c.args.second.now c.args.certificate.now
    c.find-finding.new.first c.find-finding.new.second c.find-finding.new.certificate (Ok None)
nothing c =
    let a = c.args in
    said a.input.now a.fault a.first.now a.second.now a.certificate.now _ c.tail-netlist.ensures c.byte_at-b.ensures c.byte_at-f.ensures
    (c.in-Ok-None.is ∙ ap Ok (rw c.in-Ok-None.is at c.in-Ok-None.field-0-is)) c.find-finding.ensures.outcome

refused : (c : In-Err)
    → Said c.args.input.now c.args.fault c.args.first.now c.args.second.now c.args.certificate.now
    c.find-finding.new.first c.find-finding.new.second c.find-finding.new.certificate (Err c.in-Err.refusal)
refused c =
    let a = c.args in
    said a.input.now a.fault a.first.now a.second.now a.certificate.now _ c.tail-netlist.ensures c.byte_at-b.ensures c.byte_at-f.ensures
    c.in-Err.is c.find-finding.ensures.outcome

pub fault_counted-requires-clause-netlist_sound : goal.fault_counted-requires-clause-netlist_sound
fault_counted-requires-clause-netlist_sound c =
    rw c.tail-netlist.ensures (answered-sound (found (goal.at.fault_counted-requires-clause-netlist_sound c).In-Ok-Some) refl)

pub fault_counted-requires-clause-fault_exists : goal.fault_counted-requires-clause-fault_exists
fault_counted-requires-clause-fault_exists c =
    rw c.tail-netlist.ensures (answered-exists (found (goal.at.fault_counted-requires-clause-fault_exists c).In-Ok-Some) refl)

pub fault_counted-requires-in-Ok-None-clause-netlist_sound : goal.fault_counted-requires-in-Ok-None-clause-netlist_sound
fault_counted-requires-in-Ok-None-clause-netlist_sound c =
    rw c.tail-netlist.ensures (answered-sound (nothing c) refl)

pub fault_counted-requires-in-Ok-None-clause-fault_exists : goal.fault_counted-requires-in-Ok-None-clause-fault_exists
fault_counted-requires-in-Ok-None-clause-fault_exists c =
    rw c.tail-netlist.ensures (answered-exists (nothing c) refl)

pub returns-in-Ok-Some-clause-turn_made : goal.returns-in-Ok-Some-clause-turn_made
unfolding made_for
returns-in-Ok-Some-clause-turn_made c =
    let line = c.mark_line-length.ensures in
    rw (c.fault_counted.ensures, c.tail-netlist.ensures, c.marked.ensures, line.length_said.0, line.written, c.head_of-head.ensures)
    (fault-turn (found (goal.at.returns-in-Ok-Some-clause-turn_made c).In-Ok-Some) c.args.self c.args.line.now)

pub returns-in-Ok-Some-clause-turns_fall : goal.returns-in-Ok-Some-clause-turns_fall
unfolding made_for
returns-in-Ok-Some-clause-turns_fall c =
    rw (c.fault_counted.ensures, c.tail-netlist.ensures) (turns_fall c.args.input.now c.args.fault (answered-exists (found (goal.at.returns-in-Ok-Some-clause-turns_fall c).In-Ok-Some) refl))

pub returns-in-Ok-None-clause-turn_made : goal.returns-in-Ok-None-clause-turn_made
unfolding made_for
returns-in-Ok-None-clause-turn_made c =
    rw (c.fault_counted-in-Ok-None.ensures, c.tail-netlist.ensures) (fault-turn (nothing (goal.at.returns-in-Ok-None-clause-turn_made c).In-Ok-None) c.args.self c.args.line.now)

pub returns-in-Ok-None-clause-turns_fall : goal.returns-in-Ok-None-clause-turns_fall
unfolding made_for
returns-in-Ok-None-clause-turns_fall c =
    let said = nothing (goal.at.returns-in-Ok-None-clause-turns_fall c).In-Ok-None in
    rw (c.fault_counted-in-Ok-None.ensures, c.tail-netlist.ensures) (turns_fall c.args.input.now c.args.fault (answered-exists said refl))

pub returns-in-Err-clause-turn_made : goal.returns-in-Err-clause-turn_made
unfolding made_for
returns-in-Err-clause-turn_made c =
    let line = c.refused_line.ensures in
    rw (c.ended.ensures, line.length_said.0, line.written, c.from.ensures) (fault-turn (refused (goal.at.returns-in-Err-clause-turn_made c).In-Err) c.args.self c.args.line.now)
