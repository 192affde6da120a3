use Rattle.std.proofs.Common.{arith, rules}
use Rattle.values.proofs.SetsLaws.{sets_in_part}
use Rattle.certificate.specs.Written.{step_bytes}
use Rattle.certificate.proofs.writer.put_step.Goals as goal

-- the step that is written at the start of the run's part stands at its place in the run
pub returns : goal.returns
returns c =
    let a = c.args in
    let placed = sets_in_part (step_bytes a.step) a.run.now a.place (omega arith) in
    search (rules, placed)
