-- Where the fault is seen at or after clock b, no window up to that of b has a split that closes (`windows_ruled_out`).
use Prim.Native.Nat.{ℕ, suc, ◌+◌}
use mathlib.Core.Option.{none}
use mathlib.Core.Path.{◌≡◌, subst, sym}
use native.Mathlib.Omega.{arith}
use Rattle.netlist.proofs.SoundLaws.{answered-sound}
use Rattle.netlist.specs.Netlist.{net_of}
use Rattle.search.proofs.RuledOutLaws.{windows_ruled_out}
use Rattle.search.specs.FirstSplit.{try_windows}
use Rattle.search.proofs.question.Question.split_in_window.Goals as goal

pub returns-then-rules_out : goal.returns-then-rules_out
returns-then-rules_out c =
    let q = c.args.self.now in
    let bs = q.netlist.now in
    let next : q.b + 1 ≡ suc q.b = omega arith in
    let seen = c.rules_out.ensures c.if-rules_out.true in
    let out = windows_ruled_out bs q.fault q.b q.f (answered-sound bs _ q.sound_netlist) q.fault_there q.frames_few q.b seen (omega arith) in
    sym (subst (λ (m : ℕ). try_windows (net_of bs) q.fault q.f m ≡ none) next out)
