-- Both runs stand within the certificate where its layout is right, and what is found of each branch is what the definition finds of it.
use native.Mathlib.Omega.{arith}
use mathlib.Core.Path.{◌∙◌, ap}
use Rattle.std.proofs.Common.{rules}
use Rattle.netlist.specs.Netlist.{net_of}
use Rattle.certificate.proofs.LayoutLaws.{runs-within}
use Rattle.certificate.specs.declared.layout.Head.{Head}
use Rattle.checker.specs.Checker.{replayed}
use Rattle.checker.proofs.ReplayLaws.{judged_read}
use Rattle.checker.proofs.window.Window.judge.Goals as goal

pub run_of-requires : goal.run_of-requires
run_of-requires c = runs-within c.args.certificate.now c.requires.layout_right 0 (omega arith)

pub run_of-requires-2 : goal.run_of-requires-2
run_of-requires-2 c = runs-within c.args.certificate.now c.requires.layout_right 1 (omega arith)

pub returns : goal.returns
returns c =
    let w = c.args.self in
    let net = net_of w.netlist.now in
    let bs = c.args.certificate.now in
    let head = c.requires.head_read in
    let zero = judged_read net bs c.run_of.result.now w.head w.w 0 head w.frames_in_all c.run_of.ensures (runs-within bs c.requires.layout_right 0 (omega arith)) in
    let one = judged_read net bs c.run_of-2.result.now w.head w.w 1 head w.frames_in_all c.run_of-2.ensures (runs-within bs c.requires.layout_right 1 (omega arith)) in
    let said =
    c.verdict_of.ensures net bs (replayed net bs 0) (replayed net bs 1) (c.judge_branch-zero.ensures ∙ zero) (c.judge_branch-one.ensures ∙ one) (ap (λ (h : Head). h.c) head) in
    search (rules, said)
