use mathlib.Core.Path.{subst, sym}
use native.Mathlib.Omega.{arith}
use Rattle.search.proofs.QuestionLaws.{question_size}
use Rattle.search.specs.Inner.Asked.{Asked}
use Rattle.search.specs.declared.question.Question.{Question}
use Rattle.splits.specs.Split.{split}
use Rattle.search.proofs.search.Search.frame_open.Goals as goal

pub closes-requires : goal.closes-requires
closes-requires c =
    let q = c.args.self.now.question in
    let within : Asked q (split q.b c.args.frame c.loop-node.node) = (omega arith, c.requires, omega (arith, question_size q, c.loop-node-test.true)) in
    subst (λ (x : Question). Asked x (split q.b c.args.frame c.loop-node.node)) (sym c.loop-node.invariant.0) within
