-- Both branches write their runs into parts of the certificate's slice: branch 0 behind the head (`first_run`), branch 1 behind branch
-- 0 (`second_run`). With the head in front these bytes are the certificate of the definition (`certificate-written`). A branch has at
-- most as many steps as the window has places, which are few (`few`): so there is room for both runs, and the counts fit their numbers.
use Prim.Native.Nat.{ℕ, ◌+◌, ◌-◌, ◌*◌, ◌≤◌}
use native.Mathlib.Omega.{arith}
use borrow.Author.Rules.{rules}
use mathlib.Core.List.{List}
use mathlib.Core.Path.{◌≡◌, ◌∙◌, ap}
use lib.ListN.{length}
use lib.Seq.{length-sets, sets}
use borrow.Rule.Slice.PartMut.{mid_of, put_mid}
use Rattle.values.proofs.SetsLaws.{sets_in_part}
use Rattle.certificate.specs.Certificate.{head_length}
use Rattle.certificate.specs.Written.{head_bytes, run_bytes}
use Rattle.certificate.specs.declared.step.Step.{Step}
use Rattle.sweeps.specs.Inner.Branches.{branch_in, net_in}
use Rattle.sweeps.proofs.PartLaws.{certificate-written}
use Rattle.sweeps.proofs.BranchLaws.{trial_few}
use Rattle.sweeps.proofs.window.Trial.write_branches.Goals as goal

-- what the two branches leave in their parts of the slice; k says how many steps the code counts in branch 0
module _ (l : List ℕ) (r₀ r₁ : List Step) (k : ℕ) (count : k ≡ length r₀) (room : head_length + (7 * length r₀ + 7 * length r₁) ≤ length l) where
  first_run : (run : List ℕ) → run ≡ sets (mid_of head_length (length l - head_length) l) 0 (run_bytes r₀)
      → put_mid head_length (length l - head_length) l run ≡ sets l head_length (run_bytes r₀)
  first_run run e = ap (put_mid head_length (length l - head_length) l) e ∙ sets_in_part (run_bytes r₀) l head_length (omega (arith, room))

  second_run : (first run : List ℕ) → first ≡ sets l head_length (run_bytes r₀)
      → run ≡ sets (mid_of (head_length + 7 * k) (length first - (head_length + 7 * k)) first) 0 (run_bytes r₁)
      → put_mid (head_length + 7 * k) (length first - (head_length + 7 * k)) first run ≡ sets (sets l head_length (run_bytes r₀)) (head_length + 7 * length r₀) (run_bytes r₁)
  second_run first run f e =
      let same = ap (λ (x : List ℕ). length x) f in
      let m : head_length + 7 * k ≤ length first = omega (arith, same, length-sets l head_length (run_bytes r₀), room, count) in
      ap (put_mid (head_length + 7 * k) (length first - (head_length + 7 * k)) first) e
      ∙ sets_in_part (run_bytes r₁) first (head_length + 7 * k) m
      ∙ (λ i. sets (f i) (head_length + 7 * count i) (run_bytes r₁))

pub overflow_cast-zero : goal.overflow_cast-zero
overflow_cast-zero c = omega (arith, trial_few c.args.self, c.work_branch-zero.ensures.few)

pub overflow_cast-one : goal.overflow_cast-one
overflow_cast-one c = omega (arith, trial_few c.args.self, c.work_branch-one.ensures.few)

pub overflow_cast-result : goal.overflow_cast-result
overflow_cast-result c = omega (arith, trial_few c.args.self, c.work_branch-zero.ensures.few, c.work_branch-one.ensures.few)

pub returns-clause-written : goal.returns-clause-written
returns-clause-written c =
    let s = c.args.self in
    let zero = c.work_branch-zero in
    let one = c.work_branch-one in
    let l = c.args.certificate.now in
    let r₀ = (branch_in s 0).steps in
    let r₁ = (branch_in s 1).steps in
    let count₀ = zero.ensures.counted in
    let count₁ = one.ensures.counted in
    let room : head_length + (7 * length r₀ + 7 * length r₁) ≤ length l = omega (arith, c.requires.has_room, zero.ensures.few, one.ensures.few, count₀, count₁) in
    let first = first_run l r₀ r₁ zero.result.steps count₀ room zero.new.run zero.ensures.written in
    let before = put_mid head_length (length l - head_length) l zero.new.run in
    let at = head_length + 7 * zero.result.steps in
    let behind : one.new.run ≡ sets (mid_of at (length before - at) before) 0 (run_bytes r₁) = search (rules, one.ensures.written) in
    let second = second_run l r₀ r₁ zero.result.steps count₀ room before one.new.run first behind in
    c.write_head.ensures
    ∙ (λ i. sets (second i) 0 (head_bytes (c.head.ensures i) (7 * count₀ i) (7 * count₁ i)))
    ∙ certificate-written (net_in s) s.window.fault s.f s.split l room
