-- Where no split closes for b (`window_open`), none closes for a smaller c either (`none_below`), so none is found. Else the splits are
-- walked, and what `walk_splits` ensures is what is asked.
use Prim.Native.Nat.{ℕ, ◌+◌, ◌-◌, ◌<◌, suc}
use mathlib.Core.Bool.{false}
use mathlib.Core.Path.{◌≡◌, sym}
use native.Mathlib.Omega.{arith}
use Rattle.netlist.specs.Netlist.{net_of, pin_count}
use Rattle.simulator.proofs.ClockLaws.{sound-ordered}
use Rattle.splits.specs.Split.{split}
use Rattle.sweeps.proofs.Earlier.{none_below}
use Rattle.sweeps.specs.Splits.{split_closes}
use Rattle.search.proofs.FirstLaws.{windows-none-by}
use Rattle.search.proofs.QuestionLaws.{question_size}
use Rattle.search.proofs.search.Search.search_windows.Goals as goal

pub returns-then-window_open : goal.returns-then-window_open
returns-then-window_open c =
    let q = c.args.self.now.question in
    let s = q.netlist.now in
    let net = net_of s in
    let o = sound-ordered s q.n (pin_count s) q.sound_netlist in
    let shut : (t n : ℕ) → t < q.b + q.f + 1 → n < net.size → split_closes net q.fault q.f (split q.b t n) ≡ false =
    λ t n h k. c.window_open.ensures.value c.if-window_open.true t n h (omega (arith, question_size q, k)) in
    sym (windows-none-by net q.fault q.f (suc q.b) (λ c t n h g k. none_below net o q.fault q.f q.b shut (q.b - c) c t n (omega (arith, h)) g k))
