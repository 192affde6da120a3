use Prim.Native.Nat.{ℕ, ◌≤◌}
use lib.ListN.{length, length-replicate, replicate, take}
use lib.Seq.{length-take-le}
use mathlib.Core.Path.{◌≡◌, sym}
use native.Mathlib.Omega.{arith}
use Rattle.netlist.proofs.SoundLaws.{facts}
use Rattle.netlist.specs.Netlist.{most_nodes, pin_count, reading, sound}
use Rattle.std.proofs.Common.{List}
use Rattle.search.proofs.question.Question.rules_out.Goals as goal

-- a sound netlist has few nodes, so a part of the room has a value for each node
room-part : (s : List ℕ) (n : ℕ) → reading s ≡ sound n (pin_count s) → length (take n (replicate {A = ℕ} most_nodes 0)) ≡ n
room-part s n e =
    let few : n ≤ most_nodes = (facts s n (pin_count s) e).few_nodes in
    length-take-le n (replicate most_nodes 0) (omega (arith, length-replicate {A = ℕ} most_nodes 0, few))

pub slice_bounds-circuits-end-5 : goal.slice_bounds-circuits-end-5
slice_bounds-circuits-end-5 c = let q = c.args.self.now in sym (room-part q.netlist.now q.n q.sound_netlist)

pub slice_bounds-circuits-end-6 : goal.slice_bounds-circuits-end-6
slice_bounds-circuits-end-6 c = let q = c.args.self.now in sym (room-part q.netlist.now q.n q.sound_netlist)

pub invariant_of-circuits-clause-good_fits : goal.invariant_of-circuits-clause-good_fits
invariant_of-circuits-clause-good_fits c =
    let q = c.args.self.now in
    let r = room-part q.netlist.now q.n q.sound_netlist in
    (r, r)
