-- Laws of what is touched, as 01 says it: whether a node is, by its kind; and what of a frame's bytes counts.
use mathlib.Core.Bool.{not, ◌||◌}
use mathlib.Core.List.{List}
use mathlib.Core.Path.{◌≡◌, ap, sym}
use Prim.Native.Nat.{◌<◌, ◌≤◌, ℕ}
use lib.Dec.{eqb}
use lib.ListN.{take}
use Rattle.trace.proofs.TouchedLaws.{touched-latched}
use Rattle.trace.proofs.TraceAgreement.{touched_from}
use Rattle.trace.specs.Trace.{node_touched, one_if, output_untouched, site_touched, touched_list}
use Rattle.values.proofs.ListLaws.{build-same, take-inside}
use Rattle.gates.proofs.ValueLaws.{unknown_high}
use Rattle.circuit.specs.Fault.{StuckLines}
use Rattle.gates.specs.Kind.{is_output}
use Rattle.values.specs.Lists.{at}
use Rattle.netlist.specs.Netlist.{Net}
use Rattle.gates.specs.Value.{is_unknown}

pub touched_unknown : (v : ℕ) → 2 ≤ v → 1 ≡ one_if (is_unknown v)
touched_unknown v h = sym (ap one_if (unknown_high v h))

-- a flip-flop is touched as it was latched, unless it is faulted
module _ (net : Net) (D : StuckLines) (v ms : ℕ → ℕ) (n : ℕ) (latched : ℕ → ℕ) where
  pub touched_flip_flop : net.kind n ≡ 2 → site_touched (D.node n) (v n) (latched n) ≡ node_touched net D v latched ms n
  unfolding node_touched
  touched_flip_flop e = rw e

-- what was latched counts for the circuit's own nodes alone
pub list_latched : (net : Net) (D : StuckLines) (v : ℕ → ℕ) (l m : ℕ → ℕ) → ((n : ℕ) → n < net.size → l n ≡ m n) → touched_list net D v l ≡ touched_list net D v m
unfolding touched_list
list_latched net D v l m h = build-same (touched_from net D v l) (touched_from net D v m) net.size (λ k n p. touched-latched net D v (at k) n l m (h n p))

-- an output is untouched, read from a slice whose first n bytes say what is touched
pub output_read : (net : Net) (l : List ℕ) (n i : ℕ) → i < n → output_untouched net l i ≡ output_untouched net (take n l) i
output_read net l n i h = ap (λ (x : ℕ). not (is_output (net.kind i)) || eqb x 0) (take-inside l n i h)
