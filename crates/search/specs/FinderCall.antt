-- 01, "Finder" and "Turned back": what the finder is given, and the refusals 9 to 12.
use Rattle.std.specs.Prelude.{◌&&◌, List, [], ◌∷◌, ◌*◌, ◌+◌, ℕ, leb, length}
use Rattle.netlist.specs.Answer.{Test}
use Rattle.circuit.specs.Fault.{fault_exists}
use Rattle.netlist.specs.Netlist.{net_of}
use Rattle.circuit.specs.declared.fault.Fault.{Fault}
use Rattle.certificate.specs.Certificate.{head_length}
use Rattle.knowledge.specs.Window.{most_frames}

-- what the finder is given: netlist, fault, B and F, two work slices, and the slice for the certificate
pub record FinderCall : Type 0 where
  pub netlist : List ℕ
  pub fault : Fault
  pub b : ℕ
  pub f : ℕ
  pub first : List ℕ
  pub second : List ℕ
  pub certificate : List ℕ

abbrev pub finder_call : List ℕ → Fault → ℕ → ℕ → List ℕ → List ℕ → List ℕ → FinderCall
finder_call netlist fault b f first second certificate =
    record { netlist = netlist; fault = fault; b = b; f = f; first = first; second = second; certificate = certificate }

-- W of the largest window, that of B, and its places: N × W
abbrev pub frames : FinderCall → ℕ
frames a = a.b + a.f + 1

abbrev pub largest_window : FinderCall → ℕ
largest_window a = (net_of a.netlist).size * frames a

abbrev pub finder_tests : List (Test FinderCall)
finder_tests =
    record { number = 9; passes = λ a. fault_exists (net_of a.netlist) a.fault }
    ∷ record { number = 10; passes = λ a. leb (frames a) most_frames }
    ∷ record { number = 11; passes = λ a. leb (largest_window a) (length a.first) && leb (largest_window a) (length a.second) }
    ∷ record { number = 12; passes = λ a. leb (head_length + 14 * largest_window a) (length a.certificate) }
    ∷ []
