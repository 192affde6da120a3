-- 01, "Report program": "Faults by node, site, then u."
use Rattle.std.specs.Prelude.{cond, List, [], ◌++◌, ◌∷◌, ◌+◌, ◌-◌, suc, zero, ℕ, ltb, length}
use Rattle.circuit.specs.Fault.{fault}
use Rattle.netlist.specs.Netlist.{Net}
use Rattle.circuit.specs.declared.fault.Fault.{Fault}
use Rattle.circuit.specs.declared.fault.Site.{Site}
use Rattle.circuit.specs.declared.fault.Site.TheVariants.{Pin, Whole}

-- the faults of a site: u 0, then u 1
abbrev pub site_faults : ℕ → Site → List Fault
site_faults n s = fault n s 0 ∷ fault n s 1 ∷ []

-- the faults of m pins of node n, from pin k on
unfoldable pub pin_faults : ℕ → ℕ → ℕ → List Fault
pin_faults n k zero = []
pin_faults n k (suc m) = site_faults n (Pin k) ++ pin_faults n (k + 1) m

-- Sites come as the numbers that they are written with: pins 0, 1, .. first, then the node itself, 255.
unfoldable pub node_faults : Net → ℕ → List Fault
node_faults net n = pin_faults n 0 (length (net.pins n)) ++ site_faults n Whole

-- the faults of m nodes, from node n on
unfoldable pub faults_of : Net → ℕ → ℕ → List Fault
faults_of net n zero = []
faults_of net n (suc m) = node_faults net n ++ faults_of net (n + 1) m

-- all faults of a circuit
abbrev pub faults : Net → List Fault
faults net = faults_of net 0 net.size

-- How the list is walked through; FaultListLaws shows that the walk is this list.

-- the first site of a node with m pins, and the site after its pin k
abbrev pub first_site : ℕ → Site
first_site m = cond (ltb 0 m) (Pin 0) Whole

abbrev pub site_after : ℕ → ℕ → Site
site_after m k = cond (ltb (k + 1) m) (Pin (k + 1)) Whole

-- the first fault of a node
unfoldable pub first_of : Net → ℕ → Fault
first_of net n = fault n (first_site (length (net.pins n))) 0

abbrev pub first_fault : Net → Fault
first_fault net = first_of net 0

-- the first fault behind a site of node n
unfoldable pub behind_site : Net → ℕ → Site → Fault
behind_site net n (Pin k) = fault n (site_after (length (net.pins n)) k) 0
behind_site net n Whole = first_of net (n + 1)

-- the fault that follows one with this u. Behind the last comes one of node N, which the circuit does not have.
unfoldable pub follows_at : Net → ℕ → Site → ℕ → Fault
follows_at net n s zero = fault n s 1
follows_at net n s (suc u) = behind_site net n s

abbrev pub fault_after : Net → Fault → Fault
fault_after net f = follows_at net f.node f.site f.stuck

-- What is left of the list.

-- the faults of a node behind its site s, and those of the site behind stuck value u
abbrev pub rest_of_node : Net → ℕ → Site → List Fault
rest_of_node net n (Pin k) = pin_faults n (k + 1) (length (net.pins n) - (k + 1)) ++ site_faults n Whole
rest_of_node net n Whole = []

abbrev pub rest_of_site : ℕ → Site → ℕ → List Fault
rest_of_site n s zero = fault n s 1 ∷ []
rest_of_site n s (suc u) = []

-- the faults behind f
unfoldable pub rest_after : Net → Fault → List Fault
rest_after net f = rest_of_site f.node f.site f.stuck ++ (rest_of_node net f.node f.site ++ faults_of net (f.node + 1) (net.size - (f.node + 1)))
