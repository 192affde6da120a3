-- What the functions that other crates call answer and leave in lent slices, for any bytes whatever.
use Rattle.std.specs.Prelude.{Bool, ◌&&◌, ◌||◌, cond, false, not, Option, None, Some, List, [], ◌%◌, ◌*◌, ◌+◌, ◌/◌, ℕ, eqb, leb, ltb, length, replicate}
use Rattle.values.specs.Lists.{at, every, table}
use Rattle.gates.specs.Value.{is_unknown}
use Rattle.netlist.specs.Answer.{number_of}
use Rattle.circuit.specs.Fault.{StuckLines, fault_exists, lines_of}
use Rattle.netlist.specs.Netlist.{Net, net_of, reading}
use Rattle.circuit.specs.declared.fault.Fault.{Fault}
use Rattle.certificate.specs.Certificate.{head_length}
use Rattle.checker.specs.Checker.{closes}
use Rattle.trace.specs.Inner.Tracing.{tracing}
use Rattle.knowledge.specs.Window.{Branch, known, present_below, most_frames}
use Rattle.knowledge.specs.Inner.Slice.{known_in}
use Rattle.sweeps.specs.Inner.Work.{Work, in_bytes, work}
use Rattle.sweeps.specs.Splits.{branch_of, certificate_for, split_closes, step_count}
use Rattle.sweeps.specs.Sweeps.{sweep}
use Rattle.certificate.specs.Written.{written}
use Rattle.splits.specs.Inner.NoteBytes.{noted_with}
use Rattle.splits.specs.declared.split.Split.{Split}

-- The netlist is sound, the fault exists, and the split lies in a window that is not too long and has so many places.
unfoldable pub window_stands : List ℕ → Fault → ℕ → Split → ℕ → Bool
window_stands netlist f F s places =
    let net = net_of netlist in
    let W = s.c + F + 1 in
    leb W most_frames && (ltb s.frame W && (ltb s.node net.size && (eqb places (net.size * W) && (fault_exists net f && eqb (number_of (reading netlist)) 0))))

-- what is known in a window of W frames, where the values l were concluded: frame by frame, a byte for each node
unfoldable pub window_bytes : Net → (ℕ → StuckLines) → ℕ → List ℕ → List ℕ
window_bytes net S W l = table (λ p. known net S l (p % net.size) (p / net.size)) (net.size * W)

-- an answer, and what the lent slices of values and of what is touched then hold
pub record Tried : Type 0 where
  pub answer : Bool
  pub known : List ℕ
  pub touched : List ℕ

abbrev pub tried : Bool → List ℕ → List ℕ → Tried
tried answer known touched = record { answer = answer; known = known; touched = touched }

-- the branch of a split that is worked out last: branch 1 only where branch 0 closes
unfoldable pub last_branch : Net → Fault → ℕ → Split → Branch
last_branch net f F s = branch_of net f F s (cond (closes net (lines_of f) s.c F (branch_of net f F s 0)) 1 0)

-- Whether both branches of a split close. What is known in the branch that was worked out last then stands in the one slice, and the other
-- is 0. Where the window does not stand or a slice has another length, nothing is said to close, and nothing is altered.
unfoldable pub trying : List ℕ → Fault → ℕ → Split → List ℕ → List ℕ → Tried
trying netlist f F s values touched =
    let net = net_of netlist in
    cond (window_stands netlist f F s (length values) && eqb (length touched) (length values))
    (tried (split_closes net f F s) (window_bytes net (present_below s.c (lines_of f)) (s.c + F + 1) (last_branch net f F s).values) (replicate (length touched) 0))
    (tried false values touched)

-- the bytes have the values that the fault holds below frame c, in a circuit of N nodes
unfoldable pub has_held : ℕ → Fault → ℕ → List ℕ → Bool
has_held N f c values = let u = (lines_of f).node f.node in is_unknown u || every (λ t. eqb (at values (t * N + f.node)) u) c

-- the bytes of a set of values after one sweep over the window
abbrev pub swept_once : Net → Fault → ℕ → ℕ → List ℕ → Work
swept_once net f c F values = sweep (in_bytes net.size) net (present_below c (lines_of f)) (c + F + 1) (work values [] 0 false)

-- the effect is followed through a set that a sweep has left as it was
unfoldable pub following : Net → Fault → ℕ → ℕ → Work → List ℕ → Tried
following net f c F swept touched =
    let t = tracing net (lines_of f) c F (known_in swept.known net.size) touched in
    cond (eqb swept.steps 0) (tried (not t.dies) swept.known t.touched) (tried false swept.known touched)

-- the window of c is not too long, and both slices have a byte for each of its places; N: the number of nodes
unfoldable pub work_fits : ℕ → ℕ → ℕ → List ℕ → List ℕ → Bool
work_fits N c F values touched = leb (c + F + 1) most_frames && (eqb (length values) (N * (c + F + 1)) && eqb (length touched) (N * (c + F + 1)))

-- Whether a set of values is open in the window of c: it has the held values, a sweep makes no step, and in it the effect does not die.
-- Where the window is too long or a slice has another length, nothing is said to be open, and nothing is altered.
unfoldable pub opening : List ℕ → Fault → ℕ → ℕ → List ℕ → List ℕ → Tried
opening netlist f c F values touched =
    let net = net_of netlist in
    cond (work_fits net.size c F values touched && has_held net.size f c values)
    (following net f c F (swept_once net f c F values) touched)
    (tried false values touched)

-- the step count of a certificate that was written, and what the lent slices of values and of the certificate then hold
pub record Certified : Type 0 where
  pub count : Option ℕ
  pub known : List ℕ
  pub certificate : List ℕ

abbrev pub certified : Option ℕ → List ℕ → List ℕ → Certified
certified count known certificate = record { count = count; known = known; certificate = certificate }

-- The certificate of a split is written at its slice's start. The slice of values is 0 afterwards. Where the window does not stand or the
-- certificate's slice is too short for any of this window, nothing is written or altered, and there is no count.
unfoldable pub certifying : List ℕ → Fault → ℕ → Split → List ℕ → List ℕ → Certified
certifying netlist f F s values certificate =
    let net = net_of netlist in
    cond (window_stands netlist f F s (length values) && leb (head_length + 14 * length values) (length certificate))
    (certified (Some (step_count net f F s)) (replicate (length values) 0) (written (certificate_for net f F s) certificate))
    (certified None values certificate)

-- an answer, and what the lent slices of values, of what is touched and of notes then hold
pub record Noting : Type 0 where
  pub tried : Tried
  pub noted : List ℕ

abbrev pub noting : Tried → List ℕ → Noting
noting t noted = record { tried = t; noted = noted }

-- a set of values is noted where it is open
unfoldable pub noting_open : List ℕ → Fault → ℕ → ℕ → List ℕ → List ℕ → List ℕ → Noting
noting_open netlist f c F values touched noted =
    let t = opening netlist f c F values touched in
    noting t (cond t.answer (noted_with t.known c noted) noted)
