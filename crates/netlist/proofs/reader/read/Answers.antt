-- The reader's refusals, in the order of its tests: the first test that fails gives its number.
use mathlib.Core.Path.{◌≡◌, ◌∙◌, refl}
use Prim.Native.Nat.{ℕ}
use borrow.Author.Tests.{eq-eqb, le-leb, lt-leb, ne_eqb}
use Rattle.std.proofs.Common.{drop}
use Rattle.netlist.proofs.NetlistLaws.{read_refused, read_sound}
use Rattle.netlist.proofs.RefusalLaws.{FirstFails, Passed, fails_here, fails_later}
use Rattle.netlist.specs.Answer.{refused}
use Rattle.netlist.specs.Netlist.{reader_tests, reading, sound}
use Rattle.netlist.proofs.reader.read.Goals as goal
use Rattle.netlist.proofs.reader.read.Goals.{After-kinds_known}

pub returns-then-netlist-lt4 : goal.returns-then-netlist-lt4
returns-then-netlist-lt4 c = read_refused _ 1 (fails_here (lt-leb _ _ c.if-netlist-lt4.true) refl)

pub returns-then-not-sizes_allowed : goal.returns-then-not-sizes_allowed
returns-then-not-sizes_allowed c = read_refused _ 2 (fails_later (le-leb 4 _ c.if-netlist-lt4.false) (fails_here (cc) refl))

pub returns-then-netlist-n : goal.returns-then-netlist-n
returns-then-netlist-n c =
    read_refused _ 3 (fails_later (le-leb 4 _ c.if-netlist-lt4.false) (fails_later (cc)
    (fails_here (rw (← c.node_count-n.ensures, ← c.pin_count-p.ensures) (ne_eqb _ _ c.if-netlist-n.true)) refl)))

-- Where the nodes are looked at the sizes and the length have passed, so that the first test to fail is one of those from 4 on.
later : (c : After-kinds_known) (k : ℕ) → FirstFails c.args.netlist.now k (drop 3 reader_tests) → refused k ≡ reading c.args.netlist.now
later c k f =
    read_refused _ k (fails_later (le-leb 4 _ c.if-netlist-lt4.false) (fails_later (cc)
    (fails_later (rw (← c.node_count-n.ensures, ← c.pin_count-p.ensures) (eq-eqb _ _ c.if-netlist-n.false)) f)))

pub returns-then-not-kinds_known : goal.returns-then-not-kinds_known
returns-then-not-kinds_known c = later (goal.at.returns-then-not-kinds_known c).After-kinds_known 4 (fails_here (cc) refl)

pub returns-then-not-pairs_joined : goal.returns-then-not-pairs_joined
returns-then-not-pairs_joined c = later (goal.at.returns-then-not-pairs_joined c).After-kinds_known 5 (fails_later (cc) (fails_here (cc) refl))

pub returns-then-not-counts_fit : goal.returns-then-not-counts_fit
returns-then-not-counts_fit c =
    later (goal.at.returns-then-not-counts_fit c).After-kinds_known 6 (fails_later (cc) (fails_later (cc) (fails_here (cc) refl)))

pub returns-then-not-all_sources_allowed : goal.returns-then-not-all_sources_allowed
returns-then-not-all_sources_allowed c =
    later (goal.at.returns-then-not-all_sources_allowed c).After-kinds_known 7 (fails_later (cc) (fails_later (cc) (fails_later (cc) (fails_here (cc) refl))))

pub returns : goal.returns
returns c =
    let passed : Passed reader_tests c.args.netlist.now =
    (le-leb 4 _ c.if-netlist-lt4.false, (cc, (rw (← c.node_count-n.ensures, ← c.pin_count-p.ensures) (eq-eqb _ _ c.if-netlist-n.false), (cc, (cc, (cc, (cc, tt))))))) in
    (λ i. sound (c.node_count-n.ensures i) (c.pin_count-p.ensures i)) ∙ read_sound _ passed
