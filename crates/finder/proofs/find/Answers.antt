-- `search_answers` makes the finder's outcome from what the search answers, and `finding_means` the other promises from that outcome. A
-- refusal and none are answered as they are. Where a split is found, `ready` says, behind the count of the nodes, that all is there that
-- its certificate asks for. So it is written (`unwritten`), and `marked` says how many steps it has at most, and what the outcome is.
use Prim.Native.Nat.{◌+◌, ◌*◌, ◌≤◌}
use mathlib.Core.List.{◌++◌}
use mathlib.Core.Path.{◌≡◌, refl, sym}
use lib.ListN.{drop}
use lib.Seq.{length-take-le}
use native.Mathlib.Omega.{arith}
use Rattle.std.proofs.Common.{rules}
use Rattle.netlist.specs.Netlist.{most_nodes}
use Rattle.netlist.specs.Refusal.{number_of_refusal}
use Rattle.knowledge.specs.Window.{most_frames}
use Rattle.certificate.specs.Certificate.{head_length}
use Rattle.search.specs.FinderCall.{finder_call}
use Rattle.search.specs.Inner.Search.{no_split, turned_back}
use Rattle.finder.specs.Finder.{finder_outcome, finding, found, nothing_found}
use Rattle.finder.proofs.FoundLaws.{finding_means}
use Rattle.finder.proofs.SearchedLaws.{SplitReady, mark_made, none_found, search_answers, split-ready, split_found, unwritten}
use Rattle.finder.proofs.find.Goals as goal
use Rattle.finder.proofs.find.Goals.{After-node_count-n, In-Some-written, In_default, In_default-written}

pub returns-in_err-searched-clause-outcome : goal.returns-in_err-searched-clause-outcome
returns-in_err-searched-clause-outcome c =
    let a = c.args in
    let q = finder_call a.netlist.now a.fault a.b a.f a.first.now a.second.now a.certificate.now in
    let said = search_answers q (turned_back (number_of_refusal c.in_err-searched.field-0.0)) c.in_err-searched.ensures refl in
    search (rules, said)

-- the search has found no split
nothing : (c : In_default) → finder_outcome nothing_found c.first_split.new.first c.first_split.new.second c.args.certificate.now
    ≡ finding (finder_call c.args.netlist.now c.args.fault c.args.b c.args.f c.args.first.now c.args.second.now c.args.certificate.now)
nothing c = search_answers _ no_split (none_found c.in_ok-searched.ensures c.in_default.is) refl

pub returns-in_default-clause-outcome : goal.returns-in_default-clause-outcome
returns-in_default-clause-outcome c = nothing c

pub returns-in_default-clause-means_none_closes : goal.returns-in_default-clause-means_none_closes
returns-in_default-clause-means_none_closes c = (finding_means _ _ _ _ _ (nothing c)).1

-- the search has found a split
ready : (c : After-node_count-n) → SplitReady (finder_call c.args.netlist.now c.args.fault c.args.b c.args.f c.args.first.now c.args.second.now c.args.certificate.now)
    c.in-Some.split c.first_split.new.first c.node_count-n.result
ready c = split-ready _ c.in-Some.split _ c.first_split.new.second _ c.node_count-n.ensures (split_found c.in_ok-searched.ensures c.in-Some.is)

pub slice_bounds-known-end : goal.slice_bounds-known-end
slice_bounds-known-end c = (ready c).fits-first

pub slice_bounds-known-end-2 : goal.slice_bounds-known-end-2
slice_bounds-known-end-2 c =
    let r = ready (goal.at.slice_bounds-known-end-2 c).After-node_count-n in
    sym (length-take-le (c.node_count-n.result * (c.in-Some.split.c + c.args.f + 1)) c.first_split.new.first r.fits-first)

missing : (c : In_default-written) → ⊥
missing c =
    let a = c.args in
    let x = c.write_certificate-written in
    unwritten (finder_call a.netlist.now a.fault a.b a.f a.first.now a.second.now a.certificate.now) c.in-Some.split _ _ _ c.node_count-n.ensures
    (split_found c.in_ok-searched.ensures c.in-Some.is) x.result x.new.known x.new.certificate x.ensures c.in_default-written.is

pub returns-in_default-written-clause-outcome : goal.returns-in_default-written-clause-outcome
returns-in_default-written-clause-outcome c = absurd (missing c)

pub returns-in_default-written-clause-means_none_closes : goal.returns-in_default-written-clause-means_none_closes
returns-in_default-written-clause-means_none_closes c = absurd (missing c)

marked : (c : In-Some-written) → (c.in-Some-written.steps ≤ 2 * (most_nodes * most_frames))
    × (finder_outcome (found c.in-Some.split.c (head_length + 7 * c.in-Some-written.steps) c.in-Some-written.steps)
    (c.write_certificate-written.new.known ++ drop (c.node_count-n.result * (c.in-Some.split.c + c.args.f + 1)) c.first_split.new.first)
    c.first_split.new.second c.write_certificate-written.new.certificate
    ≡ finding (finder_call c.args.netlist.now c.args.fault c.args.b c.args.f c.args.first.now c.args.second.now c.args.certificate.now))
marked c =
    let x = c.write_certificate-written in
    mark_made _ c.in-Some.split _ _ _ c.node_count-n.ensures (split_found c.in_ok-searched.ensures c.in-Some.is) x.result x.new.known x.new.certificate x.ensures
    c.in-Some-written.steps c.in-Some-written.is

pub overflow_mul-length : goal.overflow_mul-length
overflow_mul-length c = omega (arith, (marked c).0)

pub overflow_add-length : goal.overflow_add-length
overflow_add-length c = omega (arith, (marked c).0)

pub returns-clause-outcome : goal.returns-clause-outcome
returns-clause-outcome c = (marked c).1

pub returns-clause-means_mark : goal.returns-clause-means_mark
returns-clause-means_mark c = (finding_means _ _ _ _ _ (marked c).1).0
