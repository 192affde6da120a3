-- The finder's outcome by that of the search: a refusal and none are answered as they are, and for a split its certificate is written.
use Rattle.std.specs.Prelude.{None, Ok, Some, is_some}
use Rattle.std.specs.Prelude as code
use Rattle.sweeps.proofs.PartLaws.{certificate-length}
use mathlib.Core.Bool.{◌&&◌, false, false≢true, true}
use mathlib.Core.List.{List, ◌++◌, ◌∷◌}
use mathlib.Core.Option.{Option, none, some}
use mathlib.Core.Path.{◌∙◌, ◌≡◌, ap, refl, sym}
use Prim.Native.Nat.{◌*◌, ◌+◌, ◌<◌, ◌≤◌, suc, zero, ℕ}
use native.Mathlib.Nat.{mul-le-mul, mul-le-mul_left}
use native.Mathlib.Omega.{arith}
use lib.Dec.{leb}
use lib.ListN.{drop, length, length-append, length-replicate, replicate, take}
use lib.Seq.{length-take-le}
use borrow.Author.Tests.{leb-true}
use Rattle.netlist.proofs.SoundLaws.{facts, sound-size}
use Rattle.netlist.specs.Answer.{Answer, answered, refusal, refused}
use Rattle.circuit.specs.Fault.{fault_exists}
use Rattle.netlist.specs.Netlist.{net_of, node_count, pin_count, reading, sound, most_nodes}
use Rattle.trace.specs.Trace.{cleared}
use Rattle.search.proofs.SearchLaws.{answered-split}
use Rattle.search.proofs.TestLaws.{window-size}
use Rattle.search.specs.FinderCall.{FinderCall, finder_call, finder_tests, frames, largest_window}
use Rattle.search.specs.FirstSplit.{first_split}
use Rattle.search.specs.Inner.Search.{SearchOutcome, Searched, at_split, no_split, search_made, search_outcome, searched_says, searching, split_at, turned_back, unsearched}
use Rattle.sweeps.proofs.KeptLaws.{certificate_says}
use Rattle.sweeps.proofs.StandsLaws.{window-few}
use Rattle.sweeps.specs.Inner.Trials.{certified, certifying}
use Rattle.sweeps.specs.Splits.{certificate_for, step_count}
use Rattle.certificate.specs.Written.{written}
use Rattle.splits.specs.declared.split.Split.{Split}
use Rattle.finder.specs.Finder.{FinderOutcome, answer_for, bytes_for, finder_outcome, finding, found, nothing_found, searched, find_refused}
use Rattle.knowledge.specs.Window.{most_frames}
use Rattle.certificate.specs.Certificate.{head_length}

module _ (a : FinderCall) where
  -- The search is told the length of the certificate's slice, and not what it holds.
  abbrev pub search_call : FinderCall
  search_call = finder_call a.netlist a.fault a.b a.f a.first a.second (replicate (length a.certificate) 0)

  -- what becomes of an answer of the search, with v and w in the work slices
  abbrev pub answered_by : List ℕ → List ℕ → Searched → FinderOutcome
  answered_by v w (split_at s) =
      let net = net_of a.netlist in
      finder_outcome (found s.c (length (certificate_for net a.fault a.f s)) (step_count net a.fault a.f s)) v w (written (certificate_for net a.fault a.f s) a.certificate)
  answered_by v w no_split = finder_outcome nothing_found v w a.certificate
  answered_by v w (turned_back k) = finder_outcome (refused k) v w a.certificate

  abbrev pub finished : SearchOutcome → FinderOutcome
  finished o = answered_by o.first o.second o.answer

  -- by the split that is found, and by the tests: what the finder answers, and the search
  abbrev split_answered : Option Split → FinderOutcome
  split_answered x =
      let net = net_of a.netlist in
      let v = cleared (largest_window a) a.first in
      let w = cleared (largest_window a) a.second in
      finder_outcome (answer_for net a.fault a.f x) v w (written (bytes_for net a.fault a.f x) a.certificate)

  abbrev tested : Option ℕ → FinderOutcome
  tested r = elim r [ some k ↦ find_refused k a | none ↦ searched a ]

  abbrev search_tested : Option ℕ → SearchOutcome
  search_tested r = elim r [ some k ↦ unsearched k search_call | none ↦ search_made search_call ]

  -- the tests ask nothing of the certificate's slice but its length
  abbrev refusal_in : ℕ → Option ℕ
  refusal_in room =
      elim (fault_exists (net_of a.netlist) a.fault) [
        | false ↦ some 9
        | true ↦ elim (leb (frames a) most_frames) [
          | false ↦ some 10
          | true ↦ elim (leb (largest_window a) (length a.first) && leb (largest_window a) (length a.second)) [
            | false ↦ some 11
            | true ↦ elim (leb (head_length + 14 * largest_window a) room) [ false ↦ some 12 | true ↦ none ]
          ]
        ]
      ]

  pub same-refusal : refusal finder_tests a ≡ refusal finder_tests search_call
  same-refusal = ap refusal_in (sym (length-replicate {A = ℕ} (length a.certificate) 0))

  -- THE law of the two: the finder finishes what the search answers
  pub finding-finished : finding a ≡ finished (searching search_call)
  unfolding finding searching searched answer_for bytes_for
  finding-finished = by-reading (reading a.netlist)
    where
      by-split : (x : Option Split) → split_answered x ≡ answered_by (cleared (largest_window a) a.first) (cleared (largest_window a) a.second) (at_split x)
      by-split none = refl
      by-split (some s) = refl

      by-test : (r : Option ℕ) → tested r ≡ finished (search_tested r)
      by-test (some k) = refl
      by-test none = by-split (first_split (net_of a.netlist) a.fault a.b a.f)

      by-reading : (r : Answer) → ◌≡◌ {A = FinderOutcome} (elim r [ refused k ↦ find_refused k a | answered _ ↦ tested (refusal finder_tests a) ])
          (finished (elim r [ refused k ↦ unsearched k search_call | answered _ ↦ search_tested (refusal finder_tests search_call) ]))
      by-reading (refused k) = refl
      by-reading (answered vs) = by-test (refusal finder_tests a) ∙ ap (λ (r : Option ℕ). finished (search_tested r)) same-refusal

  -- so an answer of the search is the finder's, finished
  pub search_answers : {r : Searched} {v w : List ℕ} (s : Searched) → search_outcome r v w ≡ searching search_call → r ≡ s → answered_by v w s ≡ finding a
  search_answers {r} {v} {w} s e q = sym (finding-finished ∙ ap finished (sym e) ∙ ap (answered_by v w) q)

-- the cases of the search's answer, where it is no refusal
pub none_found : {r : code.Option Split} {v w : List ℕ} {o : SearchOutcome} → search_outcome (searched_says (Ok r)) v w ≡ o → r ≡ None → search_outcome no_split v w ≡ o
none_found {v = v} {w = w} e q = ap (λ (r : code.Option Split). search_outcome (searched_says (Ok r)) v w) (sym q) ∙ e

pub split_found : {r : code.Option Split} {v w : List ℕ} {o : SearchOutcome} {s : Split} → search_outcome (searched_says (Ok r)) v w ≡ o → r ≡ Some s
    → search_outcome (split_at s) v w ≡ o
split_found {v = v} {w = w} e q = ap (λ (r : code.Option Split). search_outcome (searched_says (Ok r)) v w) (sym q) ∙ e

-- What the writing of a certificate asks for, where the search has answered a split, with n nodes and v in the first slice.
pub record SplitReady (a : FinderCall) (s : Split) (v : List ℕ) (n : ℕ) : Type 0 where
  pub sound_netlist : reading a.netlist ≡ sound n (pin_count a.netlist)
  pub there : fault_exists (net_of a.netlist) a.fault ≡ true
  pub narrow : s.c + a.f + 1 ≤ most_frames
  pub frame_within : s.frame < s.c + a.f + 1
  pub node_within : s.node < n
  pub small : n * (s.c + a.f + 1) ≤ most_nodes * most_frames
  pub part : n * (s.c + a.f + 1) ≤ largest_window a
  pub fits-first : n * (s.c + a.f + 1) ≤ length v
  pub fits_certificate : head_length + 14 * (n * (s.c + a.f + 1)) ≤ length a.certificate
  pub first_cleared : v ≡ cleared (largest_window a) a.first

pub split-ready : (a : FinderCall) (s : Split) (v w : List ℕ) (n : ℕ) → n ≡ node_count a.netlist
    → search_outcome (split_at s) v w ≡ searching (search_call a) → SplitReady a s v n
split-ready a s v w n q e =
    let f = answered-split (search_call a) s v w e in
    let r : reading a.netlist ≡ sound n (pin_count a.netlist) = f.sound_netlist ∙ ap (λ (x : ℕ). sound x (pin_count a.netlist)) (sym q) in
    let size : n ≡ (net_of a.netlist).size = sound-size a.netlist n (pin_count a.netlist) r in
    let in_window = f.is_first.within in
    let wide : a.b + a.f + 1 ≤ most_frames = leb-true (a.b + a.f + 1) most_frames f.passed.1.0 in
    let up : s.c + a.f + 1 ≤ a.b + a.f + 1 = omega (arith, in_window.0) in
    let least : n * (s.c + a.f + 1) ≤ n * (a.b + a.f + 1) = mul-le-mul_left n up in
    let whole : n * (a.b + a.f + 1) ≡ largest_window a = window-size (search_call a) n (pin_count a.netlist) r in
    let few : n ≤ most_nodes = (facts a.netlist n (pin_count a.netlist) r).few_nodes in
    let thin : s.c + a.f + 1 ≤ most_frames = omega (arith, up, wide) in
    let all : n * (s.c + a.f + 1) ≤ most_nodes * most_frames = mul-le-mul few thin in
    let part : n * (s.c + a.f + 1) ≤ largest_window a = omega (arith, least, whole) in
    let room : head_length + 14 * largest_window a ≤ length (replicate {A = ℕ} (length a.certificate) 0) = leb-true _ _ f.passed.1.1.1.0 in
    let long = ap (λ (l : List ℕ). length l) f.first_cleared ∙ length-append (replicate (largest_window a) 0) (drop (largest_window a) a.first) in
    record {
      sound_netlist = r;
      there = f.passed.0;
      narrow = thin;
      frame_within = in_window.1;
      node_within = omega (arith, in_window.2, size);
      small = omega (arith, all);
      part = part;
      fits-first = omega (arith, part, long, length-replicate {A = ℕ} (largest_window a) 0);
      fits_certificate = omega (arith, part, room, length-replicate {A = ℕ} (length a.certificate) 0);
      first_cleared = f.first_cleared;
    }

again : (k z : ℕ) (m : List ℕ) → k ≤ z → replicate k 0 ++ drop k (replicate z 0 ++ m) ≡ replicate z 0 ++ m
again zero z m h = refl
again (suc k) zero m h = absurd (omega arith)
again (suc k) (suc z) m h = ap (λ (r : List ℕ). 0 ∷ r) (again k z m (omega arith))

-- a cleared slice whose first k bytes are cleared once more
cleared-again : (k z : ℕ) (l : List ℕ) → k ≤ z → replicate k 0 ++ drop k (cleared z l) ≡ cleared z l
cleared-again k z l h = again k z (drop z l) h

-- What the writing of the certificate says then: the step count, the certificate, and that the first slice is as the search left it.
pub written_says : (a : FinderCall) (s : Split) (v : List ℕ) (n : ℕ) → SplitReady a s v n → (r : code.Option ℕ) (k x : List ℕ)
    → certified r k x ≡ certifying a.netlist a.fault a.f s (take (n * (s.c + a.f + 1)) v) a.certificate
    → (r ≡ Some (step_count (net_of a.netlist) a.fault a.f s))
    × (step_count (net_of a.netlist) a.fault a.f s ≤ 2 * (most_nodes * most_frames))
    × (x ≡ written (certificate_for (net_of a.netlist) a.fault a.f s) a.certificate)
    × (k ++ drop (n * (s.c + a.f + 1)) v ≡ v)
written_says a s v n y r k x e =
    let W : ℕ = s.c + a.f + 1 in
    let bs = a.netlist in
    let size : n ≡ (net_of bs).size = sound-size bs n (pin_count bs) y.sound_netlist in
    let full : length (take (n * W) v) ≡ n * W = length-take-le (n * W) v y.fits-first in
    let said =
    certificate_says bs n (pin_count bs) y.sound_netlist a.fault a.f s (take (n * W) v) y.there y.narrow y.frame_within (omega (arith, size, y.node_within))
    (full ∙ ap (λ (m : ℕ). m * W) size) a.certificate (omega (arith, full, y.fits_certificate)) r k x e in
    let few = window-few bs n (pin_count bs) W y.sound_netlist y.narrow in
    let clear : k ≡ replicate (n * W) 0 = said.3 ∙ ap (λ (m : ℕ). replicate m 0) full in (
      said.0,
      omega (arith, said.1, few),
      said.2,
      (λ i. clear i ++ drop (n * W) (y.first_cleared i)) ∙ cleared-again (n * W) (largest_window a) a.first y.part ∙ sym y.first_cleared,
    )

-- Where the search has answered a split, its certificate is written. So there is a step count, which is small, and the outcome is the finder's.
module _ (a : FinderCall) (s : Split) (v w : List ℕ) (n : ℕ) (size : n ≡ node_count a.netlist)
    (answer : search_outcome (split_at s) v w ≡ searching (search_call a)) (r : code.Option ℕ) (k x : List ℕ)
    (e : certified r k x ≡ certifying a.netlist a.fault a.f s (take (n * (s.c + a.f + 1)) v) a.certificate) where
  pub unwritten : r ≡ None → ⊥
  unwritten q = false≢true (ap is_some (sym q ∙ (written_says a s v n (split-ready a s v w n size answer) r k x e).0))

  pub mark_made : (m : ℕ) → r ≡ Some m
      → (m ≤ 2 * (most_nodes * most_frames)) × (finder_outcome (found s.c (head_length + 7 * m) m) (k ++ drop (n * (s.c + a.f + 1)) v) w x ≡ finding a)
  mark_made m q =
      let said = written_says a s v n (split-ready a s v w n size answer) r k x e in
      let count : m ≡ step_count (net_of a.netlist) a.fault a.f s = cc in
      let long = ap (λ (m : ℕ). head_length + 7 * m) count ∙ sym (certificate-length (net_of a.netlist) a.fault a.f s) in (
        omega (arith, count, said.1),
        (λ j. finder_outcome (found s.c (long j) (count j)) (said.3 j) w (said.2 j)) ∙ search_answers a (split_at s) answer refl,
      )
