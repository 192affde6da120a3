-- What the finder's answers say: a mark's certificate is accepted, so its fault is redundant; and none means that no split closes.
use mathlib.Core.Bool.{true}
use mathlib.Core.List.{List, [], ◌∷◌}
use mathlib.Core.Option.{Option, none, some}
use mathlib.Core.Path.{◌∙◌, ◌≡◌, ap, refl, subst, sym}
use Prim.Native.Nat.{◌+◌, ◌≤◌, ℕ}
use native.Mathlib.Omega.{arith}
use lib.ListN.{drop, length, take}
use lib.Seq.{take-append_seam}
use borrow.Author.Tests.{leb-true}
use Rattle.netlist.proofs.RefusalLaws.{Passed, refusal_none}
use Rattle.netlist.proofs.SoundLaws.{answered-sound}
use Rattle.netlist.specs.Answer.{Answer, answered, refusal, refused}
use Rattle.circuit.specs.Fault.{fault_exists}
use Rattle.netlist.specs.Netlist.{Net, net_of, node_count, pin_count, reading, sound}
use Rattle.circuit.specs.declared.fault.Fault.{Fault}
use Rattle.search.proofs.ClosingLaws.{count_few, count_is, mark_accepted, mark_redundant, names-c, names-f, names-fault, names-frame, names-node}
use Rattle.search.proofs.FirstLaws.{split-none, split_some}
use Rattle.search.specs.FinderCall.{FinderCall, finder_tests, frames}
use Rattle.search.specs.FirstSplit.{IsFirst, first_split}
use Rattle.sweeps.specs.Splits.{certificate_for, step_count}
use Rattle.certificate.specs.Written.{written}
use Rattle.splits.specs.declared.split.Split.{Split}
use Rattle.finder.specs.Finder.{FinderOutcome, answer_for, bytes_for, finder_outcome, finding, found, nothing_found, searched, find_refused}
use Rattle.finder.specs.Marks.{IsMark, NoneCloses}
use Rattle.knowledge.specs.Window.{most_frames}

-- THE law of a split that is found, in a sound netlist, for a fault that exists and a window that is not too wide: it is the first that
-- closes, so its certificate is a mark
pub split-marks : (nb : List ℕ) (f : Fault) (B F : ℕ) → reading nb ≡ sound (node_count nb) (pin_count nb) → fault_exists (net_of nb) f ≡ true → B + F + 1 ≤ most_frames
    → (s : Split) → IsFirst (net_of nb) f B F s → IsMark nb f B F s.c (step_count (net_of nb) f F s) (certificate_for (net_of nb) f F s)
split-marks nb f B F sound-nb there narrow s is_first =
    let w = is_first.within in
    let q = is_first.closes in
    record {
      split = s;
      is_first = is_first;
      at_c = refl;
      names = (names-fault nb f B F sound-nb there narrow s w q, names-c nb f B F sound-nb there narrow s w q, names-f nb f B F sound-nb there narrow s w q);
      names_split = (names-node nb f B F sound-nb there narrow s w q, names-frame nb f B F sound-nb there narrow s w q);
      counted = count_is nb f B F sound-nb there narrow s w q;
      few = count_few nb f B F sound-nb there narrow s w q;
      accepts = mark_accepted nb f B F sound-nb there narrow s w q;
      redundant = mark_redundant nb f B F sound-nb there narrow s w q;
    }

-- an answer that is no refusal: the netlist is sound, all tests pass, and the search was made
pub record Searched (a : FinderCall) (o : FinderOutcome) : Type 0 where
  pub sound_netlist : reading a.netlist ≡ sound (node_count a.netlist) (pin_count a.netlist)
  pub passed : Passed finder_tests a
  pub outcome : o ≡ searched a

pub answered-searched : (a : FinderCall) (o : FinderOutcome) (vs : List ℕ) → o ≡ finding a → o.answer ≡ answered vs → Searched a o
unfolding finding
answered-searched a o vs e h = go (reading a.netlist) refl e
  where
    tested : Option ℕ → FinderOutcome
    tested r = elim r [ some k ↦ find_refused k a | none ↦ searched a ]

    not_refused : (k : ℕ) → o ≡ find_refused k a → Searched a o
    not_refused k e = absurd (let q : refused k ≡ answered vs = sym (ap (λ (o : FinderOutcome). o.answer) e) ∙ h in let z : ◌≡◌ {A = ℕ} 0 1 = cc in omega arith)

    tests : reading a.netlist ≡ sound (node_count a.netlist) (pin_count a.netlist) → (r : Option ℕ) → refusal finder_tests a ≡ r → o ≡ tested r → Searched a o
    tests s none q e = record { sound_netlist = s; passed = refusal_none finder_tests a q; outcome = e }
    tests s (some k) q e = not_refused k e

    go : (r : Answer) → reading a.netlist ≡ r → o ≡ elim r [ refused k ↦ find_refused k a | answered _ ↦ tested (refusal finder_tests a) ] → Searched a o
    go (refused k) q e = not_refused k e
    go (answered us) q e = tests (answered-sound a.netlist us q) (refusal finder_tests a) refl e

-- THE statement of the finder: what it says where it answers found, and where it answers none
module _ (a : FinderCall) (answer : Answer) (v w x : List ℕ) (e : finder_outcome answer v w x ≡ finding a) where
  abbrev circuit : Net
  circuit = net_of a.netlist

  abbrev first : Option Split
  first = first_split circuit a.fault a.b a.f

  answer_is : Searched a (finder_outcome answer v w x) → answer ≡ answer_for circuit a.fault a.f first
  unfolding searched
  answer_is r = ap (λ (o : FinderOutcome). o.answer) r.outcome

  bytes_are : Searched a (finder_outcome answer v w x) → x ≡ written (bytes_for circuit a.fault a.f first) a.certificate
  unfolding searched
  bytes_are r = ap (λ (o : FinderOutcome). o.certificate) r.outcome

  found_means : (c l k : ℕ) → answer ≡ found c l k → IsMark a.netlist a.fault a.b a.f c k (take l x)
  unfolding answer_for bytes_for
  found_means c l k h = go first refl (answer_is r) (bytes_are r)
    where
      r : Searched a (finder_outcome answer v w x)
      r = answered-searched a (finder_outcome answer v w x) (c ∷ l ∷ k ∷ []) e h

      go : (y : Option Split) → first ≡ y → answer ≡ answer_for circuit a.fault a.f y → x ≡ written (bytes_for circuit a.fault a.f y) a.certificate
          → IsMark a.netlist a.fault a.b a.f c k (take l x)
      go none q p z = absurd (let z : ◌≡◌ {A = ℕ} 0 1 = cc in omega arith)
      go (some s) q p z =
          let bs : List ℕ = certificate_for circuit a.fault a.f s in
          let ec : s.c ≡ c = cc in
          let el : length bs ≡ l = cc in
          let ek : step_count circuit a.fault a.f s ≡ k = cc in
          let eb : bs ≡ take l x = sym (take-append_seam bs (drop (length bs) a.certificate)) ∙ (λ i. take (el i) (sym z i)) in
          let n : frames a ≤ most_frames = leb-true (frames a) most_frames r.passed.1.0 in
          let i = split_some circuit a.fault a.f a.b s q in
          let m = split-marks a.netlist a.fault a.b a.f r.sound_netlist r.passed.0 n s i in
          subst (λ (c : ℕ). IsMark a.netlist a.fault a.b a.f c k (take l x)) ec
          (subst (λ (k : ℕ). IsMark a.netlist a.fault a.b a.f s.c k (take l x)) ek
          (subst (IsMark a.netlist a.fault a.b a.f s.c (step_count circuit a.fault a.f s)) eb m))

  none_means : answer ≡ nothing_found → NoneCloses a.netlist a.fault a.b a.f
  unfolding answer_for NoneCloses
  none_means h = go first refl (answer_is (answered-searched a (finder_outcome answer v w x) [] e h))
    where
      go : (y : Option Split) → first ≡ y → answer ≡ answer_for circuit a.fault a.f y → NoneCloses a.netlist a.fault a.b a.f
      go none q p = split-none circuit a.fault a.f a.b q
      go (some s) q p = absurd (let z : ◌≡◌ {A = ℕ} 0 1 = cc in omega arith)

pub finding_means : (a : FinderCall) (answer : Answer) (v w x : List ℕ) → finder_outcome answer v w x ≡ finding a
    → ((c l k : ℕ) → answer ≡ found c l k → IsMark a.netlist a.fault a.b a.f c k (take l x))
    × (answer ≡ nothing_found → NoneCloses a.netlist a.fault a.b a.f)
finding_means a answer v w x e = (found_means a answer v w x e, none_means a answer v w x e)
