-- Splits that are noted as staying open.
use mathlib.Core.List.{List}
use mathlib.Core.Logic.{◌⊎◌, inl, inr}
use mathlib.Core.Path.{◌∙◌, ◌≡◌, ap, refl, subst, sym}
use native.Mathlib.Omega.{arith}
use Rattle.circuit.specs.declared.fault.Fault.{Fault}
use Rattle.splits.specs.Split.{split}
use Rattle.sweeps.specs.Splits.{split_closes}
use Rattle.sweeps.specs.Inner.Work.{KeptOpen}
use Rattle.search.specs.Inner.Notes.{Noted, NotedStayOpen}
use Rattle.splits.specs.Inner.NoteBytes.{note_at, note_over, noted_with, with_note}
use Rattle.values.proofs.ListLaws.{set_either}
use mathlib.Core.Bool.{Bool, cond, false, true}
use Prim.Native.Nat.{◌*◌, ◌+◌, ◌/◌, ◌<◌, suc, zero, ℕ}
use lib.Dec.{ltb}
use lib.ListN.{length}
use borrow.Author.Tests.{ltb-true}
use Rattle.simulator.proofs.ClockLaws.{Ordered}
use Rattle.netlist.specs.Netlist.{Net, net_of}
use Rattle.values.specs.Lists.{at}
use Rattle.values.specs.Inner.Rewriting.{rewritten}
use Rattle.sweeps.proofs.KeptLaws.{open_set_kept}
use Rattle.sweeps.specs.Inner.Trials.{Tried, noting_open, opening}
use Rattle.knowledge.specs.Window.{most_frames}

note_read : (old x : ℕ) → with_note old x / 4 ≡ x
note_read old x = omega arith

-- what is noted place by place
pub noted_places : (values : List ℕ) (c : ℕ) (notes : List ℕ) (place : ℕ) → Noted values c notes (noted_with values c notes) place
unfolding Noted noted_with rewritten note_over
noted_places values c notes place = chosen (ltb c most_frames)
  where
    Fine : ℕ → Type 0
    Fine x = (x ≡ at notes place) ⊎ ((x / 4 ≡ c + 1) × (at values place < 2))

    new : (l : List ℕ) (i : ℕ) → place ≡ i → Fine (at l place) → (q : Bool) → ltb (at values i) 2 ≡ q → Fine (cond q (with_note (at l i) (c + 1)) (at l i))
    new l i e old true h = inr (note_read (at l i) (c + 1), subst (λ (j : ℕ). at values j < 2) (sym e) (ltb-true (at values i) 2 h))
    new l i e old false h = subst (λ (j : ℕ). Fine (at l j)) e old

    up_to : (n : ℕ) → Fine (at (rewritten (note_over values c) n notes) place)
    up_to zero = inl refl
    up_to (suc n) =
        let l = rewritten (note_over values c) n notes in
        set_either Fine l n place (note_over values c l n) 0 (λ e. new l n e (up_to n) (ltb (at values n) 2) refl) (up_to n)

    chosen : (q : Bool) → Fine (at (cond q (rewritten (note_over values c) (length values) notes) notes) place)
    chosen true = up_to (length values)
    chosen false = inl refl

-- where guesses stand alone nothing is noted
pub notes_guesses : (net : Net) (f : Fault) (F : ℕ) (l : List ℕ) → ((p : ℕ) → at l p < 4) → NotedStayOpen net f F l
notes_guesses net f F l low s h g e = absurd (omega (arith, low (s.frame * net.size + s.node)))

-- A set whose values stay open is noted.
pub notes_set : (net : Net) (f : Fault) (F c : ℕ) (known before after : List ℕ) → KeptOpen net f F c known → ((place : ℕ) → Noted known c before after place)
    → NotedStayOpen net f F before
    → NotedStayOpen net f F after
unfolding Noted KeptOpen
notes_set net f F c known before after stay noted old r hr hm e = go (noted (r.frame * net.size + r.node))
  where
    go : (at after (r.frame * net.size + r.node) ≡ at before (r.frame * net.size + r.node)) ⊎ ((note_at after (r.frame * net.size + r.node) ≡ c + 1) × (at known (r.frame * net.size + r.node) < 2))
        → split_closes net f F r ≡ false
    go (inl q) = old r hr hm (ap (λ (x : ℕ). x / 4) (sym q) ∙ e)
    go (inr q) =
        let z : c ≡ r.c = omega (arith, q.0, e) in
        subst (λ (x : ℕ). split_closes net f F (split x r.frame r.node) ≡ false) z
        (stay r.node r.frame hm (omega (arith, z)) q.1)

-- A set is noted where it is open.
pub notes_open : (bs : List ℕ) → Ordered (net_of bs) → (f : Fault) (F c : ℕ) (values touched notes : List ℕ) → NotedStayOpen (net_of bs) f F notes
    → NotedStayOpen (net_of bs) f F (noting_open bs f c F values touched notes).noted
unfolding noting_open
notes_open bs o f F c values touched notes old = go t.answer refl
  where
    t : Tried
    t = opening bs f c F values touched

    go : (q : Bool) → t.answer ≡ q → NotedStayOpen (net_of bs) f F (cond q (noted_with t.known c notes) notes)
    go true e =
        notes_set (net_of bs) f F c t.known notes (noted_with t.known c notes) (open_set_kept bs o f c F values touched e) (noted_places t.known c notes) old
    go false e = old
