-- One place of the notes is rewritten, or keeps its byte.
use mathlib.Core.List.{List}
use mathlib.Core.Path.{◌∙◌, ◌≡◌, ap, sym}
use Prim.Native.Nat.{◌+◌, ◌<◌, ◌≤◌, ℕ}
use lib.ListN.{set}
use lib.Seq.{set-get_or}
use borrow.Author.Tests.{le-ltb, lt-ltb}
use Rattle.values.proofs.ListLaws.{rewritten_more}
use Rattle.values.specs.Lists.{at}
use Rattle.values.specs.Inner.Rewriting.{rewritten}
use Rattle.splits.specs.Inner.NoteBytes.{note_over, with_note}

-- a place that is stored as it is
pub kept : (notes : List ℕ) (p : ℕ) → notes ≡ set notes p (at notes p)
kept notes p = sym (set-get_or notes p 0)

-- a loop that rewrites the notes, at place p
module _ (values : List ℕ) (c : ℕ) (before notes : List ℕ) (p : ℕ) where
  after : notes ≡ rewritten (note_over values c) p before → set notes p (note_over values c notes p) ≡ rewritten (note_over values c) (p + 1) before
  after e = ap (λ (x : List ℕ). set x p (note_over values c x p)) e ∙ rewritten_more (note_over values c) before p

  -- a value is noted
  pub noted-value : (byte : ℕ) → byte ≡ at notes p → at values p < 2 → notes ≡ rewritten (note_over values c) p before
      → set notes p (with_note byte (c + 1)) ≡ rewritten (note_over values c) (p + 1) before
  unfolding note_over
  noted-value byte q h e = ap (λ (x : ℕ). set notes p (with_note x (c + 1))) q ∙ ap (set notes p) new ∙ after e
    where
      new : with_note (at notes p) (c + 1) ≡ note_over values c notes p
      new = rw (lt-ltb _ _ h)

  -- there is no value
  pub noted-none : 2 ≤ at values p → notes ≡ rewritten (note_over values c) p before → notes ≡ rewritten (note_over values c) (p + 1) before
  unfolding note_over
  noted-none h e = sym (set-get_or notes p 0) ∙ ap (set notes p) old ∙ after e
    where
      old : at notes p ≡ note_over values c notes p
      old = rw (le-ltb _ _ h)
