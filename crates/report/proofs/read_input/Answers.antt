-- What a read puts into the rest of the buffer stands behind what was read before.
use Rattle.std.proofs.Common.{◌≡◌, ◌∙◌, ◌+◌, ◌-◌, ◌≤◌, ℕ, List, ◌++◌, ap, arith, length, length-append, length-take-le, subst, sym, take}
use Rattle.std.proofs.KnownBytes.{Consumes-trans}
use Rattle.std.proofs.Math.Seq.{take-append-add}
use Rattle.std.proofs.lemmas.List.{take-append-le}
use Rattle.std.specs.Io.KnownBytes.{Consumes}
use borrow.Rule.Slice.PartMut.{put_mid}
use Rattle.report.proofs.read_input.Goals as goal

take-put_mid : (l part : List ℕ) (place n : ℕ) → place ≤ length l → n ≤ length part
    → take (place + n) (put_mid place (length l - place) l part) ≡ take place l ++ take n part
take-put_mid l part place n h g =
    ap (λ (k : ℕ). take (k + n) (put_mid place (length l - place) l part)) (sym (length-take-le place l h))
    ∙ take-append-add (take place l) _ n
    ∙ ap (λ (r : List ℕ). take place l ++ r) (take-append-le n part _ g)

fits-put_mid : (l part : List ℕ) (place n : ℕ) → place ≤ length l → n ≤ length part → place + n ≤ length (put_mid place (length l - place) l part)
fits-put_mid l part place n h g = simp length-append (omega (arith, length-take-le place l h))

pub loop-done-preserved : goal.loop-done-preserved
loop-done-preserved g c =
    let l = c.loop-done in
    let read = c.in_ok-count.ensures in
    let within : l.done ≤ length l.buffer = omega arith in
    let whole = take-put_mid l.buffer c.read.new.buf l.done c.in_ok-count.count within read.bound.0 in (
      fits-put_mid l.buffer c.read.new.buf l.done c.in_ok-count.count within read.bound.0,
      subst (Consumes _ _) (sym whole) (Consumes-trans _ _ _ _ _ l.invariant.1 read.bytes.0),
    )
