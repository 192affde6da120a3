-- The split that is tried after another.
use Rattle.std.specs.Prelude.{cond, ◌+◌, ℕ, leb, ltb}
use Rattle.splits.specs.Split.{split}
use Rattle.splits.specs.declared.split.Split.{Split}

-- the following split, in a circuit of N nodes: by c, then frames, then nodes, rising. One of a window above 255 frames stays: the
-- numbers in a split are bytes. `Split::next` is this; WalkLaws of the crate `search` shows that it walks in the order of `try_windows`.
unfoldable pub next_split : ℕ → ℕ → Split → Split
next_split N F s =
    cond (leb 255 (s.c + F)) s
    (cond (ltb (s.node + 1) N) (split s.c s.frame (s.node + 1)) (cond (ltb s.frame (s.c + F)) (split s.c (s.frame + 1) 0) (split (s.c + 1) 0 0)))
