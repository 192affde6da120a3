-- 01, "Knowledge": a split is a node and frame; here of the window whose fault frame is c.
use Rattle.std.specs.Prelude.{ℕ}
use Rattle.splits.specs.declared.split.Split.{Split}

abbrev pub split : ℕ → ℕ → ℕ → Split
split c t n = record { c = c; frame = t; node = n }
