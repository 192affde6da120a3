-- 01, "Report program": the text of the lines, in ASCII.
use Rattle.std.specs.Prelude.{ℕ, List, [], ◌∷◌, ◌++◌}
use Rattle.circuit.specs.Fault.{site_byte}
use Rattle.circuit.specs.declared.fault.Fault.{Fault}
use Rattle.splits.specs.declared.split.Split.{Split}
use Rattle.fault_list.specs.Text.{field, line_feed, space}

-- node, site, u, c, split node, split frame
unfoldable pub mark_line : Fault → Split → List ℕ
mark_line f s =
    field f.node space
    ++ (field (site_byte f.site) space
    ++ (field f.stuck space ++ (field s.c space ++ (field s.node space ++ field s.frame line_feed))))

-- "K of M"
unfoldable pub total_line : ℕ → ℕ → List ℕ
total_line k m = field k space ++ (111 ∷ 102 ∷ space ∷ [] ++ field m line_feed)

-- "refused", a space and its number
unfoldable pub refused_line : ℕ → List ℕ
refused_line k = 114 ∷ 101 ∷ 102 ∷ 117 ∷ 115 ∷ 101 ∷ 100 ∷ space ∷ [] ++ field k line_feed

-- a line has at most so many bytes
abbrev pub line_length : ℕ
line_length = 80
