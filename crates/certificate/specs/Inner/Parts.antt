-- The two parts of a certificate's head, as they are written: `head_bytes` is the one and then the other.
use Rattle.std.specs.Prelude.{List, [], ◌++◌, ◌∷◌, ◌+◌, ℕ}
use Rattle.values.specs.Lists.{bytes₂, bytes₄}
use Rattle.circuit.specs.Fault.{site_byte}
use Rattle.certificate.specs.Certificate.{head_length}
use Rattle.certificate.specs.declared.layout.Head.{Head}

-- fault node, site, u, c, F, split node, split frame
abbrev pub named_bytes : Head → List ℕ
named_bytes h = bytes₂ h.fault.node ++ (site_byte h.fault.site ∷ h.fault.stuck ∷ h.c ∷ h.f ∷ bytes₂ h.node ++ (h.frame ∷ []))

-- the pairs of offset and length of runs of l₀ and l₁ bytes
abbrev pub pairs_bytes : ℕ → ℕ → List ℕ
pairs_bytes l₀ l₁ = bytes₄ head_length ++ (bytes₄ l₀ ++ (bytes₄ (head_length + l₀) ++ bytes₄ l₁))
