-- 01, "Certificate and checker": the bytes that are written. What they say is told by Certificate.
use Rattle.std.specs.Prelude.{List, [], ◌++◌, ◌∷◌, ◌*◌, ◌+◌, ℕ, drop, length}
use Rattle.values.specs.Lists.{bytes₂, bytes₄}
use Rattle.circuit.specs.Fault.{site_byte}
use Rattle.certificate.specs.Certificate.{head_length}
use Rattle.certificate.specs.declared.layout.Head.{Head}
use Rattle.certificate.specs.declared.step.Step.{Step}

-- these bytes at a slice's start, all others as they were
abbrev pub written : List ℕ → List ℕ → List ℕ
written bs l = bs ++ drop (length bs) l

-- A step: node (2), frame (1), value (1), then node (2) and frame (1) of the relation used.
abbrev pub step_bytes : Step → List ℕ
step_bytes s = bytes₂ s.node ++ (s.frame ∷ s.value ∷ bytes₂ s.via ++ (s.during ∷ []))

-- the steps of a branch, one after the other
unfoldable pub run_bytes : List Step → List ℕ
run_bytes [] = []
run_bytes (s ∷ ss) = step_bytes s ++ run_bytes ss

-- Fault node (2), site (1), u (1), c (1), F (1), split node (2), split frame (1), two pairs of byte offset (4) and length (4). The runs have
-- l₀ and l₁ bytes: the first starts behind the head, the second follows the first.
unfoldable pub head_bytes : Head → ℕ → ℕ → List ℕ
head_bytes h l₀ l₁ =
    bytes₂ h.fault.node
    ++ (site_byte h.fault.site ∷ h.fault.stuck ∷ h.c ∷ h.f ∷ bytes₂ h.node
    ++ (h.frame ∷ bytes₄ head_length ++ (bytes₄ l₀ ++ (bytes₄ (head_length + l₀) ++ bytes₄ l₁))))

-- the certificate with this head whose branches made the steps r₀ and r₁: branch 1's steps are written straight after branch 0's
unfoldable pub certificate_of : Head → List Step → List Step → List ℕ
certificate_of h r₀ r₁ = head_bytes h (7 * length r₀) (7 * length r₁) ++ (run_bytes r₀ ++ run_bytes r₁)
