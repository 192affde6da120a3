-- 01, "Report program": numbers as decimal text, in ASCII.
use Rattle.std.specs.Prelude.{false, true, List, [], ◌++◌, ◌∷◌, ◌%◌, ◌+◌, ◌/◌, suc, zero, ℕ, ltb}

-- one space between; a line feed ends each line
abbrev pub space : ℕ
space = 32

abbrev pub line_feed : ℕ
line_feed = 10

-- the digit of a number below 10
abbrev pub digit : ℕ → ℕ
digit d = 48 + d

-- the decimal digits of n; where there are more than k, the last k of them
unfoldable pub digits : ℕ → ℕ → List ℕ
digits zero n = []
digits (suc k) n = elim (ltb n 10) [ true ↦ digit n ∷ [] | false ↦ digits k (n / 10) ++ (digit (n % 10) ∷ []) ]

-- n in decimal, without padding: no number n has more than n + 1 digits
unfoldable pub decimal : ℕ → List ℕ
decimal n = digits (suc n) n

-- a number, and the byte after it
unfoldable pub field : ℕ → ℕ → List ℕ
field n b = decimal n ++ (b ∷ [])
