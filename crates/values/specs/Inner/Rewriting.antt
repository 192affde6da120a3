-- Lists that are rewritten in place, as loops do it.
use Rattle.std.specs.Prelude.{List, suc, zero, ℕ, set}

-- a list with its places 0 to n - 1 rewritten by rising number, each from the list as it then stands; places past its end there are none
unfoldable pub rewritten : (List ℕ → ℕ → ℕ) → ℕ → List ℕ → List ℕ
rewritten f zero l = l
rewritten f (suc n) l = let e = rewritten f n l in set e n (f e n)
