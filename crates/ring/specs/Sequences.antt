-- A list with an entry put in or taken out. Assumes nothing.
use Rattle.std.specs.Prelude.{ℕ, suc, List, ◌∷◌, ◌++◌, take, drop}

-- l with x put in at index i
unfoldable pub inserted : {A : Type 0} → List A → ℕ → A → List A
inserted l i x = take i l ++ x ∷ drop i l

-- l without its entry at index i
unfoldable pub removed : {A : Type 0} → List A → ℕ → List A
removed l i = take i l ++ drop (suc i) l
