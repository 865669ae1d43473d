-- Lists of coefficients of which some are negated: 02, S-11, "Negating every coefficient", "Negating p and the odd coefficients".
use Rattle.std.specs.Prelude.{Bool, true, false, not, cond, List, [], ◌∷◌, ℕ, zero, suc, ℤ, neg_ℤ}

-- which places: none, every one, the odd ones
abbrev pub none : ℕ → Bool
none k = false

abbrev pub every : ℕ → Bool
every k = true

unfoldable pub odd : ℕ → Bool
odd zero = false
odd (suc k) = not (odd k)

-- −c where b holds, else c
abbrev pub negated_if : Bool → ℤ → ℤ
negated_if b c = cond b (neg_ℤ c) c

-- the coefficients from place k on, negated at the places that are chosen
unfoldable pub negated_from : (ℕ → Bool) → ℕ → List ℤ → List ℤ
negated_from chosen k [] = []
negated_from chosen k (c ∷ cs) = negated_if (chosen k) c ∷ negated_from chosen (suc k) cs
