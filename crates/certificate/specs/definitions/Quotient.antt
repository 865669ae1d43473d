-- Document 01, "The two tests", in its whole numbers: the quotient test. "Candidates are h (the answer) and w (a helper); M and H
-- are the weights of w and h." C( , ) is the whole list, nothing dropped; "inside weight( ) a bare number stands at place 0".
use Rattle.std.specs.Prelude.{Bool, List, [], ◌∷◌, ◌++◌, ℕ, ◌+◌, ◌*◌, ◌-◌, pos}
use Rattle.ring.specs.definitions.Integer.{ℤ_ring}
use Rattle.integer.specs.definitions.Rounding.{upℕ}
use Rattle.chebyshev.specs.definitions.Coefficients.{weight, subtract_lists, scale_list}
use Rattle.model.specs.definitions.Models.{scale, bad_place, different_place, large_place}
use Rattle.model.specs.definitions.Outcomes.{Outcome, outcome}
use Rattle.model.specs.definitions.Multiply.{product_list}
use Rattle.model.specs.declared.types.Model.{Model}
use Rattle.model.specs.declared.types.Candidate.{Candidate}
use Rattle.certificate.specs.definitions.Tests.{scratch_size, scratch_place, placed, with_radius, displacement}
use Rattle.certificate.specs.definitions.Tests.{Certificate, make_certificate, zero_certificate, test_places}

-- "m = up((weight(2S² − C(w,g)) + 2·M·e_g)/(2S))"
unfoldable pub quotient_contraction : Model → Model → ℕ
quotient_contraction g w =
    upℕ
    (weight (subtract_lists ℤ_ring (pos (2 * scale * scale) ∷ []) (product_list w g)) + 2 * weight w.coefficients * g.radius)
    (2 * scale)

-- "N = up((weight(C(g,h) − 2S·f) + 2S·e_f + 2·H·e_g)/(2S))"
unfoldable pub quotient_residual : Model → Model → Model → ℕ
quotient_residual f g h =
    upℕ
    (weight (subtract_lists ℤ_ring (product_list g h) (scale_list ℤ_ring (pos (2 * scale)) f.coefficients))
    + 2 * scale * f.radius
    + 2 * weight h.coefficients * g.radius)
    (2 * scale)

-- "Result h with radius up(b·S/(S−m))"
unfoldable pub quotient_model : Model → ℕ → ℕ → Model
quotient_model h m b = with_radius h (upℕ (b * scale) (scale - m))

-- Quotient f/g, for m and N, behind the place of the scratch. "each model, in operand order, h then w"; S-24's 19 for
-- f and g on different intervals "after the models"; "The test: m < S and N ≤ 2^28."
abbrev pub quotient_places_for : ℕ → ℕ → Model → Model → Model → Model → List (Bool × ℕ)
quotient_places_for m n f g h w =
    bad_place f ∷ bad_place g ∷ bad_place h ∷ bad_place w ∷ different_place f g
    ∷ (test_places m n ++ (large_place (quotient_model h m (displacement w n)) ∷ []))

-- what is given behind them
abbrev pub quotient_certificate_for : ℕ → ℕ → Model → Model → Certificate
quotient_certificate_for m n h w = let b = displacement w n in make_certificate (quotient_model h m b) m n b

-- the same for candidates, and the m and N above
abbrev pub quotient_places_behind : Model → Model → Candidate → Candidate → List (Bool × ℕ)
quotient_places_behind f g h w =
    quotient_places_for (quotient_contraction g (placed f w)) (quotient_residual f g (placed f h)) f g (placed f h) (placed f w)

abbrev pub quotient_certificate : Model → Model → Candidate → Candidate → Certificate
quotient_certificate f g h w =
    quotient_certificate_for (quotient_contraction g (placed f w)) (quotient_residual f g (placed f h)) (placed f h) (placed f w)

-- all places, with a scratch of len numbers, of which `need` are needed
abbrev pub quotient_places : ℕ → ℕ → Model → Model → Candidate → Candidate → List (Bool × ℕ)
quotient_places need len f g h w = scratch_place need len ∷ quotient_places_behind f g h w

unfoldable pub quotient_needing : ℕ → ℕ → Model → Model → Candidate → Candidate → Outcome Certificate
quotient_needing need len f g h w = outcome (quotient_places need len f g h w) (quotient_certificate f g h w) zero_certificate

-- the entry's definition. 02, S-17: "Number 1 is now given below 16". In 01 it was given below 65.
abbrev pub quotient_test : ℕ → Model → Model → Candidate → Candidate → Outcome Certificate
quotient_test len f g h w = quotient_needing scratch_size len f g h w
