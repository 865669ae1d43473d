-- What inner functions ask of their callers and answer to them. The contracts of the entries do not speak of this.
use Rattle.std.specs.Prelude.{◌≡◌, true, List, [], ◌∷◌, ℕ, suc, ◌+◌, ◌*◌, ◌-◌, ◌^◌, ◌≤◌, ◌<◌, ℤ, pos, length, Result, Ok, Err}
use Rattle.ring.specs.definitions.Integer.{ℤ_ring}
use Rattle.chebyshev.specs.definitions.Coefficients.{weight, subtract_lists, scale_list}
use Rattle.model.specs.definitions.Intervals.{standard_interval, same_interval}
use Rattle.model.specs.definitions.Models.{scale, product_size, max_weight}
use Rattle.model.specs.definitions.Models.{good, candidate_model, large_place}
use Rattle.model.specs.definitions.Outcomes.{Outcome, accepted, refused, outcome, number_of}
use Rattle.model.specs.declared.types.Model.{Model}
use Rattle.model.specs.declared.types.Candidate.{Candidate}
use Rattle.model.specs.declared.types.Refusal.{Refusal}
use Rattle.certificate.specs.definitions.Tests.{Certificate, make_certificate, zero_certificate}
use Rattle.certificate.specs.definitions.Tests.{placed, with_radius, displacement}
use Rattle.certificate.specs.definitions.Groups.{group}
use Rattle.certificate.specs.definitions.Root.{root_places, root_contraction, root_residual}
use Rattle.certificate.specs.declared.root_end.RootNumbers.{RootNumbers}

-- ---- what is asked

-- the terms of two good models, whose list C is formed
pub record ProductTerms (a b : List ℤ) : Type 0 where
  pub first_some : 0 < length a
  pub second_some : 0 < length b
  pub whole : length a + length b ≤ suc product_size
  pub weights : weight a * weight b ≤ 2 ^ 56

-- a list of coefficients that, times 2S, is subtracted from C
pub record Subtrahend (f : List ℤ) : Type 0 where
  pub short : length f ≤ product_size
  pub weight-fits : weight f ≤ max_weight

-- a candidate on −S and S: m, N and b do not ask where T_k is taken
abbrev pub standard_candidate : Candidate → Model
standard_candidate c = candidate_model standard_interval c

-- a part of the scratch, of any length from 1, and two good models whose list C is formed in it
pub record Ready (part : List ℤ) (a b : Model) : Type 0 where
  pub room : 0 < length part
  pub first_good : good a ≡ true
  pub second_good : good b ≡ true

-- such a part, and good models and candidates of a quotient test
pub record QuotientReady (part : List ℤ) (f g : Model) (h w : Candidate) : Type 0 where
  pub room : 0 < length part
  pub good_f : good f ≡ true
  pub good_g : good g ≡ true
  pub good_h : good (placed f h) ≡ true
  pub good_w : good (placed f w) ≡ true
  pub same_interval_lem : same_interval f.interval g.interval ≡ true

-- the same for a root test
pub record RootReady (part : List ℤ) (f : Model) (h w : Candidate) : Type 0 where
  pub room : 0 < length part
  pub good_f : good f ≡ true
  pub good_h : good (placed f h) ≡ true
  pub good_w : good (placed f w) ≡ true

-- what the last places of a root test are given, where M is the weight of w
pub record RootLast (h : Model) (M m b : ℕ) : Type 0 where
  pub good_h : good h ≡ true
  pub positive : 0 < M
  pub weight-fits : M ≤ max_weight
  pub contracting : m < scale
  pub displaced : b ≤ 2 ^ 36
  pub square : (scale - m) * scale ≤ 2 ^ 29 * M

-- ---- lists

-- C − 2S·f
abbrev pub residual_list : List ℤ → List ℤ → List ℤ
residual_list c f = subtract_lists ℤ_ring c (scale_list ℤ_ring (pos (2 * scale)) f)

-- the weight of C − 2S·f over a group of n places from `start` on
abbrev pub group_residual : ℕ → ℕ → List ℤ → List ℤ → ℕ
group_residual n start c f = weight (residual_list (group n start c) (group n start f))

-- ---- the answer of a test by its parts

-- passed
abbrev pub passed_test : Model → ℕ → ℕ → ℕ → Outcome Certificate
passed_test r m n b = accepted (make_certificate r m n b)

-- of a test that passes unless h with radius e is too large
abbrev pub formed_test : Model → ℕ → ℕ → ℕ → ℕ → Outcome Certificate
formed_test h e m n b =
    let r = with_radius h e in outcome (large_place r ∷ []) (make_certificate r m n b) zero_certificate

-- ---- a root test up to N and b: refused with a number, or M, m, N and b

pub record Reach : Type 0 where
  pub M : ℕ
  pub m : ℕ
  pub N : ℕ
  pub b : ℕ

abbrev pub make_reach : ℕ → ℕ → ℕ → ℕ → Reach
make_reach k m n b = record { M = k; m = m; N = n; b = b }

abbrev pub zero_reach : Reach
zero_reach = make_reach 0 0 0 0

abbrev pub reach_of : Result RootNumbers Refusal → Outcome Reach
reach_of (Ok n) = accepted (make_reach n.weight n.contraction n.residual n.displacement)
reach_of (Err r) = refused (number_of r) zero_reach

unfoldable pub root_reach : ℕ → Model → Candidate → Candidate → Outcome Reach
root_reach len f h w =
    let m = root_contraction (placed f h) (placed f w) in
    let n = root_residual f (placed f h) in
    outcome (root_places len f h w) (make_reach (weight w.coefficients) m n (displacement (placed f w) n)) zero_reach
