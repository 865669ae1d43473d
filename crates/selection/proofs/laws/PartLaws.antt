-- Where the part of a selection lies, and its numbers.
use Rattle.std.specs.Prelude.{◌≡◌, List, [], ℕ, ◌+◌, ◌<◌, ℤ, pos, get_or, take, drop}
use Rattle.std.proofs.Common.{◌∙◌, ap, get_or-take, get_or-drop}
use Rattle.std.specs.Borrow.{Bor}
use Rattle.model.specs.definitions.Models.{coefficient_count}
use Rattle.selection.specs.definitions.Select.{IsPart}

-- 33 numbers of a proposal, which begin 4 bytes behind it: the degree takes these
pub record LiesBehindDegree (s r : Bor (List ℤ)) : Type 0 where
  pub block : r.ref_ptr.0 ≡ s.ref_ptr.0
  pub byte : r.ref_ptr.1 ≡ 4 + s.ref_ptr.1
  pub numbers : (k : ℕ) → k < coefficient_count → get_or r.now k (pos 0) ≡ get_or s.now (1 + k) (pos 0)

module _ (first second r : Bor (List ℤ)) where
  behind : (s : Bor (List ℤ)) → r.ref_ptr ≡ (s.ref_ptr.0, 4 + s.ref_ptr.1) → r.now ≡ take coefficient_count (drop 1 s.now) → LiesBehindDegree s r
  behind s at_pointer same = record {
    block = ap (λ (p : ℕ × ℕ). p.0) at_pointer;
    byte = ap (λ (p : ℕ × ℕ). p.1) at_pointer;
    numbers = λ k few.
        ap (λ (l : List ℤ). get_or l k (pos 0)) same
        ∙ get_or-take coefficient_count (drop 1 s.now) k (pos 0) few
        ∙ get_or-drop 1 s.now k (pos 0);
  }

  pub part_of_first : IsPart 1 first second r → LiesBehindDegree first r
  part_of_first p = behind first p.0 p.1

  pub part_of_second : IsPart 2 first second r → LiesBehindDegree second r
  part_of_second p = behind second p.0 p.1

  -- "an empty part of the first"
  pub part_of_none : IsPart 0 first second r → (r.ref_ptr ≡ first.ref_ptr) × (r.now ≡ [])
  part_of_none p = p
