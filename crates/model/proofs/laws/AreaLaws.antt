-- Numbers behind a model or a candidate in an area play no part, and a model written is the model read. What the length of an area
-- tells, and what one that has its numbers, or is too short, holds afterwards.
use Rattle.std.proofs.Common.{leb-true, le-leb, sym, ◌∙◌, ap, arith, length-append, take-take, get_or-take, take_at}
use Rattle.std.proofs.lemmas.Bool.{lt-leb, false≢true}
use Rattle.std.specs.Prelude.{◌≡◌, refl, Bool, true, false, ◌&&◌, List, [], ◌∷◌, ◌++◌, ℕ, zero, suc, ◌+◌, ◌≤◌, ◌<◌, ℤ, pos, length, get_or, take, drop}
use Rattle.model.specs.definitions.Models.{coefficient_count}
use Rattle.model.specs.definitions.Area.{model_size, candidate_size, words, area_model, area_candidate, fits, area_out}
use Rattle.model.specs.declared.types.Model.{Model}

coefficients_front : (n : ℕ) (s : List ℤ) → candidate_size ≤ n → take coefficient_count (drop 1 (take n s)) ≡ take coefficient_count (drop 1 s)
coefficients_front zero s h = absurd (omega arith)
coefficients_front (suc n) [] h = refl
coefficients_front (suc n) (x ∷ s) h = take-take coefficient_count n s (omega arith)

pub candidate_front : (n : ℕ) (s : List ℤ) → candidate_size ≤ n → area_candidate (take n s) ≡ area_candidate s
candidate_front n s h = rw (coefficients_front n s h, get_or-take n s 0 (pos 0) (omega arith))

pub model_front : (n : ℕ) (s : List ℤ) → model_size ≤ n → area_model (take n s) ≡ area_model s
model_front n s h = rw (coefficients_front n s (omega arith), get_or-take n s 0 (pos 0) (omega arith), get_or-take n s (coefficient_count + 1) (pos 0) (omega arith), get_or-take n s (coefficient_count + 2) (pos 0) (omega arith), get_or-take n s (coefficient_count + 3) (pos 0) (omega arith))

pub length-words : (m : Model) → length m.coefficients ≡ coefficient_count → length (words m) ≡ model_size
length-words m h = simp length-append (omega arith)

get_d_behind : (a b : List ℤ) (n k : ℕ) → n ≡ length a + k → get_or (a ++ b) n (pos 0) ≡ get_or b k (pos 0)
get_d_behind [] b n k e = ap (λ (j : ℕ). get_or b j (pos 0)) (omega arith)
get_d_behind (c ∷ a) b zero k e = absurd (omega arith)
get_d_behind (c ∷ a) b (suc n) k e = get_d_behind a b n k (omega arith)

pub model_words : (m : Model) → length m.coefficients ≡ coefficient_count → area_model (words m) ≡ m
model_words m h =
    let last = pos m.radius ∷ m.interval.lower ∷ m.interval.upper ∷ [] in
    rw (
      take_at m.coefficients last coefficient_count h,
      get_d_behind m.coefficients last coefficient_count 0 (omega arith),
      get_d_behind m.coefficients last (coefficient_count + 1) 1 (omega arith),
      get_d_behind m.coefficients last (coefficient_count + 2) 2 (omega arith),
    )

-- ---- areas that have their numbers

pub fit_last : {A : Type 0} (t : Bool) (n : ℕ) (s : List A) → (t && fits n s) ≡ true → (t ≡ true) × (n ≤ length s)
fit_last true n s h = (refl, leb-true n (length s) h)
fit_last false n s h = absurd (false≢true h)

-- ---- what an area holds afterwards

module _ {A : Type 0} (n : ℕ) (new old : List A) where
  pub filled : n ≤ length old → new ++ drop n old ≡ area_out n new old
  unfolding area_out
  filled h = rw (le-leb n (length old) h)

  pub untouched : length old < n → old ≡ area_out n new old
  unfolding area_out
  untouched h = rw (lt-leb n (length old) h)

-- a model stored in an area that has its numbers is the model read from it, whatever stands behind
pub model_stored : (m : Model) (out : List ℤ) → length m.coefficients ≡ coefficient_count → model_size ≤ length out
    → area_model (area_out model_size (words m) out) ≡ m
model_stored m out h long =
    let s = words m ++ drop model_size out in
    ap area_model (sym (filled model_size (words m) out long))
    ∙ sym (model_front model_size s (omega arith))
    ∙ ap area_model (take_at (words m) (drop model_size out) model_size (length-words m h))
    ∙ model_words m h
