-- The models of the first results in a work area, as a list.
use Rattle.std.specs.Prelude.{◌≡◌, refl, Bool, true, false, List, [], ◌∷◌, ℕ, zero, suc, ◌<◌, ltb, ℤ, length}
use Rattle.std.proofs.Common.{◌∙◌, arith, ltb-true, ltb-false, length-append}
use Rattle.std.proofs.Math.ListN.{get_or-append}
use Rattle.std.proofs.lemmas.List.{get_or_at}
use Rattle.model.specs.definitions.Models.{zero_model}
use Rattle.job.specs.definitions.Operations.{result_at}
use Rattle.job.specs.definitions.Work.{stored_result, models_in}

pub length-models_in : (w : List ℤ) (n : ℕ) → length (models_in w n) ≡ n
unfolding models_in
length-models_in w zero = refl
length-models_in w (suc n) = omega (arith, length-append (models_in w n) (stored_result w n ∷ []), length-models_in w n)

pub models_in_at : (w : List ℤ) (n i : ℕ) → i < n → result_at (models_in w n) i ≡ stored_result w i
unfolding models_in
models_in_at w zero i h = absurd (omega arith)
models_in_at w (suc n) i h = by (ltb i n) refl (λ g. models_in_at w n i g)
  where
    by : (t : Bool) → ltb i n ≡ t → (i < n → result_at (models_in w n) i ≡ stored_result w i) → result_at (models_in w (suc n)) i ≡ stored_result w i
    by true e r =
        let g = ltb-true i n e in
        get_or-append (models_in w n) (stored_result w n ∷ []) zero_model i (omega (arith, length-models_in w n)) ∙ r g
    by false e r =
        let s : i ≡ n = omega (arith, ltb-false i n e) in
        get_or_at (models_in w n) (stored_result w n) [] zero_model i (omega (arith, length-models_in w n)) ∙ rw s
