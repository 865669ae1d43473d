-- The work area: the results that it holds, read back and added to.
use mathlib.Core.Path.{◌≡◌, refl, ap, ap₂, sym, ◌∙◌}
use mathlib.Core.List.{List, [], ◌∷◌, ◌++◌, append_assoc, append-nil}
use Prim.Native.Nat.{ℕ, zero, suc, ◌+◌, ◌*◌, ◌-◌, ◌≤◌, ◌<◌}
use native.Mathlib.Omega.{arith}
use lib.IntN.{ℤ}
use lib.ListN.{length, take, drop, length-append}
use lib.Seq.{take_at, take-suc, take-length, drop_at, drop-append-add, drop-drop}
use Rattle.integer.specs.definitions.Lists.{zeros}
use Rattle.integer.proofs.laws.Clearing.{length-zeros, zeros-append}
use Rattle.model.specs.definitions.Models.{coefficient_count, zero_model}
use Rattle.model.specs.definitions.Area.{model_size, words, area_model}
use Rattle.model.proofs.laws.AreaLaws.{length-words, model_words}
use Rattle.model.specs.declared.types.Model.{Model}
use Rattle.job.specs.definitions.Reading.{max_results}
use Rattle.job.specs.definitions.Operations.{result_at}
use Rattle.job.specs.definitions.Work.{work_size, stored_result, models_in, result_words, work_with, stored_at}
use Rattle.job.specs.definitions.InnerContracts.{Sized, Holds}

length-result_words : (rs : List Model) → Sized rs → length (result_words rs) ≡ model_size * length rs
unfolding result_words
length-result_words [] s = refl
length-result_words (m ∷ rs) s =
    length-append (words m) (result_words rs) ∙ omega (arith, length-words m s.0, length-result_words rs s.1)

-- the stored result i
stored_result_is : (rs : List Model) (t : List ℤ) (i : ℕ) → Sized rs → i < length rs → stored_result (result_words rs ++ t) i ≡ result_at rs i
unfolding result_words
stored_result_is [] t i s h = absurd (omega arith)
stored_result_is (m ∷ rs) t zero s h =
    ap (λ (l : List ℤ). area_model (take model_size l)) (append_assoc (words m) (result_words rs) t)
    ∙ ap area_model (take_at (words m) (result_words rs ++ t) model_size (length-words m s.0))
    ∙ model_words m s.0
stored_result_is (m ∷ rs) t (suc i) s h =
    let e : model_size * suc i ≡ length (words m) + model_size * i = omega (arith, length-words m s.0) in
    ap (λ (k : ℕ). area_model (take model_size (drop k ((words m ++ result_words rs) ++ t)))) e
    ∙ ap (λ (l : List ℤ). area_model (take model_size (drop (length (words m) + model_size * i) l)))
    (append_assoc (words m) (result_words rs) t)
    ∙ ap (λ (l : List ℤ). area_model (take model_size l)) (drop-append-add (words m) (result_words rs ++ t) (model_size * i))
    ∙ stored_result_is rs t i s.1 (omega arith)

result_words_snoc : (rs : List Model) (m : Model) → result_words (rs ++ (m ∷ [])) ≡ result_words rs ++ words m
unfolding result_words
result_words_snoc [] m = append-nil (words m)
result_words_snoc (r ∷ rs) m =
    ap (λ (l : List ℤ). words r ++ l) (result_words_snoc rs m) ∙ sym (append_assoc (words r) (result_words rs) (words m))

sized_snoc : (rs : List Model) (m : Model) → Sized rs → length m.coefficients ≡ coefficient_count → Sized (rs ++ (m ∷ []))
sized_snoc [] m s h = (h, tt)
sized_snoc (r ∷ rs) m s h = (s.0, sized_snoc rs m s.1 h)

drop-zeros : (n k : ℕ) (t : List ℤ) → k ≤ n → drop k (zeros n ++ t) ≡ zeros (n - k) ++ t
drop-zeros n k t h =
    let e : n ≡ k + (n - k) = omega arith in
    ap (λ (j : ℕ). drop k (zeros j ++ t)) e
    ∙ ap (λ (l : List ℤ). drop k (l ++ t)) (sym (zeros-append k (n - k)))
    ∙ ap (λ (l : List ℤ). drop k l) (append_assoc (zeros k) (zeros (n - k)) t)
    ∙ drop_at (zeros k) (zeros (n - k) ++ t) k (length-zeros k)

length-work_with : (rs : List Model) → Sized rs → length rs ≤ max_results → length (work_with rs) ≡ work_size
unfolding work_with
length-work_with rs s few =
    length-append (result_words rs) (zeros (work_size - model_size * length rs))
    ∙ omega (arith, length-result_words rs s, length-zeros (work_size - model_size * length rs))

-- ---- a work area that holds results

module _ {w : List ℤ} {count : ℕ} {rs : List Model} {t : List ℤ} (h : Holds w count rs t) where
  abbrev z : List ℤ
  z = zeros (work_size - model_size * length rs)

  front_is : w ≡ result_words rs ++ (z ++ t)
  unfolding work_with
  front_is = h.work_is ∙ append_assoc (result_words rs) z t

  -- the count is the number of results
  pub holds_all : Holds w (length rs) rs t
  holds_all = record { work_is = h.work_is; count_is = refl; sized = h.sized }

  -- the model read at result i
  pub result_held : (i : ℕ) → i < count → stored_result w i ≡ result_at rs i
  result_held i lt =
      ap (λ (l : List ℤ). stored_result l i) front_is ∙ stored_result_is rs (z ++ t) i h.sized (omega (arith, h.count_is))

  models_upto : (n : ℕ) → n ≤ count → models_in w n ≡ take n rs
  unfolding models_in
  models_upto zero le = refl
  models_upto (suc n) le =
      let b = h.count_is in
      ap₂ (λ (a : List Model) (m : Model). a ++ (m ∷ [])) (models_upto n (omega arith)) (result_held n (omega arith))
      ∙ sym (take-suc rs n zero_model (omega (arith, b)))

  pub models_held : models_in w (length rs) ≡ rs
  models_held = models_upto (length rs) (omega (arith, h.count_is)) ∙ take-length rs

  -- the numbers behind
  pub behind : length rs ≤ max_results → drop work_size w ≡ t
  behind few =
      ap (λ (l : List ℤ). drop work_size l) h.work_is ∙ drop_at (work_with rs) t work_size (length-work_with rs h.sized few)

  -- a model stored as the next result
  pub stored_holds : (m : Model) → count < max_results → length m.coefficients ≡ coefficient_count
      → Holds (stored_at w count m) (length (rs ++ (m ∷ []))) (rs ++ (m ∷ [])) t
  unfolding work_with
  stored_holds m few h33 =
      let rs' : List Model = rs ++ (m ∷ []) in
      let a : ℕ = model_size * count in
      let z' : List ℤ = zeros (work_size - model_size * length rs') in
      let ce : count ≡ length rs = h.count_is in
      let la : length (result_words rs) ≡ a = omega (arith, length-result_words rs h.sized) in
      let lr : length rs' ≡ length rs + 1 = length-append rs (m ∷ []) in
      let front : take a w ≡ result_words rs = ap (λ (l : List ℤ). take a l) front_is ∙ take_at (result_words rs) (z ++ t) a la in
      let back : drop (a + model_size) w ≡ z' ++ t =
      ap (λ (l : List ℤ). drop (a + model_size) l) front_is
      ∙ sym (drop-drop model_size a (result_words rs ++ (z ++ t)))
      ∙ ap (λ (l : List ℤ). drop model_size l) (drop_at (result_words rs) (z ++ t) a la)
      ∙ drop-zeros (work_size - model_size * length rs) model_size t (omega arith)
      ∙ ap (λ (k : ℕ). zeros k ++ t) (omega arith) in record {
        work_is =
            ap (λ (l : List ℤ). l ++ (words m ++ drop (a + model_size) w)) front
            ∙ ap (λ (l : List ℤ). result_words rs ++ (words m ++ l)) back
            ∙ sym (append_assoc (result_words rs) (words m) (z' ++ t))
            ∙ ap (λ (l : List ℤ). l ++ (z' ++ t)) (sym (result_words_snoc rs m))
            ∙ sym (append_assoc (result_words rs') z' t);
        count_is = refl;
        sized = sized_snoc rs m h.sized h33;
      }
