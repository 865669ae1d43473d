-- Document 02, S-24: over areas that are long enough for both, a job in the former format is answered as before; each stretch of the
-- work area has its former 35 numbers first, and then −S and S, or zeros where it had zeros.
use Rattle.std.specs.Prelude.{◌≡◌, refl, Bool, true, false, cond, ◌&&◌, leb, ltb, ℤ, pos, neg_ℤ, drop}
use Rattle.std.proofs.Math.Path.{sym, ap}
use Rattle.std.proofs.Common.{◌∙◌, arith, length-append, take_at}
use mathlib.Core.List.{List, [], ◌∷◌, ◌++◌, append_assoc}
use Prim.Native.Nat.{ℕ, zero, suc, ◌+◌, ◌*◌, ◌-◌, ◌≤◌, ◌<◌}
use borrow.Author.Tests.{le-leb, ltb-true, ltb-false}
use Rattle.std.proofs.Math.ListN.{length, take, get_or-eq_default}
use Rattle.std.proofs.Math.Seq.{drop-append-add}
use Rattle.integer.specs.definitions.Lists.{zeros}
use Rattle.integer.proofs.laws.Clearing.{length-zeros, zeros-append}
use Rattle.model.specs.definitions.Area.{model_size, words}
use Rattle.model.specs.definitions.Models.{scale, coefficient_count, zero_model}
use Rattle.model.proofs.laws.AreaLaws.{length-words}
use Rattle.model.proofs.laws.FormerNumbers.{former_words, words_ends, words_former}
use Rattle.model.specs.declared.types.Model.{Model}
use Rattle.certificate.specs.definitions.Tests.{scratch_size}
use Rattle.job.specs.definitions.Operations.{result_at}
use Rattle.job.specs.definitions.Outcomes.{JobOutcome, accepted, refused}
use Rattle.job.specs.definitions.Reading.{max_results}
use Rattle.job.specs.definitions.Run.{job_outcome}
use Rattle.job.specs.definitions.Work.{work_size, result_words, work_with, check_needing, check_outcome, results_in, work_needing, work_after, scratch_after_job}
use Rattle.job.proofs.laws.FormerJob.{former_job_outcome, FormerFormat, reaches_former, job_former}
use Rattle.job.proofs.laws.FormerOperations.{FormerResults}
use Rattle.job.proofs.laws.OrderLaws.{reaches_bounds, accepted_exactly}

-- ---- the former areas

-- stretch by stretch
unfoldable pub stretches : (Model → List ℤ) → List Model → List ℤ
stretches f [] = []
stretches f (m ∷ rs) = f m ++ stretches f rs

-- "1,120 signed 32-bit numbers", and the scratch of 16
abbrev former_fit : List ℤ → List ℤ → Bool
former_fit w s = leb 1120 (length w) && leb 16 (length s)

unfoldable pub former_check : List ℕ → List ℤ → List ℤ → JobOutcome (List Model)
former_check job w s = cond (former_fit w s) (former_job_outcome job) (refused 1 0)

-- "An accepted job leaves later stretches zero; a refused one leaves all 1,120 zero, save that refusal 1 touches nothing. Numbers
-- behind stay."
unfoldable pub former_work : List ℕ → List ℤ → List ℤ → List ℤ
former_work job w s =
    let rs = results_in (former_job_outcome job) in
    cond (former_fit w s) ((stretches former_words rs ++ zeros (1120 - 35 * length rs)) ++ drop 1120 w) w

unfoldable pub former_scratch : List ℤ → List ℤ → List ℤ
former_scratch w s = cond (former_fit w s) (zeros 16 ++ drop 16 s) s

-- ---- a stretch of one size

module _ (size : ℕ) (f : Model → List ℤ) (none : f zero_model ≡ zeros size) where
  front : (b x : List ℤ) → length b ≡ size → take size (drop (size * 0) (b ++ x)) ≡ b
  front b x e = let n : size * 0 ≡ 0 = omega arith in ap (λ (n : ℕ). take size (drop n (b ++ x))) n ∙ take_at b x size e

  behind : (b x : List ℤ) (i : ℕ) → length b ≡ size → take size (drop (size * suc i) (b ++ x)) ≡ take size (drop (size * i) x)
  behind b x i e =
      let n : size * suc i ≡ length b + size * i = omega (arith, e) in
      ap (λ (n : ℕ). take size (drop n (b ++ x))) n ∙ ap (λ l. take size l) (drop-append-add b x (size * i))

  zeros_more : (n : ℕ) (t : List ℤ) → zeros (size * suc n) ++ t ≡ zeros size ++ (zeros (size * n) ++ t)
  zeros_more n t =
      let e : size * suc n ≡ size + size * n = omega arith in
      ap (λ (k : ℕ). zeros k ++ t) e
      ∙ ap (λ l. l ++ t) (sym (zeros-append size (size * n)))
      ∙ append_assoc (zeros size) (zeros (size * n)) t

  stretch_is : (rs : List Model) (n : ℕ) (t : List ℤ) (i : ℕ) → ((j : ℕ) → j < length rs → length (f (result_at rs j)) ≡ size)
      → i < length rs + n → take size (drop (size * i) (stretches f rs ++ (zeros (size * n) ++ t))) ≡ f (result_at rs i)
  unfolding stretches
  stretch_is [] zero t i s h = absurd (omega arith)
  stretch_is [] (suc n) t zero s h =
      ap (λ l. take size (drop (size * 0) l)) (zeros_more n t) ∙ front (zeros size) (zeros (size * n) ++ t) (length-zeros size) ∙ sym none
  stretch_is [] (suc n) t (suc i) s h =
      ap (λ l. take size (drop (size * suc i) l)) (zeros_more n t)
      ∙ behind (zeros size) (zeros (size * n) ++ t) i (length-zeros size)
      ∙ stretch_is [] n t i s (omega arith)
  stretch_is (m ∷ rs) n t zero s h =
      ap (λ l. take size (drop (size * 0) l)) (append_assoc (f m) (stretches f rs) (zeros (size * n) ++ t))
      ∙ front (f m) (stretches f rs ++ (zeros (size * n) ++ t)) (s 0 (omega arith))
  stretch_is (m ∷ rs) n t (suc i) s h =
      ap (λ l. take size (drop (size * suc i) l)) (append_assoc (f m) (stretches f rs) (zeros (size * n) ++ t))
      ∙ behind (f m) (stretches f rs ++ (zeros (size * n) ++ t)) i (s 0 (omega arith))
      ∙ stretch_is rs n t i (λ j g. s (suc j) (omega arith)) (omega arith)

  -- as it stands in the area
  stretch_in : (rs : List Model) (n k : ℕ) (t : List ℤ) (i : ℕ) → k ≡ size * n
      → ((j : ℕ) → j < length rs → length (f (result_at rs j)) ≡ size) → i < length rs + n
      → take size (drop (size * i) ((stretches f rs ++ zeros k) ++ t)) ≡ f (result_at rs i)
  stretch_in rs n k t i e s h =
      ap (λ l. take size (drop (size * i) l))
      (ap (λ (k : ℕ). (stretches f rs ++ zeros k) ++ t) e ∙ append_assoc (stretches f rs) (zeros (size * n)) t)
      ∙ stretch_is rs n t i s h

words_stretches : (rs : List Model) → result_words rs ≡ stretches words rs
unfolding result_words stretches
words_stretches [] = refl
words_stretches (m ∷ rs) = ap (λ l. words m ++ l) (words_stretches rs)

length_former : (m : Model) → length m.coefficients ≡ coefficient_count → length (former_words m) ≡ 35
length_former m h = simp length-append (omega arith)

no_words : words zero_model ≡ zeros model_size
unfolding zero_model zeros
no_words = refl

no_former_words : former_words zero_model ≡ zeros 35
unfolding zero_model zeros
no_former_words = refl

-- ---- the results of a job in the former format

-- "Results are counted 0 to 31"
record FewResults (rs : List Model) : Type 0 where
  former : FormerResults rs
  few : length rs ≤ max_results

module _ (rs : List Model) (l : FewResults rs) (t : List ℤ) (i : ℕ) (h : i < max_results) where
  stretch_now : take model_size (drop (model_size * i) (work_with rs ++ t)) ≡ words (result_at rs i)
  unfolding work_with
  stretch_now =
      let few = l.few in
      ap (λ x. take model_size (drop (model_size * i) ((x ++ zeros (work_size - model_size * length rs)) ++ t))) (words_stretches rs)
      ∙ stretch_in model_size words no_words rs (max_results - length rs) (work_size - model_size * length rs) t i (omega (arith, few))
      (λ j g. length-words (result_at rs j) (l.former j g).all)
      (omega (arith, few))

  stretch_before : take 35 (drop (35 * i) ((stretches former_words rs ++ zeros (1120 - 35 * length rs)) ++ t)) ≡ former_words (result_at rs i)
  stretch_before =
      let few = l.few in
      stretch_in 35 former_words no_former_words rs (max_results - length rs) (1120 - 35 * length rs) t i (omega (arith, few))
      (λ j g. length_former (result_at rs j) (l.former j g).all)
      (omega (arith, few))

-- behind the 35 numbers of stretch i: −S and S of a result
abbrev pub ends_at : List Model → ℕ → List ℤ
ends_at rs i = cond (ltb i (length rs)) (neg_ℤ (pos scale) ∷ pos scale ∷ []) (pos 0 ∷ pos 0 ∷ [])

ends_former : (rs : List Model) (i : ℕ) → FormerResults rs → words (result_at rs i) ≡ former_words (result_at rs i) ++ ends_at rs i
unfolding zero_model
ends_former rs i all = by (ltb i (length rs)) refl
  where
    by : (t : Bool) → ltb i (length rs) ≡ t
        → words (result_at rs i) ≡ former_words (result_at rs i) ++ cond t (neg_ℤ (pos scale) ∷ pos scale ∷ []) (pos 0 ∷ pos 0 ∷ [])
    by true e = words_former (result_at rs i) (all i (ltb-true i (length rs) e)).on
    by false e =
        words_ends (result_at rs i)
        ∙ ap (λ (m : Model). former_words (result_at rs i) ++ (m.interval.lower ∷ m.interval.upper ∷ []))
        (get_or-eq_default rs zero_model (ltb-false i (length rs) e))

module _ (job : List ℕ) (format : FormerFormat job) where
  few_results : (o : JobOutcome (List Model)) → job_outcome job ≡ o → FewResults (results_in o)
  few_results (accepted rs) e =
      let r = ((accepted_exactly job rs).0 e).2 in record { former = reaches_former job format r; few = (reaches_bounds r).results }
  few_results (refused n k) e = record { former = λ i h. absurd (omega arith); few = omega arith }

  abbrev results : List Model
  results = results_in (former_job_outcome job)

  module _ (w s : List ℤ) (room : work_size ≤ length w) (lent : scratch_size ≤ length s) where
    fits_before : 1120 ≤ length w
    fits_before = omega arith

    pub check_former : check_outcome job w s ≡ former_check job w s
    unfolding check_needing former_check
    check_former =
        rw (le-leb work_size (length w) room, le-leb 1120 (length w) fits_before, le-leb scratch_size (length s) lent) (job_former job format)

    pub scratch_former : scratch_after_job w s ≡ former_scratch w s
    unfolding scratch_after_job former_scratch
    scratch_former =
        rw (le-leb work_size (length w) room, le-leb 1120 (length w) fits_before, le-leb scratch_size (length s) lent)

    -- stretch i: the former 35 numbers, and the ends
    pub work_former : (i : ℕ) → i < max_results
        → take model_size (drop (model_size * i) (work_after job w s)) ≡ take 35 (drop (35 * i) (former_work job w s)) ++ ends_at results i
    unfolding work_needing former_work
    work_former i h =
        let l : FewResults results = few_results (former_job_outcome job) (job_former job format) in
        rw (le-leb work_size (length w) room, le-leb 1120 (length w) fits_before, le-leb scratch_size (length s) lent, job_former job format)
        (stretch_now results l (drop work_size w) i h
        ∙ ends_former results i l.former
        ∙ ap (λ x. x ++ ends_at results i) (sym (stretch_before results l (drop 1120 w) i h)))
