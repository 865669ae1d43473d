-- The operations of commands on the results that a work area holds.
use mathlib.Core.Path.{◌≡◌, ap, ap₂, sym, subst⁻¹, ◌∙◌}
use mathlib.Core.Bool.{false, ◌||◌}
use mathlib.Core.List.{List}
use Prim.Native.Nat.{ℕ}
use borrow.Author.Tests.{leb-false, not-false}
use lib.Dec.{leb}
use lib.IntN.{ℤ}
use Rattle.model.specs.definitions.Models.{good, zero_model}
use Rattle.model.specs.definitions.Outcomes.{Outcome, accepted, refused, payload}
use Rattle.model.specs.definitions.Load.{loading_places, loading}
use Rattle.model.proofs.laws.ModelLaws.{good_is}
use Rattle.model.specs.definitions.Area.{Storable}
use Rattle.model.proofs.laws.ResultLaws.{outcome-payload, zero_storable}
use Rattle.certificate.specs.definitions.Tests.{Certificate}
use Rattle.model.specs.declared.types.Model.{Model}
use Rattle.job.specs.definitions.Operations.{Maker, result_at, names_bad, operation}
use Rattle.job.proofs.laws.CommandLaws.{both_below}
use Rattle.job.specs.definitions.Work.{stored_result}
use Rattle.job.specs.definitions.Decode.{maker_at}
use Rattle.job.specs.definitions.InnerContracts.{Holds, untested_outcome, Performs}
use Rattle.job.specs.declared.types.Operation.{Operation}
use Rattle.job.proofs.Results.{result_held}

-- an outcome that is p
pub performs : {m : Maker} {w : List ℤ} {o p : Outcome Certificate} → o ≡ p → Storable (payload p).model
    → ((count : ℕ) (rs : List Model) (t : List ℤ) → Holds w count rs t → names_bad m count ≡ false → p ≡ operation m rs)
    → Performs m w o
performs e s g = record {
  storable = subst⁻¹ (λ (o : Outcome Certificate). Storable (payload o).model) e s;
  gives = λ count rs t h n. e ∙ g count rs t h n;
}

pub untested_storable : (o : Outcome Model) → Storable (payload o) → Storable (payload (untested_outcome o)).model
untested_storable (accepted m) h = h
untested_storable (refused n m) h = h

pub loading_storable : (m : Model) → Storable (payload (loading m))
unfolding loading
loading_storable m =
    outcome-payload Storable (loading_places m) m zero_model
    (λ p. let g = good_is m (not-false (good m) p.0) in (g.degree_fits, g.radius_fits)) zero_storable

-- ---- the results that a command names

module _ {w : List ℤ} {count : ℕ} {rs : List Model} {t : List ℤ} (h : Holds w count rs t) where
  pub held_one : (f : Model → Outcome Certificate) (m : Model) (i : ℕ) → m ≡ stored_result w i → leb count i ≡ false → f m ≡ f (result_at rs i)
  held_one f m i e n = ap f (e ∙ result_held h i (leb-false count i n))

  pub held_two : (f : Model → Model → Outcome Certificate) (m₁ m₂ : Model) (i j : ℕ) → m₁ ≡ stored_result w i → m₂ ≡ stored_result w j
      → (leb count i || leb count j) ≡ false → f m₁ m₂ ≡ f (result_at rs i) (result_at rs j)
  held_two f m₁ m₂ i j e₁ e₂ n =
      let b = both_below count i j n in
      ap₂ f (e₁ ∙ result_held h i b.0) (e₂ ∙ result_held h j b.1)

-- an outcome that f gives for one of them, or for two
pub performs_one : {m : Maker} {w : List ℤ} {o : Outcome Certificate} (f : Model → Outcome Certificate) (a : Model) (i : ℕ) → o ≡ f a
    → Storable (payload (f a)).model → a ≡ stored_result w i → ((count : ℕ) → names_bad m count ≡ false → leb count i ≡ false)
    → ((rs : List Model) → operation m rs ≡ f (result_at rs i)) → Performs m w o
performs_one f a i e s p named g = performs e s (λ count rs t h n. held_one h f a i p (named count n) ∙ sym (g rs))

pub performs_two : {m : Maker} {w : List ℤ} {o : Outcome Certificate} (f : Model → Model → Outcome Certificate) (a b : Model) (i j : ℕ) → o ≡ f a b
    → Storable (payload (f a b)).model → a ≡ stored_result w i → b ≡ stored_result w j
    → ((count : ℕ) → names_bad m count ≡ false → (leb count i || leb count j) ≡ false)
    → ((rs : List Model) → operation m rs ≡ f (result_at rs i) (result_at rs j)) → Performs m w o
performs_two f a b i j e s p q named g =
    performs e s (λ count rs t h n. held_two h f a b i j p q (named count n) ∙ sym (g rs))

-- ---- an arm of a match on an operation, where it is known which it is

module _ {op o : Operation} (e : op ≡ o) (job : List ℕ) (at : ℕ) (w : List ℤ) where
  pub performs_told : (r : Outcome Certificate) → Performs (maker_at o job at) w r → Performs (maker_at op job at) w r
  performs_told r h = rw e h
