-- What a selection tells of the two proposals, what the lent numbers mean, and how long the scratch must be.
use Rattle.std.specs.Prelude.{◌≡◌, refl, ◌⊎◌, Bool, true, false, cond, List, ℕ, ◌≤◌, ◌<◌, min, eqb, ltb, ℤ, Result, Ok, Err}
use Rattle.std.proofs.Common.{sym, ◌∙◌, ap, inl, inr, ⊎_elim, arith, ltb-true, ltb-false, le-ltb, lt-ltb, eqb-true}
use Rattle.std.proofs.Math.Path.{ap₂}
use Rattle.model.specs.definitions.Models.{product_size, zero_model}
use Rattle.model.specs.definitions.Outcomes.{Outcome, accepted, refused, number, payload, map_outcome}
use Rattle.model.proofs.laws.PlaceLaws.{refused_not_accepted}
use Rattle.model.proofs.laws.OutcomeLaws.{judged_injective, number_of_injective}
use Rattle.model.specs.declared.types.Model.{Model}
use Rattle.model.specs.declared.types.Refusal.{Refusal}
use Rattle.certificate.specs.definitions.Tests.{scratch_size}
use Rattle.selection.specs.definitions.Proposal.{result_radius, proposal_of}
use Rattle.selection.specs.definitions.Select.{Selected, make_selected, tighter, selection, selection_needing, selected_by, selection_of, selected_of}
use Rattle.selection.specs.definitions.Promise.{Tightest}
use Rattle.selection.proofs.laws.ProposalLaws.{proposal_as_65, proposal_below_16}
use Rattle.selection.specs.declared.types.Chosen.{Chosen}
use Rattle.selection.specs.declared.types.Chosen.TheVariants.{First, Second}

-- ---- the cases, as the code meets them

pub smaller_second : (e d : ℕ) → d < e → tighter (accepted e) (accepted d) ≡ accepted (make_selected 2 d)
unfolding tighter
smaller_second e d h = rw (lt-ltb d e h)

pub first_not_larger : (e d : ℕ) → e ≤ d → tighter (accepted e) (accepted d) ≡ accepted (make_selected 1 e)
unfolding tighter
first_not_larger e d h = rw (le-ltb d e h)

pub only_first : (e m z : ℕ) → tighter (accepted e) (refused m z) ≡ accepted (make_selected 1 e)
unfolding tighter
only_first e m z = refl

pub only_second : (n z d : ℕ) → tighter (refused n z) (accepted d) ≡ accepted (make_selected 2 d)
unfolding tighter
only_second n z d = refl

pub neither : (n z m y : ℕ) → tighter (refused n z) (refused m y) ≡ refused n (make_selected 0 0)
unfolding tighter
neither n z m y = refl

-- ---- the chosen proposal

-- the tighter one is the tightest: it passes with the radius of the selection, and no proposal that passes has a smaller one
both : (e d : ℕ) (t : Bool) → ltb d e ≡ t → Tightest (accepted e) (accepted d) (cond t (make_selected 2 d) (make_selected 1 e))
both e d true h = record {
  passes = inr (refl, refl);
  least_first = λ x i. omega (arith, ltb-true d e h, ap payload i);
  least_second = λ x i. omega (arith, ap payload i);
}
both e d false h = record {
  passes = inl (refl, refl);
  least_first = λ x i. omega (arith, ap payload i);
  least_second = λ x i. omega (arith, ltb-false d e h, ap payload i);
}

pub tighter_is_least : (a b : Outcome ℕ) {c : Selected} → tighter a b ≡ accepted c → Tightest a b c
unfolding tighter
tighter_is_least (accepted e) (accepted d) h = rw (sym (ap payload h)) (both e d (ltb d e) refl)
tighter_is_least (accepted e) (refused m z) h =
    rw (sym (ap payload h))
    (record { passes = inl (refl, refl); least_first = λ x i. omega (arith, ap payload i); least_second = λ x i. absurd (refused_not_accepted i) })
tighter_is_least (refused n z) (accepted d) h =
    rw (sym (ap payload h))
    (record { passes = inr (refl, refl); least_first = λ x i. absurd (refused_not_accepted i); least_second = λ x i. omega (arith, ap payload i) })
tighter_is_least (refused n z) (refused m y) h = absurd (refused_not_accepted h)

-- where both pass, the radius is the smaller of theirs
pub tightest_radius : {a b : Outcome ℕ} {c : Selected} → Tightest a b c → (e d : ℕ) → a ≡ accepted e → b ≡ accepted d → c.radius ≡ min e d
tightest_radius t e d ea eb =
    smaller _ (t.least_first e ea) (t.least_second d eb)
    (⊎_elim (λ p. inl (ap payload (sym p.1 ∙ ea))) (λ p. inr (ap payload (sym p.1 ∙ eb))) t.passes)
  where
    smaller : (r : ℕ) → r ≤ e → r ≤ d → (r ≡ e) ⊎ (r ≡ d) → r ≡ min e d
    smaller r i j (inl k) = omega arith
    smaller r i j (inr k) = omega arith

-- nothing is chosen only where neither passes; the number is then that of the first
pub none_passes : (a b : Outcome ℕ) {n : ℕ} {c : Selected} → tighter a b ≡ refused n c
    → (a ≡ refused n (payload a)) × (b ≡ refused (number b) (payload b)) × (c ≡ make_selected 0 0)
unfolding tighter
none_passes (accepted e) (accepted d) h = absurd (refused_not_accepted (sym h))
none_passes (accepted e) (refused m z) h = absurd (refused_not_accepted (sym h))
none_passes (refused n z) (accepted d) h = absurd (refused_not_accepted (sym h))
none_passes (refused n z) (refused m y) h = (ap (λ (k : ℕ). refused k z) (ap number h), refl, sym (ap payload h))

-- ---- two answers with one meaning are the same answer

pub selected_number : (n c e : ℕ) → number (selected_of n c e) ≡ n
selected_number n c e = go (eqb n 0) refl
  where
    go : (t : Bool) → eqb n 0 ≡ t → number (cond t (accepted (make_selected c e)) (refused n (make_selected c e))) ≡ n
    go true h = sym (eqb-true n 0 h)
    go false h = refl

pub selected_payload : (n c e : ℕ) → payload (selected_of n c e) ≡ make_selected c e
selected_payload n c e = go (eqb n 0)
  where
    go : (t : Bool) → payload (cond t (accepted (make_selected c e)) (refused n (make_selected c e))) ≡ make_selected c e
    go true = refl
    go false = refl

pub selected_of_injective : (n c e m d r : ℕ) → selected_of n c e ≡ selected_of m d r → (n ≡ m) × (c ≡ d) × (e ≡ r)
selected_of_injective n c e m d r h =
    let p = sym (selected_payload n c e) ∙ ap payload h ∙ selected_payload m d r in (
      sym (selected_number n c e) ∙ ap number h ∙ selected_number m d r,
      ap (λ (s : Selected). s.chosen) p,
      ap (λ (s : Selected). s.radius) p,
    )

pub proposal_of_injective : (r s : Result ℕ Refusal) → proposal_of r ≡ proposal_of s → r ≡ s
proposal_of_injective r s e = judged_injective 0 r s e

selected_by_injective : (a b : Chosen) → selected_by a ≡ selected_by b → a ≡ b
selected_by_injective (First e) (First d) h = ap (λ (s : Selected). First s.radius) h
selected_by_injective (First e) (Second d) h = absurd (omega (arith, ap (λ (s : Selected). s.chosen) h))
selected_by_injective (Second e) (First d) h = absurd (omega (arith, ap (λ (s : Selected). s.chosen) h))
selected_by_injective (Second e) (Second d) h = ap (λ (s : Selected). Second s.radius) h

pub selection_of_injective : (r s : Result Chosen Refusal) → selection_of r ≡ selection_of s → r ≡ s
selection_of_injective (Ok a) (Ok b) h = ap Ok (selected_by_injective a b (ap payload h))
selection_of_injective (Ok a) (Err u) h = absurd (refused_not_accepted (sym h))
selection_of_injective (Err v) (Ok b) h = absurd (refused_not_accepted h)
selection_of_injective (Err v) (Err u) h = ap Err (number_of_injective v u (ap number h))

-- ---- the scratch

module _ (f g : Model) (first second : List ℤ) where
  -- 02, S-17: "With 16 or more, answers agree with those that 65 gave on the same other input"
  pub selection_as_65 : {len former : ℕ} → scratch_size ≤ len → product_size ≤ former
      → selection len f g first second ≡ selection_needing product_size former f g first second
  selection_as_65 room room' =
      ap₂ tighter (ap (map_outcome result_radius) (proposal_as_65 f g first room room')) (ap (map_outcome result_radius) (proposal_as_65 f g second room room'))

  -- "Number 1 is now given below 16"
  pub selection_below_16 : (len : ℕ) → len < scratch_size → selection len f g first second ≡ refused 1 (make_selected 0 0)
  unfolding tighter zero_model
  selection_below_16 len e =
      ap₂ tighter (ap (map_outcome result_radius) (proposal_below_16 f g first len e)) (ap (map_outcome result_radius) (proposal_below_16 f g second len e))
