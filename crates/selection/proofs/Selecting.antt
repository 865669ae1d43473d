-- Two tests over one scratch, and what is promised of the chosen one.
use mathlib.Core.Path.{◌≡◌, sym, ◌∙◌, ap, subst}
use mathlib.Core.Logic.{⊎_elim}
use mathlib.Core.List.{List}
use Prim.Native.Nat.{ℕ}
use lib.IntN.{ℤ}
use lib.ListN.{length}
use Rattle.std.specs.Prelude.{Result, IfOk}
use Rattle.std.proofs.lemmas.Result.{IfOk-at_ok}
use Rattle.model.specs.definitions.Outcomes.{Outcome, accepted}
use Rattle.model.proofs.laws.OutcomeLaws.{judged_accepted}
use Rattle.model.specs.declared.types.Model.{Model}
use Rattle.model.specs.declared.types.Refusal.{Refusal}
use Rattle.certificate.specs.definitions.Tests.{scratch_after}
use Rattle.certificate.proofs.laws.Stages.{scratch_length, scratch_twice}
use Rattle.certificate.specs.definitions.Promise.{QuotientAllowed}
use Rattle.selection.specs.definitions.Proposal.{proposal_radius, proposal_of}
use Rattle.selection.specs.definitions.Select.{Selected, tighter, selection, part_numbers}
use Rattle.selection.specs.definitions.Promise.{part_model, Tightest}
use Rattle.selection.proofs.laws.SelectLaws.{tighter_is_least}

-- the second test finds as many numbers in the scratch as the first, and clears what is cleared
pub two_tests : (f g : Model) (first second s s₁ s₂ : List ℤ) {p q : Outcome ℕ} {o : Outcome Selected}
    → p ≡ proposal_radius (length s) f g first → s₁ ≡ scratch_after s
    → q ≡ proposal_radius (length s₁) f g second → s₂ ≡ scratch_after s₁
    → o ≡ tighter p q → (o ≡ selection (length s) f g first second) × (s₂ ≡ scratch_after s)
two_tests f g first second s s₁ s₂ ep e₁ eq e₂ eo =
    let j = eq ∙ ap (λ (n : ℕ). proposal_radius n f g second) (ap length e₁ ∙ scratch_length s) in
    (eo ∙ (λ k. tighter (ep k) (j k)), e₂ ∙ ap scratch_after e₁ ∙ scratch_twice s)

-- what is promised of each proposal that passes is promised of the chosen one
module _ (f g : Model) (first second : List ℤ) where
  abbrev pub Promised : ℕ → ℕ → Type 0
  Promised k e = QuotientAllowed f g (part_model (part_numbers k first second) e f.interval)

  pub chosen_promised : (a b : Result ℕ Refusal) → IfOk a (Promised 1) → IfOk b (Promised 2) → (c : Selected)
      → tighter (proposal_of a) (proposal_of b) ≡ accepted c → Promised c.chosen c.radius
  chosen_promised a b of_first of_second c e =
      ⊎_elim
      (λ p. subst (λ k. Promised k c.radius) (sym p.0) (IfOk-at_ok (Promised 1) (judged_accepted 0 a p.1) of_first))
      (λ p. subst (λ k. Promised k c.radius) (sym p.0) (IfOk-at_ok (Promised 2) (judged_accepted 0 b p.1) of_second))
      (tighter_is_least (proposal_of a) (proposal_of b) e).passes

  -- both tests and what they select: the chosen one's promises, and the scratch
  pub record Selects (s s₂ : List ℤ) (k : Selected) : Type 0 where
    pub selection_is : selection (length s) f g first second ≡ accepted k
    pub scratch_is : s₂ ≡ scratch_after s
    pub promised : Promised k.chosen k.radius
    pub tightest : Tightest (proposal_radius (length s) f g first) (proposal_radius (length s) f g second) k

  pub selects : (s s₁ s₂ : List ℤ) (a b : Result ℕ Refusal) (k : Selected)
      → proposal_of a ≡ proposal_radius (length s) f g first → s₁ ≡ scratch_after s → IfOk a (Promised 1)
      → proposal_of b ≡ proposal_radius (length s₁) f g second → s₂ ≡ scratch_after s₁ → IfOk b (Promised 2)
      → accepted k ≡ tighter (proposal_of a) (proposal_of b) → Selects s s₂ k
  selects s s₁ s₂ a b k ea e₁ pa eb e₂ pb ek =
      let t = two_tests f g first second s s₁ s₂ ea e₁ eb e₂ ek in
      record {
        selection_is = sym t.0;
        scratch_is = t.1;
        promised = chosen_promised a b pa pb k (sym ek);
        tightest = tighter_is_least (proposal_radius (length s) f g first) (proposal_radius (length s) f g second) (sym t.0);
      }
