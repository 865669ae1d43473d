-- The commands fix the results, the first ones the first results.
use Rattle.std.specs.Prelude.{◌≡◌, refl, List, [], ◌∷◌, ◌++◌, ℕ, zero, suc, ◌≤◌, ◌<◌, length, take}
use Rattle.std.proofs.Common.{ap, ap₂, sym, ◌∙◌, arith, take-suc}
use Rattle.std.proofs.Math.Seq.{take-length}
use Rattle.model.specs.definitions.Models.{zero_model}
use Rattle.model.specs.definitions.Outcomes.{Outcome, payload}
use Rattle.certificate.specs.definitions.Tests.{Certificate}
use Rattle.model.specs.declared.types.Model.{Model}
use Rattle.job.specs.definitions.Operations.{result_at}
use Rattle.job.specs.definitions.Decode.{Command, edition, result, finish, unknown}
use Rattle.job.specs.definitions.Reader.{command_for}
use Rattle.job.specs.definitions.Requirement.{Made}
use Rattle.job.proofs.laws.MadeLaws.{MadeBy, made_at, made_length}

made_same : (c : Command) (before : List Model) (i : ℕ) {r r' : Model} → MadeBy c before i r → MadeBy c before i r' → r ≡ r'
made_same edition before i b b' = absurd b
made_same (result m) before i b b' =
    b.gives ∙ ap (λ (o : Outcome Certificate). (payload o).model) (sym b.succeeds ∙ b'.succeeds) ∙ sym b'.gives
made_same finish before i b b' = absurd b
made_same unknown before i b b' = absurd b

module _ {cs cs' : List Command} {rs rs' : List Model} (d : Made cs rs) (d' : Made cs' rs') where
  -- the same commands at first, the same results
  pub same_first : (n : ℕ) → n ≤ length rs → n ≤ length rs' → ((i : ℕ) → i < n → command_for cs i ≡ command_for cs' i) → take n rs ≡ take n rs'
  same_first zero h h' c = refl
  same_first (suc i) h h' c =
      let t = same_first i (omega arith) (omega arith) (λ j l. c j (omega arith)) in
      let b : MadeBy (command_for cs' i) (take i rs') i (result_at rs i) = rw (t, c i (omega arith)) at (made_at d i (omega arith)) in
      take-suc rs i zero_model (omega arith)
      ∙ ap₂ (λ (l : List Model) (m : Model). l ++ (m ∷ [])) t (made_same (command_for cs' i) (take i rs') i b (made_at d' i (omega arith)))
      ∙ sym (take-suc rs' i zero_model (omega arith))

pub made_unique : {cs : List Command} {rs rs' : List Model} → Made cs rs → Made cs rs' → rs ≡ rs'
made_unique {cs} {rs} {rs'} d d' =
    let n : length rs ≡ length rs' = sym (made_length d) ∙ made_length d' in
    sym (take-length rs) ∙ same_first d d' (length rs) (omega arith) (omega arith) (λ i h. refl) ∙ ap (λ (k : ℕ). take k rs') n ∙ take-length rs'
