-- Requirement 3 over the definitions: what a job's commands make is vouched for. One value is chosen for each result, in its
-- box and allowed by its model, by induction on the permission of its box.
use Rattle.std.specs.Prelude.{◌≡◌, refl, ◌⊎◌, List, ℕ, pos}
use Rattle.std.proofs.Common.{sym, ◌∙◌, subst, inl, inr}
use Rattle.std.proofs.Math.Path.{ap}
use Rattle.ring.proofs.laws.OrderedRingLaws.{le_of_eq}
use Rattle.fraction.specs.definitions.Fraction.{ℚ, whole, ◌+ℚ◌, ◌-ℚ◌, ◌*ℚ◌, ◌<ℚ◌, ◌/ℚ◌}
use Rattle.integer.proofs.laws.FractionOrder.{ℚ_ordered}
use Rattle.model.specs.definitions.Allowed.{Allows, OnInterval}
use Rattle.model.specs.definitions.Outcomes.{Outcome, accepted}
use Rattle.model.proofs.laws.OperationsSound.{addition_sound, subtraction_sound, multiplication_sound}
use Rattle.model.specs.definitions.Add.{sum_model, difference_model}
use Rattle.model.specs.definitions.Multiply.{product_model}
use Rattle.model.proofs.laws.PlaceLaws.{Performed, addition_accepted, subtraction_accepted, multiplication_accepted}
use Rattle.model.specs.declared.types.Candidate.{Candidate}
use Rattle.model.specs.declared.types.Interval.{Interval}
use Rattle.certificate.specs.definitions.Tests.{scratch_size}
use Rattle.certificate.specs.definitions.Quotient.{quotient_test}
use Rattle.certificate.specs.definitions.Root.{root_test}
use Rattle.certificate.specs.declared.types.RootRule.{RootRule}
use Rattle.certificate.proofs.laws.QuotientSound.{quotient_interval, quotient_sound, quotient_nonzero}
use Rattle.certificate.proofs.laws.RootSound.{root_interval, root_sound, root_overlap}
use Rattle.model.specs.declared.types.Model.{Model}
use Rattle.job.specs.definitions.Operations.{Maker, load, add, subtract, multiply, quotient, root, making_for, result_at, operation}
use Rattle.job.specs.definitions.ExactValues.{NamedBy}
use Rattle.job.specs.definitions.Decode.{Command, result}
use Rattle.job.specs.definitions.Reader.{command_for}
use Rattle.job.specs.definitions.InnerContracts.{untested_outcome}
use Rattle.job.proofs.laws.MakerLaws.{untested_accepted, loading_same, load_operation, add-operation, subtract_operation, multiply_operation, quotient_operation, root_operation}
use Rattle.job.proofs.laws.MadeLaws.{MadeFrom, made_maker}
use Rattle.job.specs.definitions.Requirement.{Made, Box, Permitted, load_box, add_box, subtract_box, multiply_box, quotient_box, root_box, Overlaps}
use Rattle.job.proofs.laws.Hull.{sum_lies, difference_lies, product_lies, quotient_lies}

-- each result is what its command gives for the results, without a refusal
module _ {cs : List Command} {rs : List Model} (made : Made cs rs) where
  from : (i : ℕ) (m : Maker) → command_for cs i ≡ result m → MadeFrom m rs i (result_at rs i)
  from i m e = made_maker made i m e

  -- a maker that tests nothing: what its operation accepts is its result
  given : (i : ℕ) (m : Maker) {o : Outcome Model} → command_for cs i ≡ result m → operation m rs ≡ untested_outcome o
      → o ≡ accepted (result_at rs i)
  given i m {o} e f = let r = from i m e in untested_accepted o (sym f ∙ r.succeeds) ∙ ap accepted (sym r.gives)

  quotient_passes : (i j k : ℕ) (h w : Candidate) (e : command_for cs i ≡ result (quotient j k h w))
      → quotient_test scratch_size (result_at rs j) (result_at rs k) h w ≡ accepted (from i (quotient j k h w) e).certificate
  quotient_passes i j k h w e = sym (quotient_operation j k h w rs) ∙ (from i (quotient j k h w) e).succeeds

  root_passes : (i j : ℕ) (rule : RootRule) (h w : Candidate) (e : command_for cs i ≡ result (root rule j h w))
      → root_test rule scratch_size (result_at rs j) h w ≡ accepted (from i (root rule j h w) e).certificate
  root_passes i j rule h w e = sym (root_operation rule j h w rs) ∙ (from i (root rule j h w) e).succeeds

  -- S-24: a result is on the interval of the results that its command names
  abbrev ends : ℕ → Interval
  ends n = (result_at rs n).interval

  of_two_named : (i a b : ℕ) → (ends i ≡ ends a) × (ends i ≡ ends b) → (j : ℕ) → (j ≡ a) ⊎ (j ≡ b) → ends i ≡ ends j
  of_two_named i a b p j (inl e) = p.0 ∙ ap ends (sym e)
  of_two_named i a b p j (inr e) = p.1 ∙ ap ends (sym e)

  performed : {a b m c : Model} → Performed a b m c → m.interval ≡ a.interval → (c.interval ≡ a.interval) × (c.interval ≡ b.interval)
  performed p e = let r = ap (λ (m : Model). m.interval) p.result ∙ e in (r, r ∙ p.same_interval_lem)

  pub same_interval_lem : (i : ℕ) (m : Maker) → command_for cs i ≡ result m → (j : ℕ) → NamedBy (making_for m) j → ends i ≡ ends j
  unfolding sum_model difference_model product_model
  same_interval_lem i (load m) e j n = absurd n
  same_interval_lem i (add a b) e j n =
      of_two_named i a b (performed (addition_accepted (result_at rs a) (result_at rs b) (given i (add a b) e (add-operation a b rs))) refl) j n
  same_interval_lem i (subtract a b) e j n =
      of_two_named i a b (performed (subtraction_accepted (result_at rs a) (result_at rs b) (given i (subtract a b) e (subtract_operation a b rs))) refl) j n
  same_interval_lem i (multiply a b d) e j n =
      of_two_named i a b (performed (multiplication_accepted d (result_at rs a) (result_at rs b) (given i (multiply a b d) e (multiply_operation a b d rs))) refl) j n
  same_interval_lem i (quotient a b h w) e j n =
      let g = ap (λ (m : Model). m.interval) (from i (quotient a b h w) e).gives in
      let r = quotient_interval scratch_size (result_at rs a) (result_at rs b) h w (quotient_passes i a b h w e) in
      of_two_named i a b (g ∙ r.0, g ∙ r.1) j n
  same_interval_lem i (root rule a h w) e j n =
      ap (λ (m : Model). m.interval) (from i (root rule a h w) e).gives
      ∙ root_interval rule scratch_size (result_at rs a) h w (root_passes i a rule h w e)
      ∙ ap ends (sym n)

  module _ (x : ℚ) where
    abbrev On : ℕ → Type 0
    On i = OnInterval (ends i) x

    -- a fraction of a result's interval is one of theirs
    on_named : (i : ℕ) (m : Maker) → command_for cs i ≡ result m → (j : ℕ) → NamedBy (making_for m) j → On i → On j
    on_named i m e j n on = subst (λ k. OnInterval k x) (same_interval_lem i m e j n) on

    pub overlaps : (box : ℕ → Box) {i : ℕ} → Permitted cs x box i → On i → Overlaps (box i) (result_at rs i) x
    overlaps box (load_box i m v e a l h) on =
        record {
          v = v;
          lies = record { above = le_of_eq ℚ_ordered l; below = le_of_eq ℚ_ordered (sym h) };
          allowed = rw (loading_same m (given i (load m) e (load_operation m rs))) a;
        }
    overlaps box (add_box i j k e p q l h) on =
        let r = overlaps box p (on_named i (add j k) e j (inl refl) on) in
        let s = overlaps box q (on_named i (add j k) e k (inr refl) on) in
        record {
          v = r.v +ℚ s.v;
          lies = sum_lies (box j) (box k) (box i) r.v s.v l h r.lies s.lies;
          allowed = addition_sound (result_at rs j) (result_at rs k) (given i (add j k) e (add-operation j k rs)) x r.v s.v r.allowed s.allowed;
        }
    overlaps box (subtract_box i j k e p q l h) on =
        let r = overlaps box p (on_named i (subtract j k) e j (inl refl) on) in
        let s = overlaps box q (on_named i (subtract j k) e k (inr refl) on) in
        record {
          v = r.v -ℚ s.v;
          lies = difference_lies (box j) (box k) (box i) r.v s.v l h r.lies s.lies;
          allowed = subtraction_sound (result_at rs j) (result_at rs k) (given i (subtract j k) e (subtract_operation j k rs)) x r.v s.v r.allowed s.allowed;
        }
    overlaps box (multiply_box i j k d e p q f) on =
        let on_j = on_named i (multiply j k d) e j (inl refl) on in
        let r = overlaps box p on_j in
        let s = overlaps box q (on_named i (multiply j k d) e k (inr refl) on) in
        record {
          v = r.v *ℚ s.v;
          lies = product_lies (box j) (box k) (box i) r.v s.v f r.lies s.lies;
          allowed = multiplication_sound d (result_at rs j) (result_at rs k) (given i (multiply j k d) e (multiply_operation j k d rs)) x r.v s.v on_j r.allowed s.allowed;
        }
    overlaps box (quotient_box i j k h w e p q z f) on =
        let on_j = on_named i (quotient j k h w) e j (inl refl) on in
        let r = overlaps box p on_j in
        let s = overlaps box q (on_named i (quotient j k h w) e k (inr refl) on) in
        record {
          v = r.v /ℚ s.v;
          lies = quotient_lies (box j) (box k) (box i) r.v s.v z f r.lies s.lies;
          allowed = rw (from i (quotient j k h w) e).gives (quotient_sound scratch_size (result_at rs j) (result_at rs k) h w (quotient_passes i j k h w e) x on_j r.v s.v r.allowed s.allowed);
        }
    overlaps box (root_box i j rule h w e p l n u) on =
        let on_j = on_named i (root rule j h w) e j refl on in
        let r = overlaps box p on_j in
        let o = root_overlap rule scratch_size (result_at rs j) h w (root_passes i j rule h w e) x r.v on_j r.allowed
        (box i).low (box i).high (box j).low (box j).high l n u (box i).ordered r.lies.above r.lies.below in
        record {
          v = o.0;
          lies = record { above = o.1; below = o.2 };
          allowed = rw (from i (root rule j h w) e).gives o.3;
        }

    pub divisor_nonzero : (i j k : ℕ) (h w : Candidate) → command_for cs i ≡ result (quotient j k h w) → On i
        → (v : ℚ) → Allows (result_at rs k) x v → ¬ (v ≡ whole (pos 0))
    divisor_nonzero i j k h w e on v a =
        quotient_nonzero scratch_size (result_at rs j) (result_at rs k) h w (quotient_passes i j k h w e) x (on_named i (quotient j k h w) e j (inl refl) on) v a

    pub radicand_positive : (i j : ℕ) (rule : RootRule) (h w : Candidate) → command_for cs i ≡ result (root rule j h w) → On i
        → (v : ℚ) → Allows (result_at rs j) x v → whole (pos 0) <ℚ v
    radicand_positive i j rule h w e on v a =
        (root_sound rule scratch_size (result_at rs j) h w (root_passes i j rule h w e) x v (on_named i (root rule j h w) e j refl on) a).positive
