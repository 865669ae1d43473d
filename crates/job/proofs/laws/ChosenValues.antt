-- Values of the results by a choice: they follow the commands, one after the other.
use Rattle.std.specs.Prelude.{◌≡◌, Bool, true, false, cond, List, ℕ, zero, suc, ◌<◌, eqb, pos}
use Rattle.std.proofs.Math.Path.{refl}
use Rattle.std.proofs.Common.{ap, ap₂, sym, ◌∙◌, arith, eqb-true, ne_eqb}
use Rattle.std.proofs.lemmas.Bool.{eqb-false}
use Rattle.fraction.specs.definitions.Fraction.{ℚ, whole, ◌+ℚ◌, ◌-ℚ◌, ◌*ℚ◌, ◌/ℚ◌}
use Rattle.job.specs.definitions.Operations.{Maker, load, add, subtract, multiply, quotient, root, names_bad}
use Rattle.job.specs.definitions.Decode.{Command, edition, result, finish, unknown}
use Rattle.job.specs.definitions.Reader.{command_for}
use Rattle.job.proofs.laws.CommandLaws.{both_below}
use Rattle.job.specs.definitions.ExactValues.{value_by, Follows}

-- a value depends on those of the results that its maker names alone
value_named : (choice v w : ℕ → ℚ) (i : ℕ) (m : Maker) → names_bad m i ≡ false → ((j : ℕ) → j < i → v j ≡ w j)
    → value_by choice v i m ≡ value_by choice w i m
value_named choice v w i (load m) n s = refl
value_named choice v w i (add j k) n s = let b = both_below i j k n in ap₂ ◌+ℚ◌ (s j b.0) (s k b.1)
value_named choice v w i (subtract j k) n s = let b = both_below i j k n in ap₂ ◌-ℚ◌ (s j b.0) (s k b.1)
value_named choice v w i (multiply j k d) n s = let b = both_below i j k n in ap₂ ◌*ℚ◌ (s j b.0) (s k b.1)
value_named choice v w i (quotient j k h h') n s = let b = both_below i j k n in ap₂ ◌/ℚ◌ (s j b.0) (s k b.1)
value_named choice v w i (root rule j h h') n s = refl

-- the results that a command names stand before its own
module _ (commands : List Command) (named : (i : ℕ) (m : Maker) → command_for commands i ≡ result m → names_bad m i ≡ false) (choice : ℕ → ℚ) where
  value_for : (ℕ → ℚ) → ℕ → Command → ℚ
  value_for v i edition = whole (pos 0)
  value_for v i (result m) = value_by choice v i m
  value_for v i finish = whole (pos 0)
  value_for v i unknown = whole (pos 0)

  extended : ℕ → (ℕ → ℚ) → ℕ → ℚ
  extended n v i = cond (eqb i n) (value_for v n (command_for commands n)) (v i)

  extended_before : (n : ℕ) (v : ℕ → ℚ) (i : ℕ) → i < n → v i ≡ extended n v i
  unfolding extended
  extended_before n v i h = simp (ne_eqb i n (omega arith))

  extended_follows : (n : ℕ) (v : ℕ → ℚ) → Follows commands choice n v → Follows commands choice (suc n) (extended n v)
  unfolding extended value_for
  extended_follows n v f i h m e = by (eqb i n) refl
    where
      same : value_by choice v i m ≡ value_by choice (extended n v) i m
      same = value_named choice v (extended n v) i m (named i m e) (λ j lt. extended_before n v j (omega arith))

      by : (t : Bool) → eqb i n ≡ t → extended n v i ≡ value_by choice (extended n v) i m
      by true t =
          let en : i ≡ n = eqb-true i n t in
          rw t (ap (λ (k : ℕ). value_for v k (command_for commands k)) (sym en) ∙ ap (value_for v i) e) ∙ same
      by false t = let lt : i < n = omega (arith, eqb-false i n t) in sym (extended_before n v i lt) ∙ f i lt m e ∙ same

  pub values_to : (n : ℕ) → (v : ℕ → ℚ) × Follows commands choice n v
  values_to zero = (choice, λ i h m e. absurd (omega arith))
  values_to (suc n) = let r = values_to n in (extended n r.0, extended_follows n r.0 r.1)
