-- Exact values are a suitable choice, and are the values by that choice: the converse of `exact_values` (ExactExists).
use Rattle.std.specs.Prelude.{◌≡◌, refl, List, ◌⊎◌, ℕ}
use Rattle.std.proofs.Common.{sym, subst, inl, inr}
use Rattle.fraction.specs.definitions.Fraction.{ℚ}
use Rattle.ring.proofs.laws.OrderedRingLaws.{abs_of_nonneg}
use Rattle.integer.proofs.laws.FractionOrder.{ℚ_ordered}
use Rattle.job.specs.definitions.Operations.{Maker, making_for}
use Rattle.job.specs.definitions.Decode.{Command, result}
use Rattle.job.specs.definitions.Reader.{command_for}
use Rattle.job.specs.definitions.ExactValues.{Exact, load_value, add_value, subtract_value, multiply_value, quotient_value, root_value, value_by, Suits, NamedBy, FormedFrom, itself, through, Chosen}

same_maker : {c : Command} {m n : Maker} → c ≡ result m → c ≡ result n → m ≡ n
same_maker e f = cc (e, f)

module _ {cs : List Command} {x : ℚ} {v : ℕ → ℚ} where
  -- of each maker
  exact_suits : {i : ℕ} → Exact cs x v i → (m : Maker) → command_for cs i ≡ result m → Suits x v v i m
  exact_suits (load_value i n e a) m f = subst (Suits x v v i) (same_maker e f) a
  exact_suits (add_value i j k e p q s) m f = subst (Suits x v v i) (same_maker e f) tt
  exact_suits (subtract_value i j k e p q s) m f = subst (Suits x v v i) (same_maker e f) tt
  exact_suits (multiply_value i j k d e p q s) m f = subst (Suits x v v i) (same_maker e f) tt
  exact_suits (quotient_value i j k h w e p q n s) m f = subst (Suits x v v i) (same_maker e f) tt
  exact_suits (root_value i j rule h w e p n s) m f = subst (Suits x v v i) (same_maker e f) (sym s)

  exact_by : {i : ℕ} → Exact cs x v i → (m : Maker) → command_for cs i ≡ result m → v i ≡ value_by v v i m
  exact_by (load_value i n e a) m f = subst (λ m. v i ≡ value_by v v i m) (same_maker e f) refl
  exact_by (add_value i j k e p q s) m f = subst (λ m. v i ≡ value_by v v i m) (same_maker e f) s
  exact_by (subtract_value i j k e p q s) m f = subst (λ m. v i ≡ value_by v v i m) (same_maker e f) s
  exact_by (multiply_value i j k d e p q s) m f = subst (λ m. v i ≡ value_by v v i m) (same_maker e f) s
  exact_by (quotient_value i j k h w e p q n s) m f = subst (λ m. v i ≡ value_by v v i m) (same_maker e f) s
  exact_by (root_value i j rule h w e p n s) m f = subst (λ m. v i ≡ value_by v v i m) (same_maker e f) (sym (abs_of_nonneg ℚ_ordered n))

  -- ---- and of all that it is formed from

  either : {j k l : ℕ} → Exact cs x v j → Exact cs x v k → (l ≡ j) ⊎ (l ≡ k) → Exact cs x v l
  either p q (inl e) = subst (Exact cs x v) (sym e) p
  either p q (inr e) = subst (Exact cs x v) (sym e) q

  exact_named : {i : ℕ} → Exact cs x v i → (m : Maker) → command_for cs i ≡ result m → (l : ℕ) → NamedBy (making_for m) l → Exact cs x v l
  exact_named (load_value i n e a) m f l t = absurd (subst (λ m. NamedBy (making_for m) l) (same_maker f e) t)
  exact_named (add_value i j k e p q s) m f l t = either p q (subst (λ m. NamedBy (making_for m) l) (same_maker f e) t)
  exact_named (subtract_value i j k e p q s) m f l t = either p q (subst (λ m. NamedBy (making_for m) l) (same_maker f e) t)
  exact_named (multiply_value i j k d e p q s) m f l t = either p q (subst (λ m. NamedBy (making_for m) l) (same_maker f e) t)
  exact_named (quotient_value i j k h w e p q n s) m f l t = either p q (subst (λ m. NamedBy (making_for m) l) (same_maker f e) t)
  exact_named (root_value i j rule h w e p n s) m f l t = subst (Exact cs x v) (sym (subst (λ m. NamedBy (making_for m) l) (same_maker f e) t)) p

  exact_formed : {i r : ℕ} → Exact cs x v i → FormedFrom cs i r → Exact cs x v r
  exact_formed p (itself i) = p
  exact_formed p (through i j r m e t f) = exact_formed (exact_named p m e j t) f

  pub exact_chosen : {i : ℕ} → Exact cs x v i → Chosen cs x v v i
  exact_chosen p r m f e = exact_suits (exact_formed p f) m e

  pub exact_follows : {i : ℕ} → Exact cs x v i → (r : ℕ) (m : Maker) → FormedFrom cs i r → command_for cs r ≡ result m → v r ≡ value_by v v r m
  exact_follows p r m f e = exact_by (exact_formed p f) m e
