-- Results made one after the other: each is what its command gives for all of them.
use Rattle.std.specs.Prelude.{◌≡◌, refl, Bool, true, false, List, [], ◌∷◌, ◌++◌, ℕ, ◌<◌, ltb, length, take}
use Rattle.std.proofs.Math.Path.{ap}
use Rattle.std.proofs.Common.{ap₂, sym, subst, ◌∙◌, arith, ltb-true, ltb-false, leb-false, length-append, get_or-take, take_at}
use Rattle.std.proofs.Math.Decide.{dec_lt}
use Rattle.std.proofs.Math.ListN.{get_or-append, get_or-eq_default}
use Rattle.std.proofs.lemmas.List.{get_or_at, take-append-le}
use Rattle.model.specs.definitions.Models.{zero_model}
use Rattle.model.specs.definitions.Outcomes.{accepted, outcome}
use Rattle.certificate.specs.definitions.Tests.{Certificate, zero_certificate}
use Rattle.model.specs.declared.types.Model.{Model}
use Rattle.job.specs.definitions.Operations.{Maker, Given, Making, of_none, of_one, of_two, making_for, bad_in, result_at, given_in, names_bad, maker_places, operation}
use Rattle.job.specs.definitions.Decode.{Command, edition, result, finish, unknown}
use Rattle.job.specs.definitions.Reader.{command_for}
use Rattle.job.specs.definitions.Requirement.{Made, nothing, one_more}
use Rattle.job.proofs.laws.CommandLaws.{both_below}

pub made_length : {cs : List Command} {rs : List Model} → Made cs rs → length cs ≡ length rs
made_length nothing = refl
made_length (one_more {cs} {rs} {c} d m h₁ h₂) =
    omega (arith, made_length d, length-append cs (result m ∷ []), length-append rs (c.model ∷ []))

-- ---- one result

-- result i is r: its maker names results before it, and gives r for the results `before`
pub record MadeFrom (m : Maker) (before : List Model) (i : ℕ) (r : Model) : Type 0 where
  pub names : names_bad m i ≡ false
  pub certificate : Certificate
  pub succeeds : operation m before ≡ accepted certificate
  pub gives : r ≡ certificate.model

-- result i is r, by its command
abbrev pub MadeBy : Command → List Model → ℕ → Model → Type 0
MadeBy edition before i r = ⊥
MadeBy (result m) before i r = MadeFrom m before i r
MadeBy finish before i r = ⊥
MadeBy unknown before i r = ⊥

-- a result and its command added at the end
module _ (cs : List Command) (rs : List Model) (c : Command) (x : Model) (n : length cs ≡ length rs) (i : ℕ) where
  abbrev Added : Type 0
  Added = MadeBy (command_for (cs ++ (c ∷ [])) i) (take i (rs ++ (x ∷ []))) i (result_at (rs ++ (x ∷ [])) i)

  earlier : i < length rs → MadeBy (command_for cs i) (take i rs) i (result_at rs i) → Added
  earlier h b =
      rw
      (get_or-append cs (c ∷ []) finish i (omega arith), get_or-append rs (x ∷ []) zero_model i h, take-append-le i rs (x ∷ []) (omega arith))
      b

  last : i ≡ length rs → MadeBy c rs (length rs) x → Added
  last e b = rw (get_or_at cs c [] finish i (omega arith), get_or_at rs x [] zero_model i (sym e), take_at rs (x ∷ []) i (sym e), e) b

pub made_at : {cs : List Command} {rs : List Model} → Made cs rs → (i : ℕ) → i < length rs
    → MadeBy (command_for cs i) (take i rs) i (result_at rs i)
made_at nothing i lt = absurd (omega arith)
made_at (one_more {cs} {rs} {c} d m h₁ h₂) i lt = by (ltb i (length rs)) refl (λ h. made_at d i h)
  where
    x : Model
    x = c.model

    by : (t : Bool) → ltb i (length rs) ≡ t → (i < length rs → MadeBy (command_for cs i) (take i rs) i (result_at rs i))
        → MadeBy (command_for (cs ++ (result m ∷ [])) i) (take i (rs ++ (x ∷ []))) i (result_at (rs ++ (x ∷ [])) i)
    by true e b = let h = ltb-true i (length rs) e in earlier cs rs (result m) x (made_length d) i h (b h)
    by false e b =
        last cs rs (result m) x (made_length d) i (omega (arith, ltb-false i (length rs) e, length-append rs (x ∷ [])))
        (record { names = h₁; certificate = c; succeeds = h₂; gives = refl })

-- ---- an operation depends on the results that its making names alone

module _ (i : ℕ) (rs : List Model) where
  same_result : (j : ℕ) → j < i → result_at (take i rs) j ≡ result_at rs j
  same_result j h = get_or-take i rs j zero_model h

  making_named : (r : Making) → bad_in r i ≡ false → given_in r (take i rs) ≡ given_in r rs
  making_named (of_none g) h = refl
  making_named (of_one j g) h = ap g (same_result j (leb-false i j h))
  making_named (of_two j k g) h = let b = both_below i j k h in ap₂ g (same_result j b.0) (same_result k b.1)

  pub operation_named : (m : Maker) → names_bad m i ≡ false → operation m (take i rs) ≡ operation m rs
  unfolding operation maker_places
  operation_named m h = ap (λ (g : Given). outcome g.places g.certificate zero_certificate) (making_named (making_for m) h)

  from_all : (c : Command) (r : Model) → MadeBy c (take i rs) i r → MadeBy c rs i r
  from_all edition r b = b
  from_all (result m) r b =
      record { names = b.names; certificate = b.certificate; succeeds = sym (operation_named m b.names) ∙ b.succeeds; gives = b.gives }
  from_all finish r b = b
  from_all unknown r b = b

-- so result i is what its command gives for all the results
pub made_from_all : {cs : List Command} {rs : List Model} → Made cs rs → (i : ℕ) → i < length rs
    → MadeBy (command_for cs i) rs i (result_at rs i)
made_from_all {cs} {rs} d i h = from_all i rs (command_for cs i) (result_at rs i) (made_at d i h)

-- ---- by the maker of a result

-- a command that makes a result is among those of the list
command_listed : (cs : List Command) (i : ℕ) (m : Maker) → command_for cs i ≡ result m → i < length cs
command_listed cs i m e = pick (dec_lt i (length cs))
  where
    pick : Dec (i < length cs) → i < length cs
    pick (yes h) = h
    pick (no h) =
        let d : command_for cs i ≡ finish = get_or-eq_default cs finish (omega arith) in
        let z : ◌≡◌ {A = ℕ} 0 1 = cc in
        absurd (omega arith)

pub made_maker : {cs : List Command} {rs : List Model} → Made cs rs → (i : ℕ) (m : Maker) → command_for cs i ≡ result m
    → MadeFrom m rs i (result_at rs i)
made_maker {cs} {rs} d i m e =
    subst (λ (c : Command). MadeBy c rs i (result_at rs i)) e
    (made_from_all d i (omega (arith, made_length d, command_listed cs i m e)))

-- each of the results has its maker
pub made_by_maker : {cs : List Command} {rs : List Model} → Made cs rs → (i : ℕ) → i < length rs → (m : Maker) × (command_for cs i ≡ result m)
made_by_maker {cs} {rs} d i h = by (command_for cs i) refl (made_from_all d i h)
  where
    by : (c : Command) → command_for cs i ≡ c → MadeBy c rs i (result_at rs i) → (m : Maker) × (command_for cs i ≡ result m)
    by edition e b = absurd b
    by (result m) e b = (m, e)
    by finish e b = absurd b
    by unknown e b = absurd b
