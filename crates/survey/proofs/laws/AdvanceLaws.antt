-- One command of the walk, whose code holds the degrees of the results so far at the front of a list.
use Rattle.std.specs.Prelude.{◌≡◌, refl, false, List, [], ◌∷◌, ◌++◌, ℕ, ◌+◌, ◌≤◌, ◌<◌, ◌&&◌, Option, None, Some, leb, length, take, set}
use Rattle.std.proofs.Common.{sym, ap, ◌∙◌, arith, add-one, leb-false, length-take, take-suc-set}
use Rattle.job.specs.definitions.Decode.{maker_at, command_at}
use Rattle.job.specs.definitions.Reading.{max_results, makes_result}
use Rattle.job.specs.declared.types.Operation.{Operation}
use Rattle.job.specs.declared.types.Kind.{Kind}
use Rattle.job.specs.declared.types.Kind.TheVariants.{End, Edition, Result, Unknown}
use Rattle.survey.specs.definitions.Degrees.{maker_degree, degrees_after}
use Rattle.survey.specs.definitions.Editions.{maker_converted, command_converted}
use Rattle.survey.specs.definitions.InnerContracts.{TellsDegree, Advancing, degree_made}
use Rattle.survey.proofs.laws.NameLaws.{degree_named, converted_named, names_within}

-- the degrees that the code holds are as many as it counts
pub held_length : (ds : List ℕ) (count : ℕ) → count ≤ length ds → length (take count ds) ≡ count
held_length ds count h = length-take count ds ∙ omega arith

-- one more
pub held_more : (ds : List ℕ) (count degree : ℕ) → count < length ds → take (count + 1) (set ds count degree) ≡ take count ds ++ (degree ∷ [])
held_more ds count degree h = ap (λ (n : ℕ). take n (set ds count degree)) (add-one count) ∙ take-suc-set ds count degree h

-- what a turn of the walk does
abbrev pub Advanced : Kind → List ℕ → ℕ → List ℕ → ℕ → List ℕ → ℕ → List ℕ → List ℕ → Type 0
Advanced kind job at list count out r list' out' =
    ((take r list' ≡ degrees_after (command_at kind job at) (take count list)) × (r ≤ max_results))
    × (out' ≡ command_converted (command_at kind job at) job at (take count list) out)

-- a command that makes a result finds room for its degree, and any other leaves the degrees
module _ (job : List ℕ) (at : ℕ) (list : List ℕ) (count : ℕ) where
  abbrev made : Kind → Option ℕ
  made kind = degree_made (command_at kind job at) (take count list)

  pub room_left : (kind : Kind) (d : ℕ) → Some d ≡ made kind → (makes_result kind && leb max_results count) ≡ false → count < max_results
  room_left (Result op) d e h = leb-false max_results count h
  room_left End d e h = cc
  room_left Edition d e h = cc
  room_left Unknown d e h = cc

  pub degree_added : (kind : Kind) (d : ℕ) → Some d ≡ made kind → degrees_after (command_at kind job at) (take count list) ≡ take count list ++ (d ∷ [])
  degree_added (Result op) d e = ap (λ (x : ℕ). take count list ++ (x ∷ [])) (let s : _ ≡ d = cc in s)
  degree_added End d e = cc
  degree_added Edition d e = cc
  degree_added Unknown d e = cc

  pub degrees_left : (kind : Kind) → None ≡ made kind → degrees_after (command_at kind job at) (take count list) ≡ take count list
  degrees_left (Result op) e = cc
  degrees_left End e = refl
  degrees_left Edition e = refl
  degrees_left Unknown e = refl

-- of a list that holds the degrees at its front
module _ (op : Operation) (job : List ℕ) (at : ℕ) (list : List ℕ) (count : ℕ) (a : Advancing (Result op) job at list count) where
  pub advance_tells : TellsDegree op job at list
  advance_tells =
      record { names = names_within (maker_at op job at) count (length list) (omega (arith, a.long, a.few)) a.names; room = a.room }

  pub advance_few : count < max_results
  advance_few = leb-false max_results count a.space

  pub advanced_result : (d : ℕ) (out out' : List ℕ) → d ≡ maker_degree (maker_at op job at) list → out' ≡ maker_converted (maker_at op job at) at list out
      → Advanced (Result op) job at list count out (count + 1) (set list count d) out'
  advanced_result d out out' e g =
      let m = maker_at op job at in
      let few = advance_few in (
        (
          held_more list count d (omega (arith, a.long, few))
              ∙ ap (λ (z : ℕ). take count list ++ (z ∷ [])) (e ∙ sym (degree_named count list m a.names)),
          omega (arith, few),
        ),
        g ∙ sym (converted_named count list m at out a.names),
      )
