-- Which bytes a conversion leaves alone, and what commands two jobs hold whose bytes agree.
use Rattle.std.specs.Prelude.{◌≡◌, refl, Bool, true, false, cond, ◌≢◌, List, ◌∷◌, length, ℤ}
use Rattle.std.proofs.Common.{ap, ap₂, ◌∙◌, arith, length-set, get_or-set_other}
use Prim.Native.Nat.{ℕ, zero, suc, ◌+◌, ◌*◌, ◌≤◌, ◌<◌}
use Rattle.model.specs.definitions.Intervals.{make_interval}
use Rattle.model.specs.definitions.Models.{make_model}
use Rattle.model.specs.declared.types.Candidate.{Candidate}
use Rattle.model.specs.declared.types.Interval.{Interval}
use Rattle.job.specs.definitions.Bytes.{byte_at, unsigned_at, signed, signeds_at, candidate_at, block_at, interval_at}
use Rattle.job.specs.definitions.Operations.{Maker, load, add, subtract, multiply, quotient, root}
use Rattle.job.specs.definitions.Decode.{shape_of, Command, edition, result, finish, unknown, command_at}
use Rattle.job.specs.definitions.Reading.{is_end}
use Rattle.job.specs.declared.types.Shape.{Shape}
use Rattle.survey.specs.definitions.Degrees.{degrees_after}
use Rattle.survey.specs.definitions.Editions.{maker_converted, command_converted, convert_from}

-- ---- the length, and the bytes up to a command's own

pub maker_length : (m : Maker) (at : ℕ) (ds s : List ℕ) → length (maker_converted m at ds s) ≡ length s
maker_length (load m) at ds s = refl
maker_length (add i j) at ds s = refl
maker_length (subtract i j) at ds s = refl
maker_length (multiply i j d) at ds s = length-set s (at + 3) _
maker_length (quotient i j h w) at ds s = refl
maker_length (root rule i h w) at ds s = refl

pub maker_before : (m : Maker) (at : ℕ) (ds s : List ℕ) (j : ℕ) → j ≢ at + 3 → byte_at (maker_converted m at ds s) j ≡ byte_at s j
maker_before (load m) at ds s j h = refl
maker_before (add i k) at ds s j h = refl
maker_before (subtract i k) at ds s j h = refl
maker_before (multiply i k d) at ds s j h = get_or-set_other s (at + 3) j _ 0 h
maker_before (quotient i k g w) at ds s j h = refl
maker_before (root rule i g w) at ds s j h = refl

pub command-length : (c : Command) (job : List ℕ) (at : ℕ) (ds s : List ℕ) → length (command_converted c job at ds s) ≡ length s
command-length edition job at ds s = length-set s (at + 1) _
command-length (result m) job at ds s = maker_length m at ds s
command-length finish job at ds s = refl
command-length unknown job at ds s = refl

pub command_before : (c : Command) (job : List ℕ) (at : ℕ) (ds s : List ℕ) (j : ℕ) → j ≤ at → byte_at (command_converted c job at ds s) j ≡ byte_at s j
command_before edition job at ds s j h = get_or-set_other s (at + 1) j _ 0 (λ e. omega arith)
command_before (result m) job at ds s j h = maker_before m at ds s j (λ e. omega arith)
command_before finish job at ds s j h = refl
command_before unknown job at ds s j h = refl

module _ (job : List ℕ) where
  -- a property of the bytes that every command keeps is kept over the whole walk
  from_kept : (P : List ℕ → Type 0) (g : ℕ → Type 0) → ((i n : ℕ) → g i → g (i + 1 + n))
      → ((c : Command) (at : ℕ) (ds s : List ℕ) → g at → P s → P (command_converted c job at ds s))
      → (f : ℕ) (ds : List ℕ) (at : ℕ) (s : List ℕ) → g at → P s → P (convert_from f job ds at s)
  unfolding convert_from
  from_kept P g on keeps zero ds at s h p = p
  from_kept P g on keeps (suc f) ds at s h p =
      by (is_end shape.kind) (from_kept P g on keeps f (degrees_after c ds) (at + 1 + shape.width) (command_converted c job at ds s) (on at shape.width h) (keeps c at ds s h p))
    where
      shape : Shape
      shape = shape_of (byte_at job at)

      c : Command
      c = command_at shape.kind job at

      by : (t : Bool) {r : List ℕ} → P r → P (cond t s r)
      by true q = p
      by false q = q

  pub convert_length : (f : ℕ) (ds : List ℕ) (at : ℕ) (s : List ℕ) → length (convert_from f job ds at s) ≡ length s
  convert_length f ds at s =
      from_kept (λ r. length r ≡ length s) (λ i. Unit {0}) (λ i n u. tt) (λ c i es r u p. command-length c job i es r ∙ p) f ds at s tt refl

  pub convert_before : (f : ℕ) (ds : List ℕ) (at : ℕ) (s : List ℕ) (j : ℕ) → j ≤ at → byte_at (convert_from f job ds at s) j ≡ byte_at s j
  convert_before f ds at s j h =
      from_kept (λ r. byte_at r j ≡ byte_at s j) (λ i. j ≤ i) (λ i n u. omega (arith, u)) (λ c i es r u p. command_before c job i es r j u ∙ p) f ds at s h refl

-- ---- bytes that agree

abbrev pub Agree : List ℕ → List ℕ → ℕ → ℕ → Type 0
Agree s t from to = (j : ℕ) → from ≤ j → j < to → byte_at s j ≡ byte_at t j

pub agree_unsigned : (s t : List ℕ) (i : ℕ) → Agree s t i (i + 4) → unsigned_at s i ≡ unsigned_at t i
agree_unsigned s t i h =
    let e₀ : byte_at s i ≡ byte_at t i = h i (omega arith) (omega arith) in
    let e₁ : byte_at s (i + 1) ≡ byte_at t (i + 1) = h (i + 1) (omega arith) (omega arith) in
    let e₂ : byte_at s (i + 2) ≡ byte_at t (i + 2) = h (i + 2) (omega arith) (omega arith) in
    let e₃ : byte_at s (i + 3) ≡ byte_at t (i + 3) = h (i + 3) (omega arith) (omega arith) in
    rw (e₀, e₁, e₂, e₃) refl

agree_signeds : (s t : List ℕ) (i n : ℕ) → Agree s t i (i + 4 * n) → signeds_at s i n ≡ signeds_at t i n
unfolding signeds_at
agree_signeds s t i zero h = refl
agree_signeds s t i (suc n) h =
    ap₂ (λ (z : ℤ) (l : List ℤ). z ∷ l) (ap signed (agree_unsigned s t i (λ j p q. h j p (omega arith))))
    (agree_signeds s t (i + 4) n (λ j p q. h j (omega arith) (omega arith)))

agree_coefficients : (s t : List ℕ) (i : ℕ) → Agree s t i (i + 133) → signeds_at s (i + 1) 33 ≡ signeds_at t (i + 1) 33
agree_coefficients s t i h = agree_signeds s t (i + 1) 33 (λ j p q. h j (omega arith) (omega arith))

pub agree_block : (s t : List ℕ) (i e : ℕ) (l : Interval) → Agree s t i (i + 133) → block_at s i e l ≡ block_at t i e l
agree_block s t i e l h = ap₂ (λ (d : ℕ) (cs : List ℤ). make_model d cs e l) (h i (omega arith) (omega arith)) (agree_coefficients s t i h)

abbrev candidate : ℕ → List ℤ → Candidate
candidate d cs = record { degree = d; coefficients = cs }

pub agree_candidate : (s t : List ℕ) (i : ℕ) → Agree s t i (i + 133) → candidate_at s i ≡ candidate_at t i
agree_candidate s t i h = ap₂ (λ (d : ℕ) (cs : List ℤ). candidate d cs) (h i (omega arith) (omega arith)) (agree_coefficients s t i h)

pub agree_interval : (s t : List ℕ) (i : ℕ) → Agree s t i (i + 8) → interval_at s i ≡ interval_at t i
agree_interval s t i h =
    ap₂ make_interval (ap signed (agree_unsigned s t i (λ j p q. h j p (omega arith)))) (ap signed (agree_unsigned s t (i + 4) (λ j p q. h j (omega arith) (omega arith))))
