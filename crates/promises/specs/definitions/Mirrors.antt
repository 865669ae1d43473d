-- 02, S-11: "A mirrored crown must give mirrored models". Equations of whole outcomes, refusals included; with S-24 on any
-- interval.
use Rattle.std.specs.Prelude.{◌≡◌, Bool, List, map, ◌↔◌, ℕ, ℤ}
use Rattle.fraction.specs.definitions.Fraction.{ℚ, -ℚ◌}
use Rattle.model.specs.definitions.Outcomes.{accepted, map_outcome}
use Rattle.model.specs.definitions.Allowed.{Allows, OnInterval}
use Rattle.model.specs.definitions.Add.{addition, subtraction}
use Rattle.model.specs.definitions.Multiply.{multiplication}
use Rattle.model.specs.definitions.Integrate.{integration}
use Rattle.model.specs.definitions.Evaluate.{evaluation, point}
use Rattle.model.specs.definitions.Mirror.{negated_where, negated, mirrored, mirrored_point, mirrored_fraction}
use Rattle.model.specs.definitions.Mirror.{negated_candidate, mirrored_candidate}
use Rattle.model.specs.declared.types.Candidate.{Candidate}
use Rattle.model.specs.declared.types.Interval.{Interval}
use Rattle.model.specs.declared.types.Model.{Model}
use Rattle.certificate.specs.definitions.Tests.{Certificate}
use Rattle.certificate.specs.definitions.Quotient.{quotient_test}
use Rattle.certificate.specs.definitions.Root.{root_test}
use Rattle.certificate.specs.definitions.Mirror.{on_model}
use Rattle.certificate.specs.declared.types.RootRule.{RootRule}
use Rattle.job.specs.definitions.Decode.{Command}
use Rattle.job.specs.definitions.Mirror.{mirrored_command}
use Rattle.job.specs.definitions.Outcomes.{accepted as job_accepted}
use Rattle.job.specs.definitions.Reader.{job_reading, well}
use Rattle.job.specs.definitions.Run.{job_outcome}
use Rattle.series.specs.definitions.Convert.{conversion}
use Rattle.series.specs.definitions.Mirror.{negated_series, mirrored_series}
use Rattle.series.specs.declared.types.Series.{Series}

pub record Mirrors : Type 0 where
  -- "Negating every coefficient of one factor, or of an integrand, then negates the result's coefficients and keeps its radius."
  pub multiplication_first : (d : ℕ) (a b : Model) → multiplication d (negated a) b ≡ map_outcome negated (multiplication d a b)
  pub multiplication_second : (d : ℕ) (a b : Model) → multiplication d a (negated b) ≡ map_outcome negated (multiplication d a b)
  pub integration-negated : (a : Model) → integration (negated a) ≡ map_outcome negated (integration a)
  -- "Negating p and the odd coefficients keeps the bounds of an evaluation." S-24: "S-11 mirrors p to l+u−p"
  pub evaluation-mirrored : (a : Model) (p : ℤ) → evaluation (mirrored a) (mirrored_point a.interval p) ≡ evaluation a p
  -- "A mirrored crown must give mirrored models": of sums and differences at any places, of products and of series
  pub addition-negated : (chosen : ℕ → Bool) (a b : Model)
      → addition (negated_where chosen a) (negated_where chosen b) ≡ map_outcome (negated_where chosen) (addition a b)
  pub subtraction-negated : (chosen : ℕ → Bool) (a b : Model)
      → subtraction (negated_where chosen a) (negated_where chosen b) ≡ map_outcome (negated_where chosen) (subtraction a b)
  pub multiplication-mirrored : (d : ℕ) (a b : Model)
      → multiplication d (mirrored a) (mirrored b) ≡ map_outcome mirrored (multiplication d a b)
  pub conversion-negated : (s : Series) → conversion (negated_series s) ≡ map_outcome negated (conversion s)
  pub conversion-mirrored : (s : Series) → conversion (mirrored_series s) ≡ map_outcome mirrored (conversion s)
  -- of the quotient test: f negated, g negated, all read from the other end of their stretch
  pub quotient_dividend : (len : ℕ) (f g : Model) (h w : Candidate)
      → quotient_test len (negated f) g (negated_candidate h) w ≡ map_outcome (on_model negated) (quotient_test len f g h w)
  pub quotient_divisor : (len : ℕ) (f g : Model) (h w : Candidate)
      → quotient_test len f (negated g) (negated_candidate h) (negated_candidate w)
      ≡ map_outcome (on_model negated) (quotient_test len f g h w)
  pub quotient_mirrored : (len : ℕ) (f g : Model) (h w : Candidate)
      → quotient_test len (mirrored f) (mirrored g) (mirrored_candidate h) (mirrored_candidate w)
      ≡ map_outcome (on_model mirrored) (quotient_test len f g h w)
  -- of the root tests where they accept: refused, 5 may become 7, or 7 become 5, since Σ w_k is another
  pub root_mirrored : (rule : RootRule) (len : ℕ) (f : Model) (h w : Candidate) (c : Certificate)
      → root_test rule len f h w ≡ accepted c
      → root_test rule len (mirrored f) (mirrored_candidate h) (mirrored_candidate w) ≡ accepted (on_model mirrored c)
  -- and of a whole job: one whose commands are those of an accepted job with loads and candidates mirrored
  pub job_mirrored : (job job' : List ℕ) (cs : List Command) (rs : List Model) → job_reading job ≡ well cs
      → job_reading job' ≡ well (map mirrored_command cs) → job_outcome job ≡ job_accepted rs
      → job_outcome job' ≡ job_accepted (map mirrored rs)
  -- what the mirrors allow
  pub allows-negated : (m : Model) (x v : ℚ) → Allows (negated m) x (-ℚ v) ↔ Allows m x v
  pub allows-mirrored : (m : Model) (x v : ℚ) → Allows (mirrored m) (mirrored_fraction m.interval x) v ↔ Allows m x v
  pub mirrored_fraction_lem : (i : Interval) (p : ℤ) → mirrored_fraction i (point p) ≡ point (mirrored_point i p)
  pub mirrored-on : (i : Interval) (x : ℚ) → OnInterval i x → OnInterval i (mirrored_fraction i x)
