-- Closed jobs, converted both ways.
use Rattle.std.specs.Prelude.{◌≡◌, refl, List, [], ◌∷◌, ◌++◌, ℕ}
use Rattle.model.specs.definitions.Outcomes.{passing}
use Rattle.model.specs.definitions.Intervals.{good_ends}
use Rattle.model.specs.definitions.Models.{good, parts_within_limits}
use Rattle.chebyshev.specs.definitions.Coefficients.{weight}
use Rattle.job.specs.definitions.Bytes.{signeds_at}
use Rattle.job.specs.definitions.Operations.{maker_places, operation}
use Rattle.job.specs.definitions.Decode.{maker_at}
use Rattle.job.specs.definitions.Reading.{reading_places}
use Rattle.job.specs.definitions.Reader.{read_from, job_reading}
use Rattle.job.specs.definitions.Outcomes.{refused}
use Rattle.job.specs.definitions.Step.{command}
use Rattle.job.specs.definitions.Run.{run, job_outcome}
use Rattle.job.proofs.laws.ExampleBytes.{load_bytes}
use Rattle.survey.specs.definitions.Degrees.{maker_degree}
use Rattle.survey.specs.definitions.Editions.{convert_from, converted, edition_conversion, output_after}

-- results of degrees n and m, and their product with a byte for the kept degree
abbrev pub product : ℕ → ℕ → ℕ → ℕ → List ℕ
product e n m d = 0x01 ∷ e ∷ (load_bytes n [] 0 ++ (load_bytes m [] 0 ++ (0x13 ∷ 0 ∷ 1 ∷ d ∷ 0x00 ∷ [])))

-- in edition 2 0xFF stands for the larger degree, and not for its minimum with the sum; in edition 1 for 32; a degree byte above
-- 32 counts as 32; every other kept degree stays
pub conversions :
    (converted (product 2 3 1 0xFF) ≡ product 1 3 1 3)
    × ((converted (product 2 0 0 0xFF) ≡ product 1 0 0 0)
    × ((converted (product 1 3 1 0xFF) ≡ product 2 3 1 32)
    × ((converted (product 2 200 1 0xFF) ≡ product 1 200 1 32)
    × ((converted (product 2 32 32 0xFF) ≡ product 1 32 32 32)
    × ((converted (product 1 32 32 0xFF) ≡ product 2 32 32 32) × (converted (product 2 3 1 2) ≡ product 1 3 1 2))))))
unfolding converted convert_from maker_degree maker_at
conversions = (refl, (refl, (refl, (refl, (refl, (refl, refl))))))

-- 0xFF inside a block stays, and so does a kept degree that looks like an edition
pub blocks_stay :
    converted (0x01 ∷ 1 ∷ (load_bytes 0 (4294967295 ∷ []) 4294967295 ++ (0x13 ∷ 0 ∷ 0 ∷ 1 ∷ 0x00 ∷ [])))
    ≡ 0x01 ∷ 2 ∷ (load_bytes 0 (4294967295 ∷ []) 4294967295 ++ (0x13 ∷ 0 ∷ 0 ∷ 1 ∷ 0x00 ∷ []))
unfolding converted convert_from maker_degree maker_at
blocks_stay = refl

-- 20 comes after the reading, with command 0
pub refusals :
    (edition_conversion (0x01 ∷ 2 ∷ 0x00 ∷ []) 2 ≡ refused 20 0)
    × ((edition_conversion (0x01 ∷ 2 ∷ 0x7F ∷ []) 2 ≡ refused 9 1)
    × ((output_after (0x01 ∷ 2 ∷ 0x00 ∷ []) (7 ∷ 8 ∷ []) ≡ 0 ∷ 0 ∷ [])
    × ((output_after (0x01 ∷ 2 ∷ 0x7F ∷ []) (7 ∷ 8 ∷ 9 ∷ 7 ∷ []) ≡ 0 ∷ 0 ∷ 0 ∷ 0 ∷ [])
    × (output_after (0x01 ∷ 2 ∷ 0x00 ∷ []) (7 ∷ 8 ∷ 9 ∷ 7 ∷ []) ≡ 0x01 ∷ 1 ∷ 0x00 ∷ 7 ∷ []))))
unfolding edition_conversion output_after converted convert_from maker_degree maker_at job_reading read_from reading_places passing
refusals = (refl, (refl, (refl, (refl, refl))))

-- models are unchecked: a load of degree 33 before an unknown byte is refused where that stands, while the check meets the model first
abbrev pub bad_model_then_unknown : List ℕ
bad_model_then_unknown = 0x01 ∷ 1 ∷ (load_bytes 33 [] 0 ++ (0x7F ∷ []))

pub models_unchecked : (edition_conversion bad_model_then_unknown 1000 ≡ refused 9 2) × (job_outcome bad_model_then_unknown ≡ refused 2 1)
unfolding edition_conversion job_reading read_from job_outcome run command reading_places maker_at passing signeds_at operation maker_places good good_ends parts_within_limits weight
models_unchecked = (refl, refl)
