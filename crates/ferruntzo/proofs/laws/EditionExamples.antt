-- Closed calls of the conversion: an output with a byte behind, one that is too short, and an area of the answer that is too short.
use Rattle.std.specs.Prelude.{◌≡◌, refl, List, [], ◌∷◌, ℕ}
use Rattle.model.specs.definitions.Area.{area_out}
use Rattle.model.specs.definitions.Outcomes.{passing}
use Rattle.job.specs.definitions.Decode.{maker_at}
use Rattle.job.specs.definitions.Reader.{read_from, job_reading}
use Rattle.job.specs.definitions.Reading.{reading_places}
use Rattle.survey.specs.definitions.Degrees.{maker_degree}
use Rattle.survey.specs.definitions.Editions.{convert_from, converted, edition_conversion, output_after}
use Rattle.ferruntzo.specs.definitions.Jobs.{edition_answer, convert_answer}

abbrev shortest : List ℕ
shortest = 0x01 ∷ 2 ∷ 0x00 ∷ []

pub edition_conversions :
    (convert_answer shortest (7 ∷ 8 ∷ 9 ∷ 7 ∷ []) (5 ∷ 6 ∷ 7 ∷ []) ≡ edition_answer 0 (0x01 ∷ 1 ∷ 0x00 ∷ 7 ∷ []) (3 ∷ 0 ∷ 7 ∷ []))
    × (convert_answer shortest (7 ∷ 8 ∷ []) (5 ∷ 6 ∷ []) ≡ edition_answer 20 (0 ∷ 0 ∷ []) (0 ∷ 0 ∷ []))
    × (convert_answer (0x01 ∷ 2 ∷ 0x7F ∷ []) (7 ∷ 8 ∷ []) (5 ∷ 6 ∷ []) ≡ edition_answer 9 (0 ∷ 0 ∷ []) (0 ∷ 1 ∷ []))
    × (convert_answer shortest (7 ∷ 8 ∷ 9 ∷ 7 ∷ []) (5 ∷ []) ≡ edition_answer 1 (0 ∷ 0 ∷ 0 ∷ 0 ∷ []) (5 ∷ []))
unfolding convert_answer area_out edition_conversion output_after converted convert_from maker_degree maker_at job_reading read_from reading_places passing
edition_conversions = (refl, refl, refl, refl)
