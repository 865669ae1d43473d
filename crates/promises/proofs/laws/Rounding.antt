-- The promises about rounding are kept.
use Rattle.integer.proofs.laws.RoundingLaws as rounding
use Rattle.promises.specs.definitions.Rounding.{RoundingPromises}

pub rounding_kept : RoundingPromises
rounding_kept = record {
  floor_bounds = λ n d h. (rounding.floor-le n d h, rounding.floor-lt n d h);
  floor_unique = rounding.floor_unique;
  up_bounds = λ n d h. (rounding.le_up n d h, rounding.up_lt n d h);
  up_unique = rounding.up_unique;
  upℕ_bounds = λ n d h. (rounding.le-upℕ n d h, rounding.upℕ-lt n d h);
  near_error = rounding.near_error;
  near_even = rounding.near_even;
  near_unique = rounding.near_unique;
}
