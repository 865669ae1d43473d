-- The search for the least radius: up to v = ⌊(S−m)·S/(4·M)⌋ what satisfies stays so as r grows, from v + 1 on as r falls; so
-- bisection up to v, and then v + 1, is enough.
use Rattle.std.specs.Prelude.{◌≡◌, ℕ, ◌+◌, ◌*◌, ◌-◌, ◌/◌, ◌^◌, ◌≤◌, ◌<◌, Some, None}
use Rattle.std.proofs.Common.{subst, arith, mul-le-mul, mul-le-mul_left, mul-le-mul_right, le-div_iff_mul-le}
use Rattle.std.proofs.Math.Decide.{dec_le}
use Rattle.model.specs.definitions.Models.{scale}
use Rattle.radius.specs.definitions.LeastRadius.{RadiusSatisfies, least_radius}
use Rattle.radius.proofs.laws.LeastLaws.{least_is, least_missing}

-- ---- every number of the test is below 2^61, formed as (2·M·r)·r + b·S² and (S−m)·S·r

pub record Small (M m b r : ℕ) : Type 0 where
  pub square : 2 * M * r * r + b * scale * scale < 2 ^ 61
  pub linear : (scale - m) * scale * r < 2 ^ 61

pub small : (M m b r : ℕ) → b ≤ scale → r ≤ scale → 2 * M * r ≤ 2 ^ 39 + 2 ^ 29 → Small M m b r
small M m b r hb hr h_m =
    let g : scale - m ≤ scale = omega arith in
    record { square = omega (arith, mul-le-mul h_m hr); linear = omega (arith, mul-le-mul g hr) }

-- ---- over plain numbers: 2·M·r² + B ≤ c·r; 2·M·r² + B − c·r falls up to c/(4·M) and rises from there

abbrev Satisfies : ℕ → ℕ → ℕ → ℕ → Type 0
Satisfies M c B r = 2 * M * (r * r) + B ≤ c * r

falls_by : (M c B r d : ℕ) → 4 * M * (r + d) ≤ c → Satisfies M c B r → Satisfies M c B (r + d)
falls_by M c B r d h f = omega (arith, mul-le-mul_right d h)

rises_by : (M c B t d : ℕ) → c ≤ 4 * M * t → Satisfies M c B (t + d) → Satisfies M c B t
rises_by M c B t d h f = omega (arith, mul-le-mul_right d h)

falls : (M c B r s : ℕ) → r ≤ s → 4 * M * s ≤ c → Satisfies M c B r → Satisfies M c B s
falls M c B r s l h f =
    let e : r + (s - r) ≡ s = omega arith in
    subst (λ (z : ℕ). Satisfies M c B z) e (falls_by M c B r (s - r) (rw e h) f)

rises : (M c B t s : ℕ) → t ≤ s → c ≤ 4 * M * t → Satisfies M c B s → Satisfies M c B t
rises M c B t s l h f =
    let e : t + (s - t) ≡ s = omega arith in
    rises_by M c B t (s - t) h (rw e f)

-- ---- the loop

-- high satisfies and nothing below low does
pub record Bracket (M m b low high : ℕ) : Type 0 where
  pub ordered : low ≤ high
  pub high_satisfies : RadiusSatisfies M m b high
  pub below : (k : ℕ) → k < low → ¬ RadiusSatisfies M m b k

module _ (M m b : ℕ) where
  pub bracket_down : (low high mid : ℕ) → Bracket M m b low high → low ≤ mid → RadiusSatisfies M m b mid → Bracket M m b low mid
  bracket_down low high mid w l f = record { ordered = l; high_satisfies = f; below = w.below }

  pub bracket_up : (low high mid : ℕ) → Bracket M m b low high → mid < high → 4 * M * high ≤ (scale - m) * scale
      → ¬ RadiusSatisfies M m b mid → Bracket M m b (mid + 1) high
  bracket_up low high mid w l h f = record {
    ordered = omega arith;
    high_satisfies = w.high_satisfies;
    below = λ k g e. f (falls M ((scale - m) * scale) (b * (scale * scale)) k mid (omega arith) (omega (arith, mul-le-mul_left (4 * M) l)) e);
  }

  pub bracket_end : (low high : ℕ) → Bracket M m b low high → high ≤ low → high ≤ scale → least_radius M m b ≡ Some low
  bracket_end low high w l h =
      let e : high ≡ low = omega (arith, w.ordered) in
      least_is M m b low (record { within = omega arith; satisfies = rw (← e) w.high_satisfies; least = w.below })

  -- ---- the answers without a loop

  pub large_displacement : scale < b → least_radius M m b ≡ None
  large_displacement h =
      (least_missing M m b).1 (λ r l f. let g : scale - m ≤ scale = omega arith in absurd (omega (arith, mul-le-mul g l)))

  pub no_displacement : b ≡ 0 → least_radius M m b ≡ Some 0
  no_displacement e =
      least_is M m b 0 (record { within = omega arith; satisfies = omega arith; least = λ k l. absurd (omega arith) })

  module _ (v : ℕ) (at_v : 4 * M * v ≤ (scale - m) * scale) where
    -- where v does not satisfy, nothing below does
    below_next : ¬ RadiusSatisfies M m b v → (k : ℕ) → k < v + 1 → ¬ RadiusSatisfies M m b k
    below_next f k l e = f (falls M ((scale - m) * scale) (b * (scale * scale)) k v (omega arith) at_v e)

    pub next_found : ¬ RadiusSatisfies M m b v → v < scale → RadiusSatisfies M m b (v + 1) → least_radius M m b ≡ Some (v + 1)
    next_found f l g = least_is M m b (v + 1) (record { within = omega arith; satisfies = g; least = below_next f })

    -- and where v is the greatest with 4·M·v ≤ (S−m)·S and v + 1 does not satisfy either, nothing does
    pub next_missing : (scale - m) * scale < 4 * M * (v + 1) → ¬ RadiusSatisfies M m b v → ¬ RadiusSatisfies M m b (v + 1)
        → least_radius M m b ≡ None
    next_missing beyond f g = (least_missing M m b).1 (λ r l e. pick r e (dec_le (v + 1) r))
      where
        pick : (r : ℕ) → RadiusSatisfies M m b r → ¬ Dec (v + 1 ≤ r)
        pick r e (yes h) = g (rises M ((scale - m) * scale) (b * (scale * scale)) (v + 1) r h (omega arith) e)
        pick r e (no h) = below_next f r (omega arith) e

  -- where v is S or more, nothing satisfies if S does not
  pub scale_missing : 4 * M * scale ≤ (scale - m) * scale → ¬ RadiusSatisfies M m b scale → least_radius M m b ≡ None
  scale_missing h f =
      (least_missing M m b).1 (λ r l e. f (falls M ((scale - m) * scale) (b * (scale * scale)) r scale l h e))

-- ---- v

pub quotient_below : (M c : ℕ) → 0 < M → 4 * M * (c / (4 * M)) ≤ c
quotient_below M c h =
    let q = (le-div_iff_mul-le {k = 4 * M} {x = c / (4 * M)} {y = c} (omega arith)).0 (omega arith) in omega arith

pub quotient_beyond : (M c : ℕ) → 0 < M → c < 4 * M * (c / (4 * M) + 1)
quotient_beyond M c h = pick (dec_le ((c / (4 * M) + 1) * (4 * M)) c)
  where
    pick : Dec ((c / (4 * M) + 1) * (4 * M) ≤ c) → c < 4 * M * (c / (4 * M) + 1)
    pick (yes l) =
        let q = (le-div_iff_mul-le {k = 4 * M} {x = c / (4 * M) + 1} {y = c} (omega arith)).1 l in absurd (omega arith)
    pick (no l) = omega arith
