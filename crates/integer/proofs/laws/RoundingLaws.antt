-- The laws of floor, up and near: the bounds that define each, and that nothing else meets them.
use Rattle.std.specs.Prelude.{◌≡◌, refl, Bool, true, false, cond, ◌⊎◌, ℕ, zero, suc, ◌+◌, ◌-◌, ◌*◌, ◌/◌, ◌%◌, ◌<◌, ◌≤◌, leb, eqb, ℤ, negsuc, neg_ℤ, ◌+ℤ◌, ◌-ℤ◌, ◌*ℤ◌, ◌≤ℤ◌, ◌<ℤ◌}
use Rattle.std.proofs.Common.{sym, ◌∙◌, subst, inl, inr, arith, mod-lt, leb-true, leb-false, le-leb, eqb-true}
use Rattle.std.proofs.Math.Path.{ap}
use Rattle.std.proofs.Math.Nat.{mul-div-le, lt-div-mul-add, div-add-mod}
use Rattle.std.proofs.lemmas.Bool.{lt-leb, eqb-false}
use Rattle.std.proofs.Math.IntN.{pos, nat_abs}
use Rattle.ring.specs.laws.Parts.{◌⁺, ◌⁻, same, abs, abs_neg, sum, product, difference, apart}
use Rattle.ring.specs.laws.Difference.{all1, all2, all3, all4, differences, ≤_parts, <_parts}
use Rattle.ring.proofs.laws.OrderedRingLaws.{mul_left}
use Rattle.ring.proofs.laws.Order.{ℤ_ordered, decide, not_le→lt, pos-le, ∣◌∣, ∣∣_is}
use Rattle.integer.specs.definitions.Rounding.{floor, up, upℕ, parity, near}

-- ---- floor: c d ≤ n < c d + d

pub floor-le : (n : ℤ) (d : ℕ) → 0 < d → (floor n d *ℤ pos d) ≤ℤ n
unfolding floor
floor-le (pos a) d h = (≤_parts (pos (a / d) *ℤ pos d) (pos a)).1 (omega (arith, product (pos (a / d)) (pos d), mul-div-le a d))
floor-le (negsuc a) d h = (≤_parts (negsuc (a / d) *ℤ pos d) (negsuc a)).1 (omega (arith, product (negsuc (a / d)) (pos d), lt-div-mul-add {a = a} {b = d} h))

pub floor-lt : (n : ℤ) (d : ℕ) → 0 < d → n <ℤ (floor n d *ℤ pos d +ℤ pos d)
unfolding floor
floor-lt (pos a) d h =
    let c = pos (a / d) in (<_parts (pos a) (c *ℤ pos d +ℤ pos d)).1 (omega (arith, product c (pos d), sum (c *ℤ pos d) (pos d), lt-div-mul-add {a = a} {b = d} h))
floor-lt (negsuc a) d h =
    let c = negsuc (a / d) in (<_parts (negsuc a) (c *ℤ pos d +ℤ pos d)).1 (omega (arith, product c (pos d), sum (c *ℤ pos d) (pos d), mul-div-le a d))

-- c d < c' d + d gives c ≤ c'
multiples : (c c' : ℤ) (d : ℕ) → (c *ℤ pos d) <ℤ (c' *ℤ pos d +ℤ pos d) → c ≤ℤ c'
multiples c c' d h = pick (decide c c')
  where
    step : (c c' : ℤ) → ¬ (c ≤ℤ c') → (c' +ℤ pos 1) ≤ℤ c
    step c c' n = go c c' (not_le→lt c' c n)
      where
        go : (c c' : ℤ) → c' <ℤ c → (c' +ℤ pos 1) ≤ℤ c
        go = all2 _ (simp differences (omega arith))

    clash : (c c' d : ℤ) → (d *ℤ (c' +ℤ pos 1)) ≤ℤ (d *ℤ c) → ¬ ((c *ℤ d) <ℤ (c' *ℤ d +ℤ d))
    clash = all3 _ (simp differences (omega arith))

    pick : (c ≤ℤ c') ⊎ ¬ (c ≤ℤ c') → c ≤ℤ c'
    pick (inl k) = k
    pick (inr n) = absurd (clash c c' (pos d) (mul_left ℤ_ordered (pos d) (pos-le 0 d (omega arith)) (step c c' n)) h)

pub floor_unique : (n c : ℤ) (d : ℕ) → 0 < d → (c *ℤ pos d) ≤ℤ n → n <ℤ (c *ℤ pos d +ℤ pos d) → c ≡ floor n d
floor_unique n c d h lo hi =
    ℤ_ordered.le_antisym c (floor n d)
    (multiples c (floor n d) d (join _ _ _ lo (floor-lt n d h)))
    (multiples (floor n d) c d (join _ _ _ (floor-le n d h) hi))
  where
    join : (x y z : ℤ) → x ≤ℤ y → y <ℤ z → x <ℤ z
    join = all3 _ (simp differences (omega arith))

-- ---- up: c d − d < n ≤ c d

pub le_up : (n : ℤ) (d : ℕ) → 0 < d → n ≤ℤ (up n d *ℤ pos d)
unfolding up
le_up n d h = go n (floor (neg_ℤ n) d) (pos d) (floor-le (neg_ℤ n) d h)
  where
    go : (n f d : ℤ) → (f *ℤ d) ≤ℤ neg_ℤ n → n ≤ℤ (neg_ℤ f *ℤ d)
    go = all3 _ (simp differences (omega arith))

pub up_lt : (n : ℤ) (d : ℕ) → 0 < d → (up n d *ℤ pos d) <ℤ (n +ℤ pos d)
unfolding up
up_lt n d h = go n (floor (neg_ℤ n) d) (pos d) (floor-lt (neg_ℤ n) d h)
  where
    go : (n f d : ℤ) → neg_ℤ n <ℤ (f *ℤ d +ℤ d) → (neg_ℤ f *ℤ d) <ℤ (n +ℤ d)
    go = all3 _ (simp differences (omega arith))

pub up_unique : (n c : ℤ) (d : ℕ) → 0 < d → n ≤ℤ (c *ℤ pos d) → (c *ℤ pos d) <ℤ (n +ℤ pos d) → c ≡ up n d
unfolding up
up_unique n c d h lo hi = twice c ∙ ap neg_ℤ (floor_unique (neg_ℤ n) (neg_ℤ c) d h (under n c (pos d) lo) (over n c (pos d) hi))
  where
    twice : (c : ℤ) → c ≡ neg_ℤ (neg_ℤ c)
    twice = all1 _ (simp differences (omega arith))

    under : (n c d : ℤ) → n ≤ℤ (c *ℤ d) → (neg_ℤ c *ℤ d) ≤ℤ neg_ℤ n
    under = all3 _ (simp differences (omega arith))

    over : (n c d : ℤ) → (c *ℤ d) <ℤ (n +ℤ d) → neg_ℤ n <ℤ (neg_ℤ c *ℤ d +ℤ d)
    over = all3 _ (simp differences (omega arith))

-- ---- up of a natural number

pub le-upℕ : (n d : ℕ) → 0 < d → n ≤ upℕ n d * d
unfolding upℕ
le-upℕ n d h = omega (arith, lt-div-mul-add {a = n + (d - 1)} {b = d} h)

pub upℕ-lt : (n d : ℕ) → 0 < d → upℕ n d * d < n + d
unfolding upℕ
upℕ-lt n d h = omega (arith, mul-div-le (n + (d - 1)) d)

-- it is `up` of that number
pub upℕ_is : (n d : ℕ) → 0 < d → pos (upℕ n d) ≡ up (pos n) d
upℕ_is n d h =
    up_unique (pos n) (pos (upℕ n d)) d h
    ((≤_parts (pos n) (pos (upℕ n d) *ℤ pos d)).1 (omega (arith, product (pos (upℕ n d)) (pos d), le-upℕ n d h)))
    ((<_parts (pos (upℕ n d) *ℤ pos d) (pos n +ℤ pos d)).1 (omega (arith, product (pos (upℕ n d)) (pos d), upℕ-lt n d h)))

-- c d < c' d + d gives c ≤ c'
multiplesℕ : (c c' d : ℕ) → c * d < c' * d + d → c ≤ c'
multiplesℕ c c' d h =
    Rattle.ring.proofs.laws.Order.le-pos c c'
    (multiples (pos c) (pos c') d
    ((<_parts (pos c *ℤ pos d) (pos c' *ℤ pos d +ℤ pos d)).1 (omega (arith, product (pos c) (pos d), product (pos c') (pos d), sum (pos c' *ℤ pos d) (pos d)))))

-- u = up(n/d) is the least whole number with n ≤ u d
pub upℕ_least : (n d c : ℕ) → 0 < d → n ≤ c * d → upℕ n d ≤ c
upℕ_least n d c h k = multiplesℕ (upℕ n d) c d (omega (arith, upℕ-lt n d h))

pub upℕ_unique : (n d c : ℕ) → 0 < d → n ≤ c * d → c * d < n + d → c ≡ upℕ n d
upℕ_unique n d c h lo hi = omega (arith, upℕ_least n d c h lo, multiplesℕ c (upℕ n d) d (omega (arith, le-upℕ n d h)))

-- ---- even and odd

next_parity : (n : ℕ) → suc n % 2 + n % 2 ≡ 1
next_parity n = omega (arith, div-add-mod n 2, mod-lt n {m = 2} (omega arith), div-add-mod (suc n) 2, mod-lt (suc n) {m = 2} (omega arith))

pub parity_small : (c : ℤ) → parity c ≤ 1
parity_small c = omega (arith, mod-lt (nat_abs c) {m = 2} (omega arith))

pub parity_next : (c : ℤ) → parity (c +ℤ pos 1) + parity c ≡ 1
parity_next (pos a) = let e : a + 1 ≡ suc a = omega arith in rw e (next_parity a)
parity_next (negsuc a) =
    let z = negsuc a +ℤ pos 1 in
    let e : nat_abs z ≡ a = omega (arith, abs z, apart z, sum (negsuc a) (pos 1)) in
    rw e (omega (arith, next_parity a))

pub parity_opposite : (c : ℤ) → parity (neg_ℤ c) ≡ parity c
parity_opposite c = ap (λ (k : ℕ). k % 2) (abs_neg c)

-- ---- near: 2·|c d − n| ≤ d, and an equation only if c is even

-- both at once: where c is odd there is 1 to spare
abbrev Nearest : ℤ → ℕ → ℤ → Type 0
Nearest n d c = 2 * nat_abs (c *ℤ pos d -ℤ n) + parity c ≤ d

-- what floor leaves: 0 ≤ n − c d < d
pub floor_rest : (n : ℤ) (d : ℕ) → 0 < d → let x = n -ℤ floor n d *ℤ pos d in (x ⁻ ≡ 0) × (x ⁺ < d)
floor_rest n d h =
    let m = floor n d *ℤ pos d in
    let x = n -ℤ m in
    omega (arith, difference n m, apart x, (≤_parts m n).0 (floor-le n d h), (<_parts n (m +ℤ pos d)).0 (floor-lt n d h), sum m (pos d), apart (m +ℤ pos d))

near_nearest : (n : ℤ) (d : ℕ) → 0 < d → Nearest n d (near n d)
unfolding near
near_nearest n d h = pick (leb (2 * nat_abs x + parity c) d) refl
  where
    c : ℤ
    c = floor n d

    x : ℤ
    x = n -ℤ c *ℤ pos d

    at : (n m : ℤ) → m -ℤ n ≡ neg_ℤ (n -ℤ m)
    at = all2 _ (simp differences (omega arith))

    above : (n c d : ℤ) → (c +ℤ pos 1) *ℤ d -ℤ n ≡ d -ℤ (n -ℤ c *ℤ d)
    above = all3 _ (simp differences (omega arith))

    pick : (t : Bool) → leb (2 * nat_abs x + parity c) d ≡ t → Nearest n d (cond t c (c +ℤ pos 1))
    pick true e = rw (at n (c *ℤ pos d)) (omega (arith, leb-true (2 * nat_abs x + parity c) d e, abs_neg x))
    pick false e =
        let y = pos d -ℤ x in
        rw (above n c (pos d))
        (omega (arith, leb-false (2 * nat_abs x + parity c) d e, parity_next c, floor_rest n d h, abs x, abs y, apart y, difference (pos d) x))

-- as code finds it: c = floor n d, and x is left
module _ (n c x : ℤ) (d : ℕ) (c_is : c ≡ floor n d) (x_is : x ≡ n -ℤ floor n d *ℤ pos d) where
  pub near_at : 2 * nat_abs x + parity c ≤ d → c ≡ near n d
  unfolding near
  near_at h = c_is ∙ rw (le-leb (2 * nat_abs (n -ℤ floor n d *ℤ pos d) + parity (floor n d)) d (rw (x_is, c_is) at h))

  pub near_above : d < 2 * nat_abs x + parity c → c +ℤ pos 1 ≡ near n d
  unfolding near
  near_above h =
      ap (λ z. z +ℤ pos 1) c_is ∙ rw (lt-leb (2 * nat_abs (n -ℤ floor n d *ℤ pos d) + parity (floor n d)) d (rw (x_is, c_is) at h))

-- two such numbers are in order, so equal
nearest_le : (n c c' : ℤ) (d : ℕ) → 0 < d → Nearest n d c → Nearest n d c' → c ≤ℤ c'
nearest_le n c c' d h p p' = pick (decide c c')
  where
    shift : (n c k d : ℤ) → (c +ℤ k) *ℤ d -ℤ n ≡ (c *ℤ d -ℤ n) +ℤ k *ℤ d
    shift = all4 _ (simp differences (omega arith))

    -- c and c + 1 differ in parity, and those further apart are too far from one another
    clash : (k : ℕ) → ¬ (Nearest n d (c' +ℤ pos (suc k)))
    clash zero q =
        let u = c' *ℤ pos d -ℤ n in
        let v = u +ℤ pos (1 * d) in
        omega (arith, rw (shift n c' (pos 1) (pos d)) at q, p', parity_next c', abs u, abs v, sum u (pos (1 * d)))
    clash (suc k) q =
        let u = c' *ℤ pos d -ℤ n in
        let v = u +ℤ pos (suc (suc k) * d) in
        omega (arith, rw (shift n c' (pos (suc (suc k))) (pos d)) at q, p', abs u, abs v, sum u (pos (suc (suc k) * d)))

    next : (c c' : ℤ) → c' <ℤ c → c ≡ c' +ℤ pos (suc (nat_abs (c -ℤ (c' +ℤ pos 1))))
    next c c' l =
        let e = c -ℤ (c' +ℤ pos 1) in
        same c (c' +ℤ pos (suc (nat_abs e)))
        (omega (arith, (<_parts c' c).0 l, abs e, apart e, difference c (c' +ℤ pos 1), sum c' (pos 1), sum c' (pos (suc (nat_abs e)))))

    pick : (c ≤ℤ c') ⊎ ¬ (c ≤ℤ c') → c ≤ℤ c'
    pick (inl k) = k
    pick (inr m) = absurd (clash _ (subst (Nearest n d) (next c c' (not_le→lt c' c m)) p))

nearest_is : (n c : ℤ) (d : ℕ) → 0 < d → Nearest n d c → c ≡ near n d
nearest_is n c d h p =
    ℤ_ordered.le_antisym c (near n d) (nearest_le n c (near n d) d h p (near_nearest n d h)) (nearest_le n (near n d) c d h (near_nearest n d h) p)

-- nearest: |2(c d − n)| ≤ d
pub near_error : (n : ℤ) (d : ℕ) → 0 < d → 2 * nat_abs (near n d *ℤ pos d -ℤ n) ≤ d
near_error n d h = omega (arith, near_nearest n d h)

-- a tie goes to the even number
pub near_even : (n : ℤ) (d : ℕ) → 0 < d → 2 * nat_abs (near n d *ℤ pos d -ℤ n) ≡ d → parity (near n d) ≡ 0
near_even n d h e = omega (arith, near_nearest n d h)

-- and nothing else is nearest, and even at a tie
pub near_unique : (n c : ℤ) (d : ℕ) → 0 < d → 2 * nat_abs (c *ℤ pos d -ℤ n) ≤ d → (2 * nat_abs (c *ℤ pos d -ℤ n) ≡ d → parity c ≡ 0) → c ≡ near n d
near_unique n c d h p even = nearest_is n c d h (pick (eqb (2 * nat_abs (c *ℤ pos d -ℤ n)) d) refl)
  where
    pick : (t : Bool) → eqb (2 * nat_abs (c *ℤ pos d -ℤ n)) d ≡ t → Nearest n d c
    pick true e = omega (arith, p, even (eqb-true (2 * nat_abs (c *ℤ pos d -ℤ n)) d e))
    pick false e = omega (arith, p, eqb-false (2 * nat_abs (c *ℤ pos d -ℤ n)) d e, parity_small c)

-- the mirror: −c is nearest to −n
pub near_opposite : (n : ℤ) (d : ℕ) → 0 < d → near (neg_ℤ n) d ≡ neg_ℤ (near n d)
near_opposite n d h =
    let c = near n d in
    let e : nat_abs (neg_ℤ c *ℤ pos d -ℤ neg_ℤ n) ≡ nat_abs (c *ℤ pos d -ℤ n) = ap nat_abs (turn n c (pos d)) ∙ abs_neg (c *ℤ pos d -ℤ n) in
    sym (nearest_is (neg_ℤ n) (neg_ℤ c) d h (rw (e, parity_opposite c) (near_nearest n d h)))
  where
    turn : (n c d : ℤ) → neg_ℤ c *ℤ d -ℤ neg_ℤ n ≡ neg_ℤ (c *ℤ d -ℤ n)
    turn = all3 _ (simp differences (omega arith))

-- |c d − n| ≤ |n|: 0 is a rival, and where c is not 0, |n| ≥ |c| d − d/2
pub near_closer : (n : ℤ) (d : ℕ) → 0 < d → nat_abs (near n d *ℤ pos d -ℤ n) ≤ nat_abs n
near_closer n d h = go (near n d) (near_error n d h)
  where
    far : (k : ℕ) → d ≤ suc k * d
    far k = omega arith

    go : (c : ℤ) → 2 * nat_abs (c *ℤ pos d -ℤ n) ≤ d → nat_abs (c *ℤ pos d -ℤ n) ≤ nat_abs n
    go (pos zero) e =
        let z = pos 0 *ℤ pos d in omega (arith, product (pos 0) (pos d), difference z n, abs (z -ℤ n), abs n, apart n, apart (z -ℤ n))
    go (pos (suc k)) e =
        let z = pos (suc k) *ℤ pos d in omega (arith, far k, product (pos (suc k)) (pos d), difference z n, abs (z -ℤ n), abs n, apart n, apart (z -ℤ n))
    go (negsuc k) e =
        let z = negsuc k *ℤ pos d in omega (arith, far k, product (negsuc k) (pos d), difference z n, abs (z -ℤ n), abs n, apart n, apart (z -ℤ n))

pub near_error_abs : (n : ℤ) (d : ℕ) → 0 < d → (pos 2 *ℤ ∣ near n d *ℤ pos d -ℤ n ∣) ≤ℤ pos d
near_error_abs n d h = rw ∣∣_is (pos-le _ _ (near_error n d h))

-- ---- floor and up by what is left over, x = n − c d: 0 ≤ x < d, −d < x ≤ 0

module _ (n c x : ℤ) (d : ℕ) (split : n ≡ c *ℤ pos d +ℤ x) where
  abbrev m : ℤ
  m = c *ℤ pos d

  pub floor_left : x ⁻ ≡ 0 → x ⁺ < d → c ≡ floor n d
  floor_left lo hi =
      floor_unique n c d (omega arith) (rw split ((≤_parts m (m +ℤ x)).1 (omega (arith, sum m x))))
      (rw split ((<_parts (m +ℤ x) (m +ℤ pos d)).1 (omega (arith, sum m x, sum m (pos d)))))

  pub up_left : x ⁺ ≡ 0 → x ⁻ < d → c ≡ up n d
  up_left hi lo =
      up_unique n c d (omega arith) (rw split ((≤_parts (m +ℤ x) m).1 (omega (arith, sum m x))))
      (rw split ((<_parts m (m +ℤ x +ℤ pos d)).1 (omega (arith, sum m x, sum (m +ℤ x) (pos d)))))
