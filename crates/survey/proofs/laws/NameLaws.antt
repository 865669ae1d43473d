-- Laws of the degree of one result, for the code that computes it.
use Rattle.std.specs.Prelude.{◌≡◌, Bool, true, false, not, cond, ◌&&◌, List, ℕ, ◌+◌, ◌*◌, ◌≤◌, ◌<◌, max, leb, eqb, length, take}
use Rattle.std.proofs.Math.Path.{refl}
use Rattle.std.proofs.Common.{sym, ap, ap₂, ◌∙◌, arith, leb-false, eq-eqb, ne_eqb, get_or-take}
use Rattle.std.proofs.lemmas.Bool.{lt-leb}
use Rattle.model.specs.definitions.Models.{max_degree}
use Rattle.model.specs.definitions.Multiply.{kept_degree}
use Rattle.job.specs.definitions.Bytes.{byte_at}
use Rattle.job.specs.definitions.Operations.{Maker, load, add, subtract, multiply, quotient, root, names_bad}
use Rattle.job.specs.definitions.Decode.{kept_in, maker_at}
use Rattle.job.proofs.laws.CommandLaws.{both_below}
use Rattle.job.specs.declared.types.Operation.TheVariants.{Multiply}
use Rattle.survey.specs.definitions.Degrees.{degree_at, maker_degree}
use Rattle.survey.specs.definitions.Editions.{maker_converted}
use Rattle.survey.specs.definitions.InnerContracts.{NamesOne, NamesTwo, TellsDegree}

module _ {job : List ℕ} {at : ℕ} {ds : List ℕ} (n : NamesTwo job at ds) where
  both : (byte_at job (at + 1) < length ds) × (byte_at job (at + 2) < length ds)
  both = both_below (length ds) (byte_at job (at + 1)) (byte_at job (at + 2)) n.names

  pub first_named : NamesOne job (at + 1) ds
  first_named = record { inside = omega (arith, n.inside); name = both.0 }

  pub second_named : NamesOne job (at + 2) ds
  second_named = record { inside = n.inside; name = both.1 }

-- the names of a multiply command
pub multiply_names : {job : List ℕ} {at : ℕ} {ds : List ℕ} → TellsDegree Multiply job at ds → NamesTwo job at ds × (at + 3 < length job)
unfolding maker_at
multiply_names p = (record { inside = omega (arith, p.room); names = p.names }, omega (arith, p.room))

-- ---- what a byte stands for

pub stands_itself : (e d n m : ℕ) → (d ≡ 255 → ⊥) → d ≡ kept_in e d n m
stands_itself e d n m h = by (eqb e 2)
  where
    by : (t : Bool) → d ≡ kept_degree (cond t d (cond (eqb d 0xFF) max_degree d)) n m
    by true = rw (ne_eqb d 255 h) refl
    by false = rw (ne_eqb d 255 h, ne_eqb d 255 h) refl

pub stands_larger : (e d n m : ℕ) → d ≡ 255 → e ≡ 2 → max n m ≡ kept_in e d n m
stands_larger e d n m h g = rw (h, g) refl

pub stands_all : (e d n m : ℕ) → d ≡ 255 → (e ≡ 2 → ⊥) → max_degree ≡ kept_in e d n m
stands_all e d n m h g = rw (h, ne_eqb e 2 g) refl

-- ---- a degree depends on the degrees that its maker names alone

module _ (count : ℕ) (ds : List ℕ) where
  named : (i : ℕ) → i < count → degree_at (take count ds) i ≡ degree_at ds i
  named i h = get_or-take count ds i 0 h

  pub degree_named : (m : Maker) → names_bad m count ≡ false → maker_degree m (take count ds) ≡ maker_degree m ds
  unfolding maker_degree
  degree_named (load m) h = refl
  degree_named (add i j) h = let b = both_below count i j h in rw (named i b.0, named j b.1) refl
  degree_named (subtract i j) h = let b = both_below count i j h in rw (named i b.0, named j b.1) refl
  degree_named (multiply i j d) h = let b = both_below count i j h in rw (named i b.0, named j b.1) refl
  degree_named (quotient i j g w) h = refl
  degree_named (root rule i g w) h = refl

  pub converted_named : (m : Maker) (at : ℕ) (s : List ℕ) → names_bad m count ≡ false
      → maker_converted m at (take count ds) s ≡ maker_converted m at ds s
  converted_named (load m) at s h = refl
  converted_named (add i j) at s h = refl
  converted_named (subtract i j) at s h = refl
  converted_named (multiply i j d) at s h = let b = both_below count i j h in rw (named i b.0, named j b.1) refl
  converted_named (quotient i j g w) at s h = refl
  converted_named (root rule i g w) at s h = refl

-- a maker that names results below a count names results below a larger one
pub names_within : (m : Maker) (count large : ℕ) → count ≤ large → names_bad m count ≡ false → names_bad m large ≡ false
names_within (load m) count large l h = refl
names_within (add i j) count large l h =
    let b = both_below count i j h in simp (lt-leb large i (omega (arith, b)), lt-leb large j (omega (arith, b)))
names_within (subtract i j) count large l h =
    let b = both_below count i j h in simp (lt-leb large i (omega (arith, b)), lt-leb large j (omega (arith, b)))
names_within (multiply i j d) count large l h =
    let b = both_below count i j h in simp (lt-leb large i (omega (arith, b)), lt-leb large j (omega (arith, b)))
names_within (quotient i j g w) count large l h =
    let b = both_below count i j h in simp (lt-leb large i (omega (arith, b)), lt-leb large j (omega (arith, b)))
names_within (root rule i g w) count large l h = lt-leb large i (omega (arith, leb-false count i h))
