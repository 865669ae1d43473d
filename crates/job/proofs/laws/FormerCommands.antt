-- Documents 02, S-24 and S-27: 01's table of commands as it was, with 0x22 of S-22, written out: of each byte where it may stand, the
-- width of its operands, which of their values and names are refused, and the command. Every byte but 0x14 means what it meant, but
-- for the edition 2.
use Rattle.std.specs.Prelude.{◌≡◌, Bool, true, false, not, cond, ◌||◌, List, [], ◌∷◌, ◌++◌, map, ℕ, ◌+◌, leb, ltb, eqb, take, drop}
use Rattle.std.proofs.Math.Path.{refl}
use Rattle.std.proofs.Common.{sym, ◌∙◌, ap, subst, ne_eqb}
use Rattle.model.specs.definitions.Intervals.{standard_interval}
use Rattle.model.proofs.laws.FormerNumbers.{former_kept, kept_again, kept_above}
use Rattle.certificate.specs.declared.types.RootRule.{RootRule}
use Rattle.certificate.specs.declared.types.RootRule.TheVariants.{ByDiscriminant, ByLeastRadius}
use Rattle.job.specs.definitions.Bytes.{byte_at, unsigned_at, signeds_at, candidate_at, block_at}
use Rattle.job.specs.definitions.Decode.{command_bytes, kind_in, edition_of, layout_for, Command, edition, result, finish, unknown, maker_at, command_at}
use Rattle.job.specs.definitions.Operations.{Maker, load, add, subtract, multiply, quotient, root}
use Rattle.job.specs.definitions.Reading.{bad_kind, bad_values, bad_names, makes_result, is_end}
use Rattle.job.proofs.laws.FormerOperations.{FormerOperands}
use Rattle.job.specs.declared.types.Kind.{Kind}
use Rattle.job.specs.declared.types.Kind.TheVariants.{Edition}

-- a row of the table, where the byte stands at a position of a job: at which commands it is refused; the width; whether its values,
-- and with so many results before it its names, are refused; whether it makes a result, or ends the job
pub record FormerRow : Type 0 where
  pub misplaced : ℕ → Bool
  pub width : ℕ
  pub values : Bool
  pub names : ℕ → Bool
  pub makes : Bool
  pub ends : Bool
  pub command : Command

-- every other byte is unknown
abbrev other_row : (ℕ → Bool) → ℕ → Bool → Bool → Command → FormerRow
other_row misplaced width values ends c = record {
  misplaced = misplaced;
  width = width;
  values = values;
  names = λ count. false;
  makes = false;
  ends = ends;
  command = c;
}

abbrev pub row_in : List (ℕ × FormerRow) → ℕ → FormerRow
row_in [] b = other_row (λ k. true) 0 false false unknown
row_in (r ∷ rs) b = cond (eqb b r.0) r.1 (row_in rs b)

abbrev pub FormerCommand : Command → Type 0
FormerCommand edition = Unit {0}
FormerCommand (result m) = FormerOperands m
FormerCommand finish = Unit {0}
FormerCommand unknown = Unit {0}

module _ (job : List ℕ) (at : ℕ) where
  -- ---- the former table

  abbrev byte : ℕ → ℕ
  byte i = byte_at job (at + i)

  -- "not yet a result": of no byte, of the first after the command's, of the first two
  abbrev names_none : ℕ → Bool
  names_none count = false

  abbrev names_one : ℕ → Bool
  names_one count = leb count (byte 1)

  abbrev names_two : ℕ → Bool
  names_two count = leb count (byte 1) || leb count (byte 2)

  -- "0xFF means 32"
  abbrev kept : ℕ
  kept = former_kept (byte 3)

  -- a command that makes a result, refused before the edition
  abbrev result_row : ℕ → Bool → (ℕ → Bool) → Maker → FormerRow
  result_row width values names maker = record {
    misplaced = λ k. eqb k 0;
    width = width;
    values = values;
    names = names;
    makes = true;
    ends = false;
    command = result maker;
  }

  abbrev root_row : RootRule → FormerRow
  root_row rule = result_row 267 false names_one (root rule (byte 1) (candidate_at job (at + 2)) (candidate_at job (at + 135)))

  -- "edition not 1"
  abbrev pub former_edition : FormerRow
  former_edition = other_row (λ k. not (eqb k 0)) 1 (not (eqb (byte 1) 1)) false edition

  -- the rows but the edition's
  abbrev before : FormerRow
  before = other_row (λ k. eqb k 0) 0 false true finish

  abbrev behind : List (ℕ × FormerRow)
  behind =
      (0x10, result_row 137 false names_none (load (block_at job (at + 1) (unsigned_at job (at + 134)) standard_interval)))
      ∷ (0x11, result_row 2 false names_two (add (byte 1) (byte 2)))
      ∷ (0x12, result_row 2 false names_two (subtract (byte 1) (byte 2)))
      ∷ (0x13, result_row 3 (ltb 32 kept) names_two (multiply (byte 1) (byte 2) kept))
      ∷ (0x20, result_row 268 false names_two (quotient (byte 1) (byte 2) (candidate_at job (at + 3)) (candidate_at job (at + 136))))
      ∷ (0x21, root_row ByDiscriminant)
      ∷ (0x22, root_row ByLeastRadius)
      ∷ []

  abbrev pub former_table : List (ℕ × FormerRow)
  former_table = (0x00, before) ∷ (0x01, former_edition) ∷ behind

  abbrev pub former_row : ℕ → FormerRow
  former_row b = row_in former_table b

  -- ---- the operands

  -- what holds of every row and of unknown bytes holds of what a byte means
  abbrev OfRows : List (ℕ × FormerRow) → Type 0
  OfRows [] = Unit {0}
  OfRows (r ∷ rs) = FormerCommand r.1.command × OfRows rs

  of_row : (rs : List (ℕ × FormerRow)) → OfRows rs → (b : ℕ) → FormerCommand (row_in rs b).command
  of_row [] a b = tt
  of_row (r ∷ rs) a b = by (eqb b r.0) (of_row rs a.1 b)
    where
      by : (t : Bool) → FormerCommand (row_in rs b).command → FormerCommand (cond t r.1 (row_in rs b)).command
      by true p = a.0
      by false p = p

  former_operands : (b : ℕ) → FormerCommand (former_row b).command
  unfolding signeds_at
  former_operands b =
      of_row former_table (tt, (tt, (record { on = refl; all = refl }, (tt, (tt, (kept_again (byte 3), (refl, (refl, (refl, tt))))))))) b

  -- ---- today's

  abbrev pub present_row : Kind → FormerRow
  present_row kind = record {
    misplaced = λ k. bad_kind k kind;
    width = (layout_for kind).width;
    values = bad_values (layout_for kind).values job at;
    names = λ count. bad_names (command_at kind job at) count;
    makes = makes_result kind;
    ends = is_end kind;
    command = command_at kind job at;
  }

  abbrev present_table : List (ℕ × Kind) → List (ℕ × FormerRow)
  present_table rs = map (λ r. (r.0, present_row r.1)) rs

  present_row_lem : (rs : List (ℕ × Kind)) (b : ℕ) → present_row (kind_in rs b) ≡ row_in (present_table rs) b
  present_row_lem [] b = refl
  present_row_lem (r ∷ rs) b = by (eqb b r.0) (present_row_lem rs b)
    where
      by : (t : Bool) → present_row (kind_in rs b) ≡ row_in (present_table rs) b
          → present_row (cond t r.1 (kind_in rs b)) ≡ cond t (present_row r.1) (row_in (present_table rs) b)
      by true e = refl
      by false e = e

  -- a row that a byte does not name may be left out
  row_unused : (xs ys : List (ℕ × FormerRow)) (r : ℕ × FormerRow) (b : ℕ) → eqb b r.0 ≡ false → row_in (xs ++ (r ∷ ys)) b ≡ row_in (xs ++ ys) b
  row_unused [] ys r b e = rw e
  row_unused (x ∷ xs) ys r b e = ap (cond (eqb b x.0) x.1) (row_unused xs ys r b e)

  module _ (one : eqb (edition_of job) 2 ≡ false) where
    present_rows : drop 2 (take 6 (present_table command_bytes)) ++ drop 7 (present_table command_bytes) ≡ behind
    unfolding maker_at
    present_rows = rw (one, kept_above (byte 3))

    -- what the rows of the edition have in common, today's row of a byte has in common with its former one
    pub row_former : {X : Type 0} (g : FormerRow → X) → g (present_row Edition) ≡ g former_edition → (b : ℕ) → ¬ (b ≡ 0x14)
        → g (present_row (kind_in command_bytes b)) ≡ g (former_row b)
    row_former g same b h =
        ap g (present_row_lem command_bytes b
        ∙ row_unused (take 6 (present_table command_bytes)) (drop 7 (present_table command_bytes)) (0x14, _) b (ne_eqb b 0x14 h)
        ∙ ap (λ rows. row_in ((0x00, before) ∷ (0x01, present_row Edition) ∷ rows) b) present_rows)
        ∙ by (eqb b 0x00) (eqb b 0x01)
      where
        by : (s t : Bool) → g (cond s before (cond t (present_row Edition) (row_in behind b))) ≡ g (cond s before (cond t former_edition (row_in behind b)))
        by true t = refl
        by false true = same
        by false false = refl

    pub present_operands : (b : ℕ) → ¬ (b ≡ 0x14) → FormerCommand (command_at (kind_in command_bytes b) job at)
    present_operands b h = subst FormerCommand (sym (row_former (λ r. r.command) refl b h)) (former_operands b)
