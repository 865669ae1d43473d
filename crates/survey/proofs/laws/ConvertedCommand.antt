-- One command of a converted job: it reads as well as the source's, and its operation gives the same.
use Rattle.std.specs.Prelude.{◌≡◌, Bool, true, false, not, cond, ◌&&◌, List, [], ◌∷◌, ℕ, ◌+◌, ◌≤◌, leb, ltb, eqb, length}
use Rattle.std.proofs.Math.Path.{refl, ap, ap₂}
use Rattle.std.proofs.Common.{subst, ◌∙◌, true≢false, arith, ne_eqb, le-ltb}
use Rattle.std.proofs.Math.Seq.{get_or-set_same}
use Rattle.model.specs.definitions.Intervals.{standard_interval}
use Rattle.model.specs.definitions.Models.{max_degree}
use Rattle.model.specs.definitions.Outcomes.{Passed, outcome}
use Rattle.model.specs.definitions.Multiply.{bad_kept, kept_degree, product_model, multiplication_places}
use Rattle.model.proofs.laws.MultiplicationLaws.{kept_is, kept_within}
use Rattle.model.proofs.laws.PlaceLaws.{passing_passed}
use Rattle.model.specs.declared.types.Interval.{Interval}
use Rattle.model.specs.declared.types.Model.{Model}
use Rattle.certificate.specs.definitions.Tests.{zero_certificate}
use Rattle.job.specs.definitions.Bytes.{byte_at, unsigned_at, block_at, interval_at}
use Rattle.job.specs.definitions.Operations.{Maker, load, add, subtract, multiply, quotient, root, result_at, names_bad, maker_places, operation, untested}
use Rattle.job.specs.definitions.Decode.{command_bytes, kind_in, edition_of, kept_byte, operands_for, maker_at, layout_for, command_at}
use Rattle.job.specs.definitions.Reading.{max_results, bad_kind, bad_values, bad_names, makes_result, is_end, reading_places}
use Rattle.job.specs.definitions.Step.{performed, command}
use Rattle.job.specs.declared.types.Operation.{Operation}
use Rattle.job.specs.declared.types.Operation.TheVariants.{Load, LoadOn, Add, Subtract, Multiply, Quotient, Root}
use Rattle.job.specs.declared.types.Kind.{Kind}
use Rattle.survey.specs.definitions.Degrees.{degree_at, degrees_after}
use Rattle.survey.specs.definitions.Editions.{other_edition, maker_converted, command_converted, convert_from}
use Rattle.survey.proofs.laws.DegreeLaws.{degrees_in, degree_at_lem, Small, KeptGood}
use Rattle.survey.proofs.laws.ConvertedBytes.{maker_before, agree_unsigned, agree_block, agree_candidate, agree_interval, Agree}

-- ---- a command by its kind

abbrev pub next_for : Kind → ℕ → ℕ
next_for kind at = at + 1 + (layout_for kind).width

abbrev pub places_for : Kind → List ℕ → ℕ → ℕ → ℕ → List (Bool × ℕ)
places_for kind job k count at =
    (leb (length job) at, 10)
    ∷ (bad_kind k kind, 9)
    ∷ (ltb (length job) (next_for kind at), 10)
    ∷ (bad_values (layout_for kind).values job at, 9)
    ∷ (bad_names (command_at kind job at) count, 12)
    ∷ (makes_result kind && leb max_results count, 13)
    ∷ (is_end kind && ltb (next_for kind at) (length job), 11)
    ∷ []

abbrev pub kind_at : List ℕ → ℕ → Kind
kind_at job at = kind_in command_bytes (byte_at job at)

-- what converting leaves, by the command's kind
abbrev pub convert_by : ℕ → List ℕ → ℕ → List ℕ → List ℕ → Kind → List ℕ
convert_by f job at ds s kind =
    let c = command_at kind job at in
    cond (is_end kind) s (convert_from f job (degrees_after c ds) (next_for kind at) (command_converted c job at ds s))

pub command_by : (job : List ℕ) (k : ℕ) (rs : List Model) (at : ℕ) (kind : Kind) → kind_at job at ≡ kind
    → Passed (places_for kind job k (length rs) at) → command job k rs at ≡ performed (command_at kind job at) rs (next_for kind at)
unfolding command reading_places
command_by job k rs at kind e =
    subst
    (λ (x : Kind). Passed (places_for x job k (length rs) at) → command job k rs at ≡ performed (command_at x job at) rs (next_for x at)) e
    (λ f. passing_passed (places_for (kind_at job at) job k (length rs) at) _ _ f)

-- ---- its maker

-- a maker with its kept degree stated
abbrev pub stated : Maker → List ℕ → Maker
stated (load m) ds = load m
stated (add i j) ds = add i j
stated (subtract i j) ds = subtract i j
stated (multiply i j d) ds = multiply i j (kept_degree d (degree_at ds i) (degree_at ds j))
stated (quotient i j h w) ds = quotient i j h w
stated (root rule i h w) ds = root rule i h w

pub stated_names : (m : Maker) (ds : List ℕ) (count : ℕ) → names_bad (stated m ds) count ≡ names_bad m count
stated_names (load m) ds count = refl
stated_names (add i j) ds count = refl
stated_names (subtract i j) ds count = refl
stated_names (multiply i j d) ds count = refl
stated_names (quotient i j h w) ds count = refl
stated_names (root rule i h w) ds count = refl

-- the byte of the kept degree is what it stands for
abbrev pub StatesByte : Maker → ℕ → List ℕ → List ℕ → Type 0
StatesByte (load m) at ds s = Unit {0}
StatesByte (add i j) at ds s = Unit {0}
StatesByte (subtract i j) at ds s = Unit {0}
StatesByte (multiply i j d) at ds s = byte_at s (at + 3) ≡ kept_degree d (degree_at ds i) (degree_at ds j)
StatesByte (quotient i j h w) at ds s = Unit {0}
StatesByte (root rule i h w) at ds s = Unit {0}

-- a byte within the limit says the same in every edition
kept_byte_is : (e d : ℕ) → d ≤ max_degree → kept_byte e d ≡ d
kept_byte_is e d h = by (eqb e 2)
  where
    by : (t : Bool) → cond t d (cond (eqb d 0xFF) max_degree d) ≡ d
    by true = refl
    by false = rw (ne_eqb d 0xFF (λ x. omega arith))

and_false : (t : Bool) → (t && false) ≡ false
and_false true = refl
and_false false = refl

not_bad : (d : ℕ) → d ≤ max_degree → bad_kept d ≡ false
not_bad d h = rw (le-ltb max_degree d h) (and_false (not (eqb d 255)))

-- a byte that reading takes is a kept degree that the library takes
pub kept_byte_good : (e d : ℕ) → bad_kept d ≡ false → bad_kept (kept_byte e d) ≡ false
kept_byte_good e d h = by (eqb e 2) (eqb d 0xFF)
  where
    by : (t u : Bool) → bad_kept (cond t d (cond u max_degree d)) ≡ false
    by true u = h
    by false true = refl
    by false false = h

pub kept_good : (op : Operation) (job : List ℕ) (at : ℕ) → bad_values (operands_for op).values job at ≡ false → KeptGood (maker_at op job at)
unfolding maker_at
kept_good Load job at h = tt
kept_good LoadOn job at h = tt
kept_good Add job at h = tt
kept_good Subtract job at h = tt
kept_good Multiply job at h = kept_byte_good (edition_of job) (byte_at job (at + 3)) h
kept_good Quotient job at h = tt
kept_good (Root rule) job at h = tt

-- the bytes `s` are the job's from a position on
pub record Copied (job : List ℕ) (at : ℕ) (s : List ℕ) : Type 0 where
  pub same : (j : ℕ) → at ≤ j → byte_at s j ≡ byte_at job j
  pub long : length s ≡ length job

module _ (job J : List ℕ) (at : ℕ) (ds s : List ℕ) (c : Copied job at s) where
  -- the bytes of J up to the next command are those of s with this command converted
  abbrev Follows : Operation → Type 0
  Follows op = (j : ℕ) → j ≤ at + 1 + (operands_for op).width → byte_at J j ≡ byte_at (maker_converted (maker_at op job at) at ds s) j

  agrees : (n : ℕ) → ((j : ℕ) → j ≤ at + 1 + n → byte_at J j ≡ byte_at s j) → Agree J job at (at + 1 + n)
  agrees n h j p q = h j (omega arith) ∙ c.same j p

  pub states_byte : (op : Operation) → at + 1 + (operands_for op).width ≤ length job → Follows op → StatesByte (maker_at op job at) at ds J
  unfolding maker_at
  states_byte Load r h = tt
  states_byte LoadOn r h = tt
  states_byte Add r h = tt
  states_byte Subtract r h = tt
  states_byte Multiply r h = h (at + 3) (omega arith) ∙ get_or-set_same s (at + 3) _ 0 (omega (arith, c.long))
  states_byte Quotient r h = tt
  states_byte (Root rule) r h = tt

  -- the block and the radius behind a load's byte
  loads : (l : Interval) (n : ℕ) → 137 ≤ n → ((j : ℕ) → j ≤ at + 1 + n → byte_at J j ≡ byte_at s j)
      → load (block_at J (at + 1) (unsigned_at J (at + 134)) l) ≡ load (block_at job (at + 1) (unsigned_at job (at + 134)) l)
  loads l n wide h =
      let a = agrees n h in
      ap₂ (λ (e : ℕ) (m : ℕ → Model). load (m e)) (agree_unsigned J job (at + 134) (λ j p q. a j (omega arith) (omega arith)))
      (λ i e. agree_block J job (at + 1) e l (λ j p q. a j (omega arith) (omega arith)) i)

  pub maker_stated : (op : Operation) → at + 1 + (operands_for op).width ≤ length job → KeptGood (maker_at op job at) → Small ds → Follows op
      → maker_at op J at ≡ stated (maker_at op job at) ds
  unfolding maker_at
  maker_stated Load r g small h = loads standard_interval 137 (omega arith) h
  maker_stated LoadOn r g small h =
      let a = agrees 145 h in
      loads (interval_at J (at + 138)) 145 (omega arith) h
      ∙ ap (λ (l : Interval). load (block_at job (at + 1) (unsigned_at job (at + 134)) l)) (agree_interval J job (at + 138) (λ j p q. a j (omega arith) (omega arith)))
  maker_stated Add r g small h =
      let a = agrees 2 h in ap₂ add (a (at + 1) (omega arith) (omega arith)) (a (at + 2) (omega arith) (omega arith))
  maker_stated Subtract r g small h =
      let a = agrees 2 h in ap₂ subtract (a (at + 1) (omega arith) (omega arith)) (a (at + 2) (omega arith) (omega arith))
  maker_stated Multiply r g small h =
      let m = maker_at Multiply job at in
      let i = byte_at job (at + 1) in
      let j = byte_at job (at + 2) in
      let d = kept_byte (edition_of job) (byte_at job (at + 3)) in
      let x = kept_degree d (degree_at ds i) (degree_at ds j) in
      let ei : byte_at J (at + 1) ≡ i = h (at + 1) (omega arith) ∙ maker_before m at ds s (at + 1) (λ e. omega arith) ∙ c.same (at + 1) (omega arith) in
      let ej : byte_at J (at + 2) ≡ j = h (at + 2) (omega arith) ∙ maker_before m at ds s (at + 2) (λ e. omega arith) ∙ c.same (at + 2) (omega arith) in
      let ex : byte_at J (at + 3) ≡ x = states_byte Multiply r h in
      let small_x : x ≤ max_degree = kept_within d (degree_at ds i) (degree_at ds j) g (small i) (small j) in
      let ed : kept_byte (edition_of J) (byte_at J (at + 3)) ≡ x = ap (kept_byte (edition_of J)) ex ∙ kept_byte_is (edition_of J) x small_x in
      λ t. multiply (ei t) (ej t) (ed t)
  maker_stated Quotient r g small h =
      let a = agrees 268 h in
      let eh = agree_candidate J job (at + 3) (λ j p q. a j (omega arith) (omega arith)) in
      let ew = agree_candidate J job (at + 136) (λ j p q. a j (omega arith) (omega arith)) in
      let ei = a (at + 1) (omega arith) (omega arith) in
      let ej = a (at + 2) (omega arith) (omega arith) in
      λ t. quotient (ei t) (ej t) (eh t) (ew t)
  maker_stated (Root rule) r g small h =
      let a = agrees 267 h in
      let eh = agree_candidate J job (at + 2) (λ j p q. a j (omega arith) (omega arith)) in
      let ew = agree_candidate J job (at + 135) (λ j p q. a j (omega arith) (omega arith)) in
      let ei = a (at + 1) (omega arith) (omega arith) in
      λ t. root rule (ei t) (eh t) (ew t)

  -- the byte that a converted kept degree becomes is one that reading takes
  pub values_stated : (op : Operation) → at + 1 + (operands_for op).width ≤ length job → KeptGood (maker_at op job at) → Small ds → Follows op
      → bad_values (operands_for op).values J at ≡ false
  unfolding maker_at
  values_stated Load r g small h = refl
  values_stated LoadOn r g small h = refl
  values_stated Add r g small h = refl
  values_stated Subtract r g small h = refl
  values_stated Multiply r g small h =
      let i = byte_at job (at + 1) in
      let j = byte_at job (at + 2) in
      let d = kept_byte (edition_of job) (byte_at job (at + 3)) in
      let x = kept_degree d (degree_at ds i) (degree_at ds j) in
      let ex : byte_at J (at + 3) ≡ x = states_byte Multiply r h in
      ap bad_kept ex ∙ not_bad x (kept_within d (degree_at ds i) (degree_at ds j) g (small i) (small j))
  values_stated Quotient r g small h = refl
  values_stated (Root rule) r g small h = refl

-- ---- its operation

same_product : (d : ℕ) (a b : Model) → kept_degree d a.degree b.degree ≤ max_degree
    → product_model (kept_degree d a.degree b.degree) a b ≡ product_model d a b
unfolding product_model
same_product d a b h = rw (kept_is (kept_degree d a.degree b.degree) a.degree b.degree h) refl

pub operation_stated : (m : Maker) (rs : List Model) → KeptGood m → Small (degrees_in rs) → operation (stated m (degrees_in rs)) rs ≡ operation m rs
unfolding operation maker_places
operation_stated (load m) rs g small = refl
operation_stated (add i j) rs g small = refl
operation_stated (subtract i j) rs g small = refl
operation_stated (multiply i j d) rs g small =
    let a = result_at rs i in
    let b = result_at rs j in
    let x = kept_degree d a.degree b.degree in
    let ds = degrees_in rs in
    let e : kept_degree d (degree_at ds i) (degree_at ds j) ≡ x = ap₂ (kept_degree d) (degree_at_lem rs i) (degree_at_lem rs j) in
    let within : x ≤ max_degree = subst (λ (n : ℕ). n ≤ max_degree) e (kept_within d (degree_at ds i) (degree_at ds j) g (small i) (small j)) in
    let p : product_model x a b ≡ product_model d a b = same_product d a b within in
    let q : multiplication_places x a b ≡ multiplication_places d a b = rw (p, not_bad x within, g) refl in
    ap (λ (n : ℕ). outcome (multiplication_places n a b) (untested (product_model n a b)) zero_certificate) e
    ∙ ap₂ (λ (ps : List (Bool × ℕ)) (r : Model). outcome ps (untested r) zero_certificate) q p
operation_stated (quotient i j h w) rs g small = refl
operation_stated (root rule i h w) rs g small = refl

-- ---- its reading

pub other_known : (e : ℕ) → (not (eqb e 1) && not (eqb e 2)) ≡ false → (not (eqb (other_edition e) 1) && not (eqb (other_edition e) 2)) ≡ false
other_known e h = by (eqb e 1) refl (eqb e 2) refl h
  where
    by : (t : Bool) → eqb e 1 ≡ t → (u : Bool) → eqb e 2 ≡ u → (not t && not u) ≡ false
        → (not (eqb (other_edition e) 1) && not (eqb (other_edition e) 2)) ≡ false
    by true p u q x = rw p refl
    by false p true q x = rw p refl
    by false p false q x = absurd (true≢false x)

pub passed_by : (job J : List ℕ) (k count at : ℕ) (kind : Kind) → length J ≡ length job
    → bad_values (layout_for kind).values J at ≡ false → bad_names (command_at kind J at) count ≡ false
    → Passed (places_for kind job k count at) → Passed (places_for kind J k count at)
passed_by job J k count at kind e v n f =
    rw e (f.0, (f.1.0, (f.1.1.0, (v, (n, (f.1.1.1.1.1.0, (f.1.1.1.1.1.1.0, tt)))))))
