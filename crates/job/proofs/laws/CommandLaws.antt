-- One command: what its places say of what it does.
use Rattle.std.specs.Prelude.{◌≡◌, refl, Bool, true, false, ◌&&◌, ◌||◌, List, ◌⊎◌, ℕ, ◌≤◌, ◌<◌, leb, length}
use Rattle.std.proofs.Common.{sym, ◌∙◌, true≢false, inl, inr, leb-false, ltb-false}
use Rattle.std.proofs.Math.Path.{ap}
use Rattle.std.proofs.lemmas.Bool.{false≢true}
use Rattle.model.specs.definitions.Outcomes.{Outcome, accepted, payload, Passed, First}
use Rattle.model.proofs.laws.PlaceLaws.{passing_passed, outcome_passed, first_parts, passed_append, passing_first, none_first}
use Rattle.certificate.specs.definitions.Tests.{zero_certificate}
use Rattle.model.specs.declared.types.Model.{Model}
use Rattle.job.specs.definitions.Operations.{Maker, making_for, given_in, operation, maker_places}
use Rattle.job.specs.definitions.Decode.{Command, edition, result, finish, unknown, maker_at, command_at}
use Rattle.job.specs.definitions.Reading.{shape_at, command_read, next_at, max_results, bad_kind, bad_values, bad_names, makes_result, is_end, reading_places}
use Rattle.job.specs.definitions.Step.{more, over, refused, resulting, performed, command}
use Rattle.job.specs.definitions.Order.{operation_places, results_after, command_places, is_last}
use Rattle.job.specs.declared.types.Kind.{Kind}
use Rattle.job.specs.declared.types.Kind.TheVariants.{End, Edition, Result, Unknown}

-- ---- the places of the makers

-- a maker whose places are all passed gives its certificate
pub operation_passed : (m : Maker) (rs : List Model) → Passed (maker_places m rs)
    → operation m rs ≡ accepted (payload (operation m rs))
unfolding operation
operation_passed m rs f =
    let e = outcome_passed (maker_places m rs) (given_in (making_for m) rs).certificate zero_certificate f in e ∙ ap accepted (ap payload (sym e))

pub operation_refuses : (m : Maker) (rs : List Model) {n : ℕ} → First (maker_places m rs) n → operation m rs ≡ Outcome.refused n zero_certificate
unfolding operation
operation_refuses m rs f = passing_first (accepted (given_in (making_for m) rs).certificate) (λ k. Outcome.refused k zero_certificate) f

-- ---- reading without a refusal

-- two bytes that name results name earlier ones
pub both_below : (count i j : ℕ) → (leb count i || leb count j) ≡ false → (i < count) × (j < count)
both_below count i j = by (leb count i) refl
  where
    by : (t : Bool) → leb count i ≡ t → (t || leb count j) ≡ false → (i < count) × (j < count)
    by true e h = absurd (true≢false h)
    by false e h = (leb-false count i e, leb-false count j h)

pub record Readable (job : List ℕ) (k count at : ℕ) : Type 0 where
  pub inside : at < length job
  pub kind_good : bad_kind k (shape_at job k count at).kind ≡ false
  pub room : next_at job k count at ≤ length job
  pub values_good : bad_values (shape_at job k count at).values job at ≡ false
  pub names_good : bad_names (command_read job k count at) count ≡ false
  pub space : (makes_result (shape_at job k count at).kind && leb max_results count) ≡ false

pub readable : (job : List ℕ) (k count at : ℕ) → Passed (reading_places job k count at) → Readable job k count at
unfolding reading_places
readable job k count at f = record {
  inside = leb-false _ _ f.0;
  kind_good = f.1.0;
  room = ltb-false _ _ f.1.1.0;
  values_good = f.1.1.1.0;
  names_good = f.1.1.1.1.0;
  space = f.1.1.1.1.1.0;
}

-- ---- performing

pub is_end_is : (kind : Kind) → is_end kind ≡ true → kind ≡ End
is_end_is End e = refl
is_end_is Edition e = absurd (false≢true e)
is_end_is (Result o) e = absurd (false≢true e)
is_end_is Unknown e = absurd (false≢true e)

-- a place of the operation that holds: a refusal
module _ (rs : List Model) (next n : ℕ) where
  performed_refuses : (c : Command) → First (operation_places c rs) n → performed c rs next ≡ refused n
  performed_refuses edition f = absurd (none_first tt f)
  performed_refuses (result m) f = ap (resulting rs next) (operation_refuses m rs f)
  performed_refuses finish f = absurd (none_first tt f)
  performed_refuses unknown f = absurd (none_first tt f)

-- all places of the operation passed: one more result
performed_takes : (job : List ℕ) (k at : ℕ) (rs : List Model) (next : ℕ) (kind : Kind) → is_end kind ≡ false → bad_kind k kind ≡ false
    → Passed (operation_places (command_at kind job at) rs)
    → performed (command_at kind job at) rs next ≡ more (results_after (command_at kind job at) rs) next
performed_takes job k at rs next End e b f = absurd (true≢false e)
performed_takes job k at rs next Edition e b f = refl
performed_takes job k at rs next (Result o) e b f =
    ap (resulting rs next) (operation_passed (maker_at o job at) rs f)
performed_takes job k at rs next Unknown e b f = absurd (true≢false b)

-- ---- command k at a position, after the results rs

module _ (job : List ℕ) (k : ℕ) (rs : List Model) (at : ℕ) where
  abbrev c : Command
  c = command_read job k (length rs) at

  abbrev kind : Kind
  kind = (shape_at job k (length rs) at).kind

  abbrev reading : List (Bool × ℕ)
  reading = reading_places job k (length rs) at

  reads : Passed reading → command job k rs at ≡ performed c rs (next_at job k (length rs) at)
  unfolding command
  reads f = passing_passed reading _ _ f

  pub command_readable : Passed (command_places job k rs at) → Readable job k (length rs) at
  unfolding command_places
  command_readable f = readable job k (length rs) at ((passed_append reading (operation_places c rs)).0 f).0

  pub command_refuses : {n : ℕ} → First (command_places job k rs at) n → command job k rs at ≡ refused n
  unfolding command_places command
  command_refuses {n} f = by (first_parts reading (operation_places c rs) f)
    where
      by : First reading n ⊎ (Passed reading × First (operation_places c rs) n) → command job k rs at ≡ refused n
      by (inl g) = passing_first _ _ g
      by (inr g) = reads g.0 ∙ performed_refuses rs (next_at job k (length rs) at) n c g.1

  pub command_ends : Passed (command_places job k rs at) → is_last job k rs at ≡ true → command job k rs at ≡ over
  unfolding command_places
  command_ends f e =
      reads ((passed_append reading (operation_places c rs)).0 f).0
      ∙ ap (λ (x : Kind). performed (command_at x job at) rs (next_at job k (length rs) at)) (is_end_is kind e)

  pub command_goes_on : Passed (command_places job k rs at) → is_last job k rs at ≡ false
      → command job k rs at ≡ more (results_after c rs) (next_at job k (length rs) at)
  unfolding command_places
  command_goes_on f e =
      reads ((passed_append reading (operation_places c rs)).0 f).0
      ∙ performed_takes job k at rs (next_at job k (length rs) at) kind e (command_readable f).kind_good
      ((passed_append reading (operation_places c rs)).0 f).1

  -- the places of its operation alone
  pub command_passed : Passed (command_places job k rs at) → Passed (operation_places c rs)
  unfolding command_places
  command_passed f = ((passed_append reading (operation_places c rs)).0 f).1
