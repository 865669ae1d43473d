-- `editions::convert_edition` meets its contract.
use mathlib.Core.Path.{◌≡◌, refl, sym, ap, ◌∙◌}
use mathlib.Core.List.{List, [], ◌++◌}
use Prim.Native.Nat.{ℕ, ◌+◌, ◌≤◌}
use native.Mathlib.Omega.{arith}
use lib.ListN.{length, drop, take, replicate}
use lib.Seq.{take_at}
use Rattle.std.proofs.lemmas.Result.{err_from_is_err_and}
use Rattle.job.specs.definitions.Reader.{job_reading}
use Rattle.survey.specs.definitions.Editions.{converted, convert_from, edition_conversion, output_after}
use Rattle.job.specs.definitions.Outcomes.{JobOutcome, accepted, refused, job_outcome_of}
use Rattle.model.specs.definitions.Outcomes.{number_of}
use Rattle.survey.proofs.laws.ConvertedOutput.{output_claim}
use Rattle.survey.proofs.laws.OutputLaws.{read_well, refused_ill, conversion_short, conversion_well, conversion_ill, output_well, output_ill, output_short, lent_twice, lent_length}
use Rattle.survey.proofs.editions.convert_edition.Goals as goal

is-converted : (job : List ℕ) → convert_from (length job + 1) job [] 0 job ≡ converted job
unfolding converted
is-converted job = refl

pub returns-in_err-read : goal.returns-in_err-read
returns-in_err-read c =
    let job = c.args.job.now in
    let out = c.args.out.now in
    let p = err_from_is_err_and c.from_residual.result c.from_residual.ensures.1 in
    let i = refused_ill (job_reading job) (sym (ap job_outcome_of c.in_err-read.was) ∙ c.walk-read.ensures.result_value) in
    let e : job_outcome_of c.from_residual.result ≡ edition_conversion job (length out) = rw (p.1, p.2) (sym (conversion_ill job (length out) i)) in
    let f : c.fill.new.self ≡ output_after job out =
    c.fill.ensures.after (λ y e. e) ∙ ap (λ (n : ℕ). replicate n 0) c.walk-read.auto.out ∙ sym (output_ill job out i) in
    record { result_value = e; out_after = f; by_index = output_claim job out e f }

pub returns-then-out-len : goal.returns-then-out-len
returns-then-out-len c =
    let job = c.args.job.now in
    let out = c.args.out.now in
    let short = c.if-out-len.true in
    let r = read_well (job_reading job) (sym (ap job_outcome_of c.in_ok-read.was) ∙ c.walk-read.ensures.result_value) in
    let e : ◌≡◌ {A = JobOutcome ℕ} (refused 20 0) (edition_conversion job (length out)) = sym (conversion_short job (length out) r.1 short) in
    let f : c.fill.new.self ≡ output_after job out =
    c.fill.ensures.after (λ y e. e) ∙ ap (λ (n : ℕ). replicate n 0) c.walk-read.auto.out ∙ sym (output_short job out short) in
    record { result_value = e; out_after = f; by_index = output_claim job out e f }

pub returns-in-Err : goal.returns-in-Err
returns-in-Err c =
    let job = c.args.job.now in
    let out = c.args.out.now in
    let len = length job in
    let w = c.walk in
    let roomy : len ≤ length out = omega arith in
    let copied : c.copy.new.to ≡ job = c.copy.ensures in
    let lent = c.copy.new.to ++ drop len out in
    let first : take len lent ≡ job = take_at c.copy.new.to (drop len out) len (ap length copied) ∙ copied in
    let k : length w.new.out ≡ len = w.auto.out ∙ ap length first in
    let l = lent_length len c.copy.new.to out (ap length copied) roomy in
    let n = lent_length len w.new.out lent k (omega (arith, l, roomy)) ∙ l in
    let i = refused_ill (job_reading job) c.in-Err.ensures.result_value in
    let e : ◌≡◌ {A = JobOutcome ℕ} (refused (number_of c.in-Err.refused.refusal) c.in-Err.refused.command) (edition_conversion job (length out)) =
    sym (conversion_ill job (length out) i) in
    let f : c.fill-in-Err.new.self ≡ output_after job out =
    c.fill-in-Err.ensures.after (λ y e. e) ∙ ap (λ (n : ℕ). replicate n 0) n ∙ sym (output_ill job out i) in
    record { result_value = e; out_after = f; by_index = output_claim job out e f }

-- the job was copied into the first bytes
pub returns : goal.returns
returns c =
    let job = c.args.job.now in
    let out = c.args.out.now in
    let w = c.walk in
    let roomy : length job ≤ length out = omega arith in
    let copied : c.copy.new.to ≡ job = c.copy.ensures in
    let first : take (length job) (c.copy.new.to ++ drop (length job) out) ≡ job =
    take_at c.copy.new.to (drop (length job) out) (length job) (ap length copied) ∙ copied in
    let r = read_well (job_reading job) c.in_default.ensures.result_value in
    let e : ◌≡◌ {A = JobOutcome ℕ} (accepted (length job)) (edition_conversion job (length out)) =
    sym (conversion_well job (length out) r.1 roomy) in
    let f : w.new.out ++ drop (length job) (c.copy.new.to ++ drop (length job) out) ≡ output_after job out =
    lent_twice (length job) c.copy.new.to out (ap length copied) w.new.out
    ∙ ap (λ (l : List ℕ). l ++ drop (length job) out)
    (w.ensures.out_after r ∙ ap (convert_from (length job + 1) job [] 0) first ∙ is-converted job)
    ∙ sym (output_well job out r.1 roomy) in
    record { result_value = e; out_after = f; by_index = output_claim job out e f }
