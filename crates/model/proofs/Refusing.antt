-- What is passed up by `?` refuses with its own number.
use Rattle.std.specs.Prelude.{◌≡◌, Result, Ok, Err}
use Rattle.std.specs.Result.{IsErr, IsErrAnd}
use Rattle.std.proofs.Common.{ap}
use Rattle.model.specs.definitions.Outcomes.{refused, number_of, judged}
use Rattle.model.specs.declared.types.Refusal.{Refusal}

pub passed_up : {A : Type 0} (z : A) (r : Result A Refusal) (e : Refusal) → IsErr r × IsErrAnd r (λ d. d ≡ e) → judged z r ≡ refused (number_of e) z
passed_up z (Ok a) e h = absurd h.1
passed_up z (Err d) e h = ap (λ (k : Refusal). refused (number_of k) z) h.1
