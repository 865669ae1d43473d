-- Two answers of a test with one meaning are the same answer.
use Rattle.std.specs.Prelude.{◌≡◌, Result, Ok, Err}
use Rattle.std.proofs.Common.{sym, ap}
use Rattle.model.specs.definitions.Outcomes.{number, payload}
use Rattle.model.proofs.laws.OutcomeLaws.{number_of_injective}
use Rattle.model.proofs.laws.PlaceLaws.{refused_not_accepted}
use Rattle.model.specs.declared.types.Refusal.{Refusal}
use Rattle.certificate.specs.definitions.Tests.{test_of}
use Rattle.certificate.specs.declared.types.Certificate.{Certificate as CodeCertificate}

pub test_of_injective : (r s : Result CodeCertificate Refusal) → test_of r ≡ test_of s → r ≡ s
test_of_injective (Ok c) (Ok d) e =
    let p = ap payload e in
    λ i. Ok (record { model = (p i).model; contraction = (p i).m; residual = (p i).N; displacement = (p i).b })
test_of_injective (Ok c) (Err r) e = absurd (refused_not_accepted (sym e))
test_of_injective (Err r) (Ok c) e = absurd (refused_not_accepted e)
test_of_injective (Err r) (Err s) e = ap Err (number_of_injective r s (ap number e))
