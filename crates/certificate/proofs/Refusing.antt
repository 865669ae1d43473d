-- What is passed up by `?` refuses with its own number.
use Rattle.std.specs.Prelude.{◌≡◌, Result, Ok, Err}
use Rattle.std.specs.Result.{IsErr, IsErrAnd}
use Rattle.std.proofs.Common.{ap}
use Rattle.model.specs.definitions.Outcomes.{refused, number_of}
use Rattle.model.specs.declared.types.Refusal.{Refusal}
use Rattle.certificate.specs.definitions.Tests.{refused_test, test_of}
use Rattle.certificate.specs.definitions.InnerContracts.{zero_reach, reach_of}
use Rattle.certificate.specs.declared.types.Certificate.{Certificate as CodeCertificate}
use Rattle.certificate.specs.declared.root_end.RootNumbers.{RootNumbers}

pub test_refused : (r : Result CodeCertificate Refusal) (e : Refusal) → IsErr r × IsErrAnd r (λ d. d ≡ e) → test_of r ≡ refused_test (number_of e)
test_refused (Ok c) e h = absurd h.1
test_refused (Err d) e h = ap (λ (k : Refusal). refused_test (number_of k)) h.1

pub reach_refused : (r : Result RootNumbers Refusal) (e : Refusal) → IsErr r × IsErrAnd r (λ d. d ≡ e) → reach_of r ≡ refused (number_of e) zero_reach
reach_refused (Ok n) e h = absurd h.1
reach_refused (Err d) e h = ap (λ (k : Refusal). refused (number_of k) zero_reach) h.1
