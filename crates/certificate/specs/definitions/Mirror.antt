-- Document 02, S-11: "A mirrored crown must give mirrored models", of what a test gives.
use Rattle.model.specs.declared.types.Model.{Model}
use Rattle.certificate.specs.definitions.Tests.{Certificate, make_certificate}

-- the certificate with another model in its model's place; m, N and b stay
abbrev pub on_model : (Model → Model) → Certificate → Certificate
on_model f c = make_certificate (f c.model) c.m c.N c.b
