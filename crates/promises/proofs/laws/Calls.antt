-- The promises about calls from C are kept.
use Rattle.ferruntzo.proofs.laws.ScratchLaws as scratches
use Rattle.ferruntzo.proofs.laws.TightLaws as tight
use Rattle.promises.specs.definitions.Calls.{Calls}

pub calls_kept : Calls
calls_kept = record {
  quotient_call_as_65 = λ s t l k f g h w out numbers. scratches.quotient_call_as_65 s t l k h w out numbers f g;
  root_call_as_65 = λ s t l k rule f h w out numbers. scratches.root_call_as_65 s t l k h w out numbers rule f;
  selection_call_as_65 = λ s t l k f g first second answer. scratches.selection_call_as_65 s t l k f g first second answer;
  check_call_as_65 = λ s t l k job work answer. scratches.check_call_as_65 s t l k job work answer;
  tight_call_implies = λ f h w s out numbers c e. tight.tight_call_implies f h w s out numbers e;
  tight_call_not_larger = λ f h w s out t out' numbers numbers' c d e k. tight.tight_call_not_larger f h w s out t out' numbers numbers' e k;
}
