-- `area::read` meets its contract: a candidate, then three numbers more.
use Rattle.std.proofs.Common.{rules, arith, ◌≡◌, refl, ◌∙◌, ap, ℤ, pos, negsuc, get_or, w32, FitsSigned, of_z, to_z-of_z}
use lib.ListN.{length-take}
use Rattle.model.specs.definitions.Area.{candidate_size, unsigned_of, area_candidate}
use Rattle.model.proofs.laws.AreaLaws.{candidate_front}
use Rattle.model.proofs.area.read.Goals as goal

pub slice_bounds-read_candidate-end : goal.slice_bounds-read_candidate-end
slice_bounds-read_candidate-end c = simp length-take (omega arith)

unsigned_is : (z : ℤ) → of_z w32 z ≡ unsigned_of z
unsigned_is (pos n) = refl
unsigned_is (negsuc n) = omega arith

pub returns : goal.returns
returns c =
    let s = c.args.area.now in
    let e : c.read_candidate-candidate.result ≡ area_candidate s = c.read_candidate-candidate.ensures ∙ candidate_front candidate_size s (omega arith) in
    let radius : FitsSigned w32 (get_or s candidate_size (pos 0)) = search rules in
    let lower : FitsSigned w32 (get_or s 35 (pos 0)) = search rules in
    let upper : FitsSigned w32 (get_or s 36 (pos 0)) = search rules in
    let r : c.cast_unsigned-radius.result ≡ unsigned_of (get_or s candidate_size (pos 0)) = c.cast_unsigned-radius.ensures ∙ ap (of_z w32) (to_z-of_z radius) ∙ unsigned_is (get_or s candidate_size (pos 0)) in
    (simp (to_z-of_z lower, to_z-of_z upper) at c.new.ensures) ∙ rw (e, r)
