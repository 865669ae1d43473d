-- `bytes::read_coefficients` meets its contract.
use Rattle.std.proofs.Common.{rules, arith, sym, ◌∙◌, pos, ◌≢◌, ◌<◌, length, length-set, below_more, get_or-set_other, get_or-set_same}
use mir.Syntax.{w32}
use mir.Val.{SFits}
use mir.Facts.{to_z-of_z}
use Rattle.std.proofs.lemmas.List.{ext_get_or}
use Rattle.job.proofs.ByteLaws.{length-signeds_at, get_d_signeds_at}
use Rattle.job.proofs.bytes.read_coefficients.Goals as goal

pub loop-k-preserved : goal.loop-k-preserved
loop-k-preserved c =
    let fits : SFits w32 c.read_signed.result = search rules in
    let before : c.loop-k.k < length c.loop-k.coefficients = omega arith in
    record {
      long = length-set _ _ _ ∙ c.loop-k.invariant.long;
      read = below_more _ _
          (λ j h. let ne : j ≢ c.loop-k.k = omega arith in rw get_or-set_other (c.loop-k.invariant.read j h))
          (rw get_or-set_same (simp to_z-of_z c.read_signed.ensures));
    }

pub returns : goal.returns
returns c =
    let g = c.args in
    ext_get_or (pos 0) c.loop-k.coefficients _ (c.loop-k.invariant.long ∙ sym (length-signeds_at g.s.now g.i 33))
    (λ j h. c.loop-k.invariant.read j (omega arith) ∙ sym (get_d_signeds_at g.s.now g.i 33 j (pos 0) (omega arith)))
