-- `reports::write_number` meets its contract.
use Rattle.std.proofs.Common.{◌≡◌, ◌+◌, ◌-◌, take, sym, ap, ◌∙◌, arith}
use Rattle.std.proofs.Math.Seq.{drop-drop}
use Rattle.job.specs.definitions.Reports.{little_endian}
use Rattle.job.proofs.Rooms.{stored_between}
use Rattle.job.proofs.reports.write_number.Goals as goal

pub returns : goal.returns
returns c =
    let g = c.args in
    let bytes : c.copy_from_slice.new.self ≡ little_endian g.n = c.copy_from_slice.ensures.after ∙ ap (take 4) c.to_le_bytes.ensures in
    let four : g.at + 4 - g.at ≡ 4 = omega arith in
    rw (bytes, four, drop-drop 4 g.at g.room.now) (sym (stored_between (little_endian g.n) g.room.now g.at (omega arith)))
